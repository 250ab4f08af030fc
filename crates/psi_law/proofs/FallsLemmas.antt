-- All states' meeting is a run, so the share of the pasts that leave states apart falls geometrically, and unmet samples of meetings are counted by it.
use Rattle.std.specs.Prelude.{ℕ, ◌+◌, ◌^◌, List, Option}
use Rattle.std.proofs.Common.{arith, ap, ◌∙◌}
use Rattle.std.proofs.lemmas.Grind.{common_steps}
use Rattle.psi_state.specs.declared.Outcome.{Outcome}
use Rattle.psi_state.specs.Sets.{image, single}
use Rattle.psi_state.proofs.SetsLemmas.{single-image, single-each, In-image}
use Rattle.psi_rate.specs.Composition.{Functions, function_at, compose, image_from}
use Rattle.psi_rate.specs.Outcomes.{meeting_from, IsOutcome}
use Rattle.psi_rate.proofs.FunctionsLemmas.{function_at-keeping}
use Rattle.psi_rate.proofs.OutcomesLemmas.{meeting-reached}
use Rattle.psi_law.specs.Counting.{Words, sum_pasts}
use Rattle.psi_law.specs.Wheel.{word_count}
use Rattle.psi_law.specs.Chains.{Chain, IsFinite}
use Rattle.psi_law.specs.Samples.{is_unmet, are_apart}
use Rattle.psi_law.specs.Statements.{ApartFalls, UnmetIsApart}
use Rattle.psi_law.proofs.SumsLemmas.{one_if, sum-same, sum_pasts-is}
use Rattle.psi_law.proofs.ChainLemmas.{Own, compose-first, compose-append}
use Rattle.psi_law.proofs.CoalescenceLemmas.{AreRuns, uncoalesced-falls, unmet-last}

module _ (chain : Chain) (is : IsFinite chain) where
  abbrev meeting : Functions → ℕ → Option (List ℕ)
  meeting f = meeting_from f chain.states

  meeting-runs : AreRuns chain meeting
  meeting-runs = record {
    looks = λ f g t same. ap (λ (h : List ℕ → List ℕ). single (image h chain.states)) (compose-first f g t same);
    last = λ past. record {
      each = λ t later s order met.
          (let f = function_at chain.functions chain.rates past in
          let reached = meeting-reached (Own chain) f chain.states t s (function_at-keeping (Own chain) chain.functions chain.rates past is.keeps) (λ x own. own) met in
          single-image (compose f later) s is.some.0 chain.states is.some.1 (λ x own. reached.each x later own order));
    };
    older = λ past n k s met.
        (let f = function_at chain.functions chain.rates past in (
          compose f n s,
          single-image (compose f (n + k)) (compose f n s) is.some.0 chain.states is.some.1
              (λ x own. compose-append f n k x ∙ ap (compose f n) (single-each (image_from (λ i. f (n + i)) chain.states k) s (compose (λ i. f (n + i)) k x) met (In-image (compose (λ i. f (n + i)) k) x chain.states own))),
        ));
    ends = λ past n s x met own.
        grind (arith, common_steps, single-each, In-image);
  }

  pub apart-falls : ApartFalls chain
  apart-falls = uncoalesced-falls chain meeting meeting-runs

  pub unmet-apart : (sample : Words → Outcome) (limit : ℕ) → ((past : Words) → IsOutcome (meeting_from (function_at chain.functions chain.rates past) chain.states) limit (sample past))
      → UnmetIsApart chain sample (2 ^ limit)
  unmet-apart sample limit meets =
      sum-same (sum_pasts word_count (2 ^ limit)) (sum_pasts-is word_count (2 ^ limit)) (λ past. one_if (is_unmet (sample past))) (λ past. one_if (are_apart chain (2 ^ limit) past))
      (λ past. unmet-last chain meeting meeting-runs past limit (sample past) (meets past))
