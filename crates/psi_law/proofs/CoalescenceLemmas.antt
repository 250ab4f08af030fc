-- Runs of any kind: every state reaches their samples, and the share of the pasts whose runs have not coalesced falls geometrically.
use Rattle.std.specs.Prelude.{◌≡◌, ℕ, suc, ◌+◌, ◌*◌, ◌^◌, ◌<◌, ◌≤◌, List, [], ◌∷◌, Option, Some, None, is_none}
use Rattle.std.proofs.Common.{ap, sym, ◌∙◌, arith}
use Rattle.std.proofs.Math.Nat.{pow-succ'}
use Rattle.std.proofs.lemmas.Grind.{common_steps}
use Rattle.psi_state.specs.declared.Outcome.{Outcome}
use Rattle.psi_state.specs.declared.Outcome.TheVariants.{Met, NotMet}
use Rattle.psi_state.specs.Sets.{single}
use Rattle.psi_rate.specs.Composition.{Functions, function_at}
use Rattle.psi_rate.specs.Doubling.{IsFirst, IsLasting}
use Rattle.psi_rate.specs.Outcomes.{outcome_within, IsOutcome}
use Rattle.psi_rate.proofs.OutcomesLemmas.{outcome_within-is}
use Rattle.psi_couple.proofs.CouplingLemmas.{first-within}
use Rattle.psi_law.specs.Counting.{Words}
use Rattle.psi_law.specs.Chains.{Chain, end_of}
use Rattle.psi_law.specs.Samples.{Reaches, is_unmet, unmet, uncoalesced}
use Rattle.psi_law.specs.Statements.{UncoalescedFalls, UnmetIsUncoalesced, LimitSquares, LooksAtFirst}
use Rattle.psi_law.proofs.ChainLemmas.{Own}
use Rattle.psi_law.proofs.LooksLemmas.{function_at-same, answers-look, outcome-same}
use Rattle.psi_law.proofs.SumsLemmas.{one_if, at_most_one, sum-same, sum_pasts-is}
use Rattle.psi_law.proofs.JoinedLemmas.{joined, count_pasts-joined, joined-newer, function_at-older}

-- a list with one member, by what it ends with
pub single-list : (xs : List (List ℕ)) (s : List ℕ) → single xs ≡ Some s → xs ≡ s ∷ []
single-list [] s one = absurd cc
single-list (x ∷ []) s one = ap (λ (z : List ℕ). z ∷ []) cc
single-list (x ∷ y ∷ ys) s one = absurd cc

-- runs under the functions and rates of a chain: a run looks at the functions of its own steps alone; one that has coalesced does so at every longer horizon; once the
-- older steps of a run have led to one state, the newer steps lead to one state; and every state of the chain ends in the state with which a run ends
pub record AreRuns (chain : Chain) (run : Functions → ℕ → Option (List ℕ)) : Type 0 where
  pub looks : (f g : Functions) (t : ℕ) → ((k : ℕ) → k < t → f (suc k) ≡ g (suc k)) → run f t ≡ run g t
  pub last : (past : Words) → IsLasting (run (function_at chain.functions chain.rates past))
  pub older : (past : Words) (n k : ℕ) (s : List ℕ) → run (λ i. function_at chain.functions chain.rates past (n + i)) k ≡ Some s
      → (z : List ℕ) × (run (function_at chain.functions chain.rates past) (n + k) ≡ Some z)
  pub ends : (past : Words) (n : ℕ) (s x : List ℕ) → run (function_at chain.functions chain.rates past) n ≡ Some s → Own chain x → end_of chain past n x ≡ s

is_none-some : (o : Option (List ℕ)) (s : List ℕ) → o ≡ Some s → one_if (is_none o) ≡ 0
is_none-some o s same = ap (λ (p : Option (List ℕ)). one_if (is_none p)) same

module _ (chain : Chain) (run : Functions → ℕ → Option (List ℕ)) (are : AreRuns chain run) where
  abbrev functions_of : Words → Functions
  functions_of past = function_at chain.functions chain.rates past

  abbrev ending : Words → ℕ → Option (List ℕ)
  ending past = run (functions_of past)

  -- samples that are met only where the run of n steps ends with their state are reached by every state
  pub runs-reach : (sample : Words → Outcome) (n : ℕ) → ((past : Words) (t : ℕ) (s : List ℕ) → sample past ≡ Met t s → ending past n ≡ Some s) → Reaches chain sample n
  runs-reach sample n met = record { each = λ past x own t y is. are.ends past n y x (met past t y is) own }

  -- so they are where the first answer is the sample
  first-last : (past : Words) (limit t : ℕ) (s : List ℕ) → IsFirst (ending past) limit t s → ending past (2 ^ limit) ≡ Some s
  first-last past limit t s is = (are.last past).each t (2 ^ limit) s (first-within (ending past) limit t s is) is.answer

  pub outcome-reaches : (limit : ℕ) → Reaches chain (λ past. outcome_within (ending past) limit) (2 ^ limit)
  outcome-reaches limit = grind (arith, common_steps, runs-reach, first-last, outcome_within-is)

  pub outcome-looks : (limit : ℕ) → LooksAtFirst (λ past. outcome_within (ending past) limit) (2 ^ limit)
  outcome-looks limit = answers-look chain.functions chain.rates run (λ answers. outcome_within answers limit) (2 ^ limit) are.looks (λ first other. outcome-same first other limit)

  -- a run has coalesced where its newer steps by themselves do, and where its older steps do
  open-joined : (n k : ℕ) (p q : Words) (o r : Option (List ℕ)) → ending p n ≡ o → ending q k ≡ r
      → one_if (is_none (ending (joined n p q) (n + k))) ≤ one_if (is_none o) * one_if (is_none r)
  open-joined n k p q None None first second = at_most_one (is_none (ending (joined n p q) (n + k)))
  open-joined n k p q (Some s) r first second =
      let both = joined n p q in
      let newer : ending both n ≡ Some s = are.looks (functions_of both) (functions_of p) n (function_at-same chain.functions chain.rates both p n (joined-newer n p q)) ∙ first in
      let e = is_none-some (ending both (n + k)) s ((are.last both).each n (n + k) s (omega arith) newer) in omega arith
  open-joined n k p q None (Some s) first second =
      let both = joined n p q in
      let older : run (λ i. functions_of both (n + i)) k ≡ Some s =
      are.looks (λ i. functions_of both (n + i)) (functions_of q) k (λ j small. function_at-older chain.functions chain.rates n p q j) ∙ second in
      let found = are.older both n k s older in
      let e = is_none-some (ending both (n + k)) found.0 found.1 in omega arith

  pub uncoalesced-falls : UncoalescedFalls ending
  uncoalesced-falls = grind (arith, common_steps, count_pasts-joined, open-joined)

  -- a sample isn't met exactly where the run of all its words has not coalesced
  pub unmet-last : (past : Words) (limit : ℕ) (o : Outcome) → IsOutcome (ending past) limit o → one_if (is_unmet o) ≡ one_if (is_none (ending past (2 ^ limit)))
  unmet-last past limit (Met t s) is = (let e = is_none-some (ending past (2 ^ limit)) s (first-last past limit t s is) in omega arith)
  unmet-last past limit (NotMet l) is = grind (arith, common_steps)

  pub unmet-uncoalesced : UnmetIsUncoalesced ending
  unmet-uncoalesced = grind (arith, common_steps, sum-same, sum_pasts-is, one_if, unmet-last, outcome_within-is)

  pub limit-squares : LimitSquares ending
  limit-squares = λ limit.
      (let n = 2 ^ limit in
      let twice : 2 ^ suc limit ≡ n + n = (let e = pow-succ' 2 limit in omega arith) in
      let same : uncoalesced ending (2 ^ suc limit) ≡ uncoalesced ending (n + n) = ap (uncoalesced ending) twice in
      let each = unmet-uncoalesced limit in
      let square : uncoalesced ending n * uncoalesced ending n ≡ unmet (λ past. outcome_within (ending past) limit) n * unmet (λ past. outcome_within (ending past) limit) n =
      ap (λ u. u * u) (sym each) in
      omega (arith, unmet-uncoalesced (suc limit), uncoalesced-falls n n))
