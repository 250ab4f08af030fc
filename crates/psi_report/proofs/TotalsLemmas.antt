-- Totals of samples in two parts.
use Rattle.std.specs.Prelude.{◌≡◌, ℕ, ◌+◌, ◌≤◌, List, [], ◌∷◌, ◌++◌, map, length, refl}
use Rattle.std.proofs.Common.{◌∙◌, ap, arith}
use Rattle.std.proofs.lemmas.List.{length-append, append-nil}
use Rattle.psi_state.specs.declared.Outcome.{Outcome}
use Rattle.psi_state.specs.declared.Outcome.TheVariants.{Met, NotMet}
use Rattle.psi_net_model.specs.Network.{Network}
use Rattle.psi_report.specs.Samples.{met_states, met_horizons}
use Rattle.psi_report.specs.Quantities.{queue_quantities, reward_quantities}
use Rattle.psi_report.specs.Report.{times}
use Rattle.psi_report.specs.Totals.{Totals, summaries_of, totals_of, powers}
use Rattle.psi_report.specs.Joined.{paired, joined_summary}
use Rattle.psi_report.proofs.CountLemmas.{horizons-append}
use Rattle.psi_report.proofs.SummaryLemmas.{summaries_of-append}

pub met_states-append : (outcomes others : List Outcome) → met_states (outcomes ++ others) ≡ met_states outcomes ++ met_states others
unfolding met_states
met_states-append [] others = refl
met_states-append (Met horizon state ∷ outcomes) others = ap (λ xs. state ∷ xs) (met_states-append outcomes others)
met_states-append (NotMet limit ∷ outcomes) others = met_states-append outcomes others

pub met_horizons-append : (outcomes others : List Outcome) → met_horizons (outcomes ++ others) ≡ met_horizons outcomes ++ met_horizons others
unfolding met_horizons
met_horizons-append [] others = refl
met_horizons-append (Met horizon state ∷ outcomes) others = ap (λ xs. horizon ∷ xs) (met_horizons-append outcomes others)
met_horizons-append (NotMet limit ∷ outcomes) others = met_horizons-append outcomes others

-- the totals of two parts, put together
abbrev pub joined : Totals → Totals → Totals
joined a b = record {
  samples = a.samples + b.samples;
  met = a.met + b.met;
  horizons = paired (λ m n. m + n) a.horizons b.horizons;
  queues = paired (joined_summary a.met b.met) a.queues b.queues;
  rewards = paired (joined_summary a.met b.met) a.rewards b.rewards;
}

-- the totals of so many samples with these states and horizons, for any list of horizons
abbrev totals_at : List ℕ → Network → ℕ → List (List ℕ) → List ℕ → Totals
totals_at ts net n states hs = record {
  samples = n;
  met = length states;
  horizons = map (λ t. times t hs) ts;
  queues = summaries_of states (queue_quantities net);
  rewards = summaries_of states (reward_quantities net);
}

totals_at-append : (ts : List ℕ) (net : Network) (m n : ℕ) (xs ys : List (List ℕ)) (gs hs : List ℕ)
    → totals_at ts net (m + n) (xs ++ ys) (gs ++ hs) ≡ joined (totals_at ts net m xs gs) (totals_at ts net n ys hs)
totals_at-append ts net m n xs ys gs hs =
    let count : length (xs ++ ys) ≡ length xs + length ys = length-append xs ys in
    let horizons = horizons-append gs hs ts in
    let queues = summaries_of-append xs ys (queue_quantities net) in
    let rewards = summaries_of-append xs ys (reward_quantities net) in
    cc

pub totals_of-append : (net : Network) (outcomes others : List Outcome)
    → totals_of net (outcomes ++ others) ≡ joined (totals_of net outcomes) (totals_of net others)
unfolding totals_of
totals_of-append net outcomes others =
    ap (λ n. totals_at powers net n (met_states (outcomes ++ others)) (met_horizons (outcomes ++ others))) (length-append outcomes others)
    ∙ ap (λ xs. totals_at powers net (length outcomes + length others) xs (met_horizons (outcomes ++ others))) (met_states-append outcomes others)
    ∙ ap (λ hs. totals_at powers net (length outcomes + length others) (met_states outcomes ++ met_states others) hs) (met_horizons-append outcomes others)
    ∙ totals_at-append powers net (length outcomes) (length others) (met_states outcomes) (met_states others) (met_horizons outcomes) (met_horizons others)

-- one more sample that isn't met
pub totals_of-not_met : (net : Network) (outcomes : List Outcome) (limit : ℕ)
    → totals_of net (outcomes ++ NotMet limit ∷ []) ≡ record (totals_of net outcomes) { samples = length outcomes + 1 }
unfolding totals_of met_states met_horizons
totals_of-not_met net outcomes limit =
    ap (λ n. totals_at powers net n (met_states (outcomes ++ NotMet limit ∷ [])) (met_horizons (outcomes ++ NotMet limit ∷ []))) (length-append outcomes (NotMet limit ∷ []))
    ∙ ap (λ xs. totals_at powers net (length outcomes + 1) xs (met_horizons (outcomes ++ NotMet limit ∷ []))) (met_states-append outcomes (NotMet limit ∷ []) ∙ append-nil (met_states outcomes))
    ∙ ap (λ hs. totals_at powers net (length outcomes + 1) (met_states outcomes) hs) (met_horizons-append outcomes (NotMet limit ∷ []) ∙ append-nil (met_horizons outcomes))

pub length-met_states : (outcomes : List Outcome) → length (met_states outcomes) ≤ length outcomes
unfolding met_states
length-met_states [] = omega arith
length-met_states (Met horizon state ∷ outcomes) = let rest = length-met_states outcomes in omega arith
length-met_states (NotMet limit ∷ outcomes) = let rest = length-met_states outcomes in omega arith

pub length-met_horizons : (outcomes : List Outcome) → length (met_horizons outcomes) ≤ length outcomes
unfolding met_horizons
length-met_horizons [] = omega arith
length-met_horizons (Met horizon state ∷ outcomes) = let rest = length-met_horizons outcomes in omega arith
length-met_horizons (NotMet limit ∷ outcomes) = let rest = length-met_horizons outcomes in omega arith
