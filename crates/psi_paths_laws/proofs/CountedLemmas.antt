-- The sums of a row are those that the law of paths counts.
use Rattle.std.specs.Prelude.{◌≡◌, ℕ, zero, suc, ◌*◌, ℤ, pos, negsuc, ◌-ℤ◌, List, [], ◌∷◌, ◌++◌, map, slice_index, refl}
use Rattle.std.specs.Fmt.{decimal, signed_decimal}
use Rattle.std.proofs.Common.{ap, sym, ◌∙◌, arith}
use Rattle.std.proofs.lemmas.Int.{ints}
use Rattle.psi_state.specs.State.{all_states}
use Rattle.psi_state.specs.declared.Outcome.{Outcome}
use Rattle.psi_state.specs.declared.Outcome.TheVariants.{Met}
use Rattle.psi_past.specs.SeedWord.{seed_word}
use Rattle.psi_closed.specs.Closed.{total_states}
use Rattle.psi_path.specs.Path.{first_place, function_after, state_at, state_of}
use Rattle.psi_path.specs.Sums.{sum_until, integers_until, worth_until}
use Rattle.psi_net_model.specs.Network.{Network, caps_of, rates_of, functions_of}
use Rattle.psi_report.specs.Quantities.{Quantity}
use Rattle.psi_law.specs.Counting.{Words, positive, negative}
use Rattle.psi_law.specs.Chains.{Chain}
use Rattle.psi_law.specs.Networks.{network_sample, network_total_sample}
use Rattle.psi_law_many.specs.Values.{value_or}
use Rattle.psi_law_paths.specs.Paths.{outcome_by, path_sum}
use Rattle.psi_reply.specs.Sample.{functions_by_time, sampled}
use Rattle.psi_reply.specs.Closed.{closed_endings, closed_sampled}
use Rattle.psi_table.specs.Table.{quantities}
use Rattle.psi_table.specs.Paths.{stream_path, count_fields, path_row}
use Rattle.psi_paths_laws.specs.Counted.{counted_sum, counted_row, IsPathCounted, PathsAreCounted, ClosedPathsAreCounted}

-- ---- integers

parted : (z : ℤ) → z ≡ pos (positive z) -ℤ pos (negative z)
parted (pos n) = omega (arith, ints)
parted (negsuc n) = omega (arith, ints)

-- the sum of integers is that of what is above 0, less that of what is below
parts-until : (g : ℕ → ℤ) (n : ℕ) → integers_until g n ≡ pos (sum_until (λ k. positive (g k)) n) -ℤ pos (sum_until (λ k. negative (g k)) n)
parts-until g zero = parted (g zero)
parts-until g (suc n) = (let rest = parts-until g n in let last = parted (g (suc n)) in omega (arith, ints))

until-constant : (c n : ℕ) → sum_until (λ k. c) n ≡ suc n * c
until-constant c zero = omega arith
until-constant c (suc n) = (let rest = until-constant c n in omega arith)

-- ---- the path of a stream, of a network's events on these states

abbrev chain_on : Network → List (List ℕ) → Chain
chain_on net states = record { functions = functions_of net; rates = rates_of net; states = states }

module _ (net : Network) (states : List (List ℕ)) (sample : Words → Outcome) (seed stream : ℕ) where
  -- the sum of a value along the path, as the law counts it where the sample is this outcome
  abbrev sum_from : (other : ℕ) → (List ℕ → ℕ) → (steps : ℕ) → Outcome → ℕ
  sum_from other value steps outcome =
      sum_until (λ k. value_or other value (outcome_by (state_at (function_after first_place (functions_of net) (rates_of net) (seed_word seed stream)) k) outcome)) steps

  abbrev counted_at : (other : ℕ) → (List ℕ → ℕ) → (steps : ℕ) → ℕ
  counted_at other value steps = path_sum (chain_on net states) sample first_place other value steps (seed_word seed stream)

  abbrev counted_of : (other : ℕ) → (List ℕ → ℤ) → (steps : ℕ) → ℤ
  counted_of other value steps = counted_sum (chain_on net states) sample other value steps (seed_word seed stream)

  module _ (horizon : ℕ) (state : List ℕ) (met : sample (seed_word seed stream) ≡ Met horizon state) (other steps : ℕ) where
    sum-met : (value : List ℕ → ℕ) → sum_until (λ k. value (state_of (stream_path net seed stream state) k)) steps ≡ counted_at other value steps
    sum-met value = ap (λ (o : Outcome). sum_from other value steps o) (sym met)

    worth-met : (value : List ℕ → ℤ) → worth_until (stream_path net seed stream state) value steps ≡ counted_of other value steps
    worth-met value =
        let parts = parts-until (λ k. value (state_of (stream_path net seed stream state) k)) steps in
        let above = sum-met (λ x. positive (value x)) in
        let below = sum-met (λ x. negative (value x)) in
        parts ∙ (ap (λ n. pos n -ℤ pos (sum_until (λ k. negative (value (state_of (stream_path net seed stream state) k))) steps)) above
        ∙ ap (λ n. pos (counted_at other (λ x. positive (value x)) steps) -ℤ pos n) below)

    fields-met : (qs : List Quantity) → map (λ (q : Quantity). signed_decimal (worth_until (stream_path net seed stream state) q.value steps)) qs
        ≡ map (λ (q : Quantity). signed_decimal (counted_of other q.value steps)) qs
    fields-met [] = refl
    fields-met (q ∷ qs) =
        ap (λ z. signed_decimal z ∷ map (λ (p : Quantity). signed_decimal (worth_until (stream_path net seed stream state) p.value steps)) qs) (worth-met q.value)
        ∙ ap (λ (fs : List (List ℕ)). signed_decimal (counted_of other q.value steps) ∷ fs) (fields-met qs)

    row-met : path_row net seed steps stream (Met horizon state) ≡ counted_row net (chain_on net states) sample seed steps stream other horizon state
    unfolding path_row
    row-met =
        ap (λ (fs : List (List ℕ)). decimal stream ∷ decimal horizon ∷ decimal steps ∷ (fs ++ count_fields (stream_path net seed stream state) steps 0 net.events)) (fields-met (quantities net))

  counted : (outcome : Outcome) → outcome ≡ sample (seed_word seed stream) → IsPathCounted net (chain_on net states) sample outcome seed stream
  counted outcome is = record {
    sampled = is;
    queues = λ horizon state q other steps met. sum-met horizon state (sym is ∙ met) other steps (λ x. slice_index x q);
    row = λ horizon state other steps met. ap (path_row net seed steps stream) met ∙ row-met horizon state (sym is ∙ met) other steps;
    unmet = λ limit other steps value unmet. ap (λ (o : Outcome). sum_from other value steps o) (sym is ∙ unmet) ∙ until-constant other steps;
  }

-- ---- the samples of networks

open-sampled : (net : Network) (seed stream : ℕ) → sampled net seed stream ≡ network_sample net (seed_word seed stream)
unfolding sampled functions_by_time
open-sampled net seed stream = refl

closed-sampled : (net : Network) (total seed stream : ℕ) → closed_sampled net seed stream total ≡ network_total_sample net total (seed_word seed stream)
unfolding closed_sampled closed_endings functions_by_time
closed-sampled net total seed stream = refl

pub paths_counted : PathsAreCounted
paths_counted = λ net seed stream. counted net (all_states (caps_of net)) (network_sample net) seed stream (sampled net seed stream) (open-sampled net seed stream)

pub closed_paths_counted : ClosedPathsAreCounted
closed_paths_counted = λ net total seed stream.
    counted net (total_states (caps_of net) total) (network_total_sample net total) seed stream (closed_sampled net seed stream total) (closed-sampled net total seed stream)
