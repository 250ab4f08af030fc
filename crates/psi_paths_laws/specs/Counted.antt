-- The sums of a row, as the law of paths counts them.
use Rattle.std.specs.Prelude.{◌≡◌, ℕ, suc, ◌*◌, ℤ, List, ◌∷◌, ◌++◌, map, slice_index}
use Rattle.std.specs.Fmt.{decimal, signed_decimal}
use Rattle.psi_state.specs.declared.Outcome.{Outcome}
use Rattle.psi_state.specs.declared.Outcome.TheVariants.{Met, NotMet}
use Rattle.psi_past.specs.SeedWord.{seed_word}
use Rattle.psi_path.specs.Path.{first_place}
use Rattle.psi_path.specs.Sums.{customers_until}
use Rattle.psi_net_model.specs.Network.{Network}
use Rattle.psi_report.specs.Quantities.{Quantity}
use Rattle.psi_law.specs.Counting.{Words, signed}
use Rattle.psi_law.specs.Chains.{Chain}
use Rattle.psi_law.specs.Networks.{network_chain, network_sample, network_total_chain, network_total_sample}
use Rattle.psi_law_paths.specs.Paths.{path_sum}
use Rattle.psi_reply.specs.Sample.{sampled}
use Rattle.psi_reply.specs.Closed.{closed_sampled}
use Rattle.psi_table.specs.Table.{quantities}
use Rattle.psi_table.specs.Paths.{stream_path, count_fields, path_row}

-- the sum of an integer along a path that begins in a sample: the sum that the law counts of what is above 0, less that of what is below
abbrev pub counted_sum : Chain → (Words → Outcome) → (other : ℕ) → (List ℕ → ℤ) → (steps : ℕ) → Words → ℤ
counted_sum chain sample other value steps words = signed (λ part. path_sum chain sample first_place other part steps words) value

-- the row of a stream whose sample is met at a horizon, with the sums that the law counts, at the words of the seed and the stream
abbrev pub counted_row : Network → Chain → (Words → Outcome) → (seed steps stream other horizon : ℕ) → List ℕ → List (List ℕ)
counted_row net chain sample seed steps stream other horizon state =
    decimal stream ∷ decimal horizon ∷ decimal steps
    ∷ (map (λ (q : Quantity). signed_decimal (counted_sum chain sample other q.value steps (seed_word seed stream))) (quantities net)
    ++ count_fields (stream_path net seed stream state) steps 0 net.events)

-- the outcome of a stream and the path from it are those that the law counts
pub record IsPathCounted (net : Network) (chain : Chain) (sample : Words → Outcome) (outcome : Outcome) (seed stream : ℕ) : Type 0 where
  -- the outcome is the sample at the words of the seed and the stream
  pub sampled : outcome ≡ sample (seed_word seed stream)
  -- where it is met, the sum of the customers of each queue is the sum that the law counts, whatever number it takes for paths without a sample
  pub queues : (horizon : ℕ) (state : List ℕ) (q other steps : ℕ) → outcome ≡ Met horizon state
      → customers_until (stream_path net seed stream state) q steps ≡ path_sum chain sample first_place other (λ x. slice_index x q) steps (seed_word seed stream)
  -- and so the row has these sums, of queues and of rewards
  pub row : (horizon : ℕ) (state : List ℕ) (other steps : ℕ) → outcome ≡ Met horizon state
      → path_row net seed steps stream outcome ≡ counted_row net chain sample seed steps stream other horizon state
  -- where it is not met, the row has no sum, and the law counts that number for each of the path's steps + 1 states
  pub unmet : (limit other steps : ℕ) (value : List ℕ → ℕ) → outcome ≡ NotMet limit
      → path_sum chain sample first_place other value steps (seed_word seed stream) ≡ suc steps * other

-- the paths that `psi_paths` prints of a network are counted by the law of its paths
abbrev pub PathsAreCounted : Type 0
PathsAreCounted = (net : Network) (seed stream : ℕ) → IsPathCounted net (network_chain net) (network_sample net) (sampled net seed stream) seed stream

-- and those of a closed network with so many customers by that of paths over the states of this total
abbrev pub ClosedPathsAreCounted : Type 0
ClosedPathsAreCounted = (net : Network) (total seed stream : ℕ)
    → IsPathCounted net (network_total_chain net total) (network_total_sample net total) (closed_sampled net seed stream total) seed stream
