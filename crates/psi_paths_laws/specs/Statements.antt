-- The laws of tables of paths.
use Rattle.std.specs.Prelude.{◌≡◌, ℕ, ◌+◌, ◌*◌, List, [], ◌∷◌, ◌++◌, length, replicate}
use Rattle.std.specs.Fmt.{decimal}
use Rattle.std.specs.List.{flat_map}
use Rattle.psi_state.specs.declared.Outcome.{Outcome}
use Rattle.psi_state.specs.declared.Outcome.TheVariants.{Met, NotMet}
use Rattle.psi_net_model.specs.Network.{Network}
use Rattle.psi_report.specs.Text.{rows_text}
use Rattle.psi_reply.specs.Report.{samples_of}
use Rattle.psi_table.specs.Table.{quantities, value_fields, stream_fields}
use Rattle.psi_table.specs.Paths.{path_row, path_rows, paths_text}

-- the table of streams in two parts is that of the first part, and behind it the rows of the second, without a second header
abbrev pub PathsAreJoined : Type 0
PathsAreJoined = (net : Network) (seed steps first : ℕ) (xs ys : List Outcome)
    → paths_text net seed steps first (xs ++ ys) ≡ paths_text net seed steps first xs ++ rows_text (path_rows net seed steps (first + length xs) ys)

-- and so is what is printed of streams, and of those behind them
abbrev pub PrintedPathsAreJoined : Type 0
PrintedPathsAreJoined = (net : Network) (seed steps first m n : ℕ)
    → paths_text net seed steps first (samples_of net seed first (m + n))
    ≡ paths_text net seed steps first (samples_of net seed first m) ++ rows_text (path_rows net seed steps (first + m) (samples_of net seed (first + m) n))

-- the row of a path of no step has the values of its sample, as the row of the sample has them, and behind them two counts of 0 for each event
pub record TellsSample (net : Network) (seed stream horizon : ℕ) (state : List ℕ) : Type 0 where
  pub sample : stream_fields net stream (Met horizon state) ≡ decimal stream ∷ decimal horizon ∷ value_fields state (quantities net)
  pub path : path_row net seed 0 stream (Met horizon state)
      ≡ decimal stream ∷ decimal horizon ∷ decimal 0 ∷ (value_fields state (quantities net) ++ flat_map (λ event. decimal 0 ∷ decimal 0 ∷ []) net.events)

abbrev pub ShortPathsTellSamples : Type 0
ShortPathsTellSamples = (net : Network) (seed stream horizon : ℕ) (state : List ℕ) → TellsSample net seed stream horizon state

-- the row of a path without a sample has the stream alone
abbrev pub UnmetPathsAreEmpty : Type 0
UnmetPathsAreEmpty = (net : Network) (seed steps stream limit : ℕ)
    → path_row net seed steps stream (NotMet limit) ≡ decimal stream ∷ replicate (2 + length (quantities net) + 2 * length net.events) []
