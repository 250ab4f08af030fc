-- The line of a path, piece by piece as it is written.
use Rattle.std.specs.Prelude.{ℕ, zero, suc, List, [], ◌∷◌, ◌++◌, pos, slice_index, slice_index_or, Option, Some, None}
use Rattle.std.specs.Fmt.{decimal, signed_decimal}
use Rattle.csv.specs.Writing.{row_text, default_writer}
use Rattle.psi_state.specs.declared.Outcome.{Outcome}
use Rattle.psi_path.specs.Sums.{Sums}
use Rattle.psi_net_model.specs.Network.{Network}
use Rattle.psi_table.specs.Lines.{header_line, stream_line}
use Rattle.psi_table.specs.Paths.{paths_header, path_row}

-- the line of the header
unfoldable pub paths_header_line : Network → List ℕ
paths_header_line net = row_text default_writer (paths_header net)

-- the line of a stream
unfoldable pub path_line : Network → (seed steps stream : ℕ) → Outcome → List ℕ
path_line net seed steps stream outcome = row_text default_writer (path_row net seed steps stream outcome)

-- the pieces of the numbers 0, 1, .., count - 1, one behind the other
abbrev pub pieces : (ℕ → List ℕ) → ℕ → List ℕ
pieces piece zero = []
pieces piece (suc i) = pieces piece i ++ piece i

-- the sum of a queue's customers behind other fields
abbrev pub customers_piece : Sums → ℕ → List ℕ
customers_piece sums q = 44 ∷ decimal (slice_index sums.queues q)

-- that of a reward's values
abbrev pub reward_piece : Sums → ℕ → List ℕ
reward_piece sums r = 44 ∷ signed_decimal (slice_index_or sums.rewards r (pos 0))

-- and the two counts of an event
abbrev pub event_piece : Sums → ℕ → List ℕ
event_piece sums e = (44 ∷ decimal (slice_index sums.chosen e)) ++ (44 ∷ decimal (slice_index sums.changed e))

-- the line of the header of a table of samples, or with a number of steps of one of paths
abbrev pub header_of_kind : Option ℕ → Network → List ℕ
header_of_kind None net = header_line net
header_of_kind (Some steps) net = paths_header_line net

-- and the line of a stream
abbrev pub line_of_kind : Option ℕ → Network → (seed stream : ℕ) → Outcome → List ℕ
line_of_kind None net seed stream outcome = stream_line net stream outcome
line_of_kind (Some steps) net seed stream outcome = path_line net seed steps stream outcome
