-- What a log in memory is seen as, of its fields: the regions stand in one list, that at which the run begins first.
use Rattle.std.specs.Prelude.{◌≡◌, ◌+◌, ℕ, List, [], ◌∷◌, length, drop, slice_index_or}
use Rattle.psi_state.specs.declared.outcome.Step.{Step}
use Rattle.psi_log_format.specs.declared.header.Header.{Header}
use Rattle.psi_log_format.specs.Log.{LogRegion, in_set, Entry, Certificate, IsLog}

-- steps, each with the region after it
abbrev pub entries_of : List Step → List LogRegion → List Entry
entries_of [] regions = []
entries_of (step ∷ steps) [] = []
entries_of (step ∷ steps) (region ∷ regions) = record { step = step; region = region } ∷ entries_of steps regions

-- the log of these fields
abbrev pub certificate_of : Header → List LogRegion → List Step → List ℕ → Certificate
certificate_of header regions steps final = record {
  header = header;
  begin = slice_index_or regions 0 (in_set []);
  entries = entries_of steps (drop 1 regions);
  final = final;
}

-- there is a region more than steps
pub record IsWhole (header : Header) (regions : List LogRegion) (steps : List Step) (final : List ℕ) : Type 0 where
  pub log : IsLog (certificate_of header regions steps final)
  pub count : length regions ≡ length steps + 1
