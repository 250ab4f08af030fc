-- What the rows of a table tell, as numbers, and the report that these numbers alone give.
use Rattle.std.specs.Prelude.{ℕ, suc, ℤ, pos, List, [], ◌∷◌, ◌++◌, map, length, replicate, slice_index_or, Option, Some, None}
use Rattle.std.specs.Fmt.{decimal, signed_decimal}
use Rattle.psi_state.specs.declared.Outcome.{Outcome}
use Rattle.psi_state.specs.declared.Outcome.TheVariants.{Met, NotMet}
use Rattle.psi_net_model.specs.Network.{Network}
use Rattle.psi_report.specs.declared.figure.Figure.{Figure}
use Rattle.psi_report.specs.Contents.{Contents}
use Rattle.psi_report.specs.Distinct.{distinct}
use Rattle.psi_report.specs.Quantities.{Quantity, queue_quantities, reward_quantities}
use Rattle.psi_report.specs.Report.{Trio, horizon_count, queue_trio, reward_trio, figures_of}
use Rattle.psi_table.specs.Table.{quantities}

-- what a row tells of a sample that is met: its horizon, and the value of each column
pub record Told : Type 0 where
  pub horizon : ℕ
  pub values : List ℤ

-- what the row of an outcome tells
abbrev pub told_of : Network → Outcome → Option Told
told_of net (Met horizon state) = Some (record { horizon = horizon; values = map (λ (q : Quantity). q.value state) (quantities net) })
told_of net (NotMet limit) = None

-- the fields behind the stream that tell it, in a table of so many columns
abbrev pub told_fields : ℕ → Option Told → List (List ℕ)
told_fields columns (Some told) = decimal told.horizon ∷ map signed_decimal told.values
told_fields columns None = [] ∷ replicate columns []

-- what the rows of samples that are met tell
abbrev pub met_rows : List (Option Told) → List Told
met_rows [] = []
met_rows (Some told ∷ rows) = told ∷ met_rows rows
met_rows (None ∷ rows) = met_rows rows

-- the values of a column, counted from 0
abbrev pub column : ℕ → List (Option Told) → List ℤ
column j rows = map (λ (told : Told). slice_index_or told.values j (pos 0)) (met_rows rows)

-- the figures of columns, the first of which has this number, under their names
unfoldable pub column_figures : Trio → ℕ → List Quantity → List (Option Told) → List Figure
column_figures trio j [] rows = []
column_figures trio j (q ∷ qs) rows = figures_of trio q.name (column j rows) ++ column_figures trio (suc j) qs rows

-- the report of what rows tell: their number, those that are met, their horizons, and the figures of the columns
unfoldable pub told_contents : Network → List (Option Told) → Contents
told_contents net rows = record {
  samples = length rows;
  met = length (met_rows rows);
  horizons = (let horizons = map (λ (told : Told). told.horizon) (met_rows rows) in map (horizon_count horizons) (distinct horizons));
  figures = column_figures queue_trio 0 (queue_quantities net) rows ++ column_figures reward_trio (length (queue_quantities net)) (reward_quantities net) rows;
}
