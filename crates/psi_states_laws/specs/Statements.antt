-- The laws of tables.
use Rattle.std.specs.Prelude.{◌≡◌, ℕ, ◌+◌, List, ◌++◌, map, length}
use Rattle.psi_state.specs.declared.Outcome.{Outcome}
use Rattle.psi_net_model.specs.Network.{Network}
use Rattle.psi_report.specs.Report.{report_text}
use Rattle.psi_report.specs.Text.{text_of, rows_text}
use Rattle.psi_reply.specs.Report.{samples_of}
use Rattle.psi_table.specs.Table.{quantities, outcome_fields, stream_rows, table_text}
use Rattle.psi_states_laws.specs.Told.{told_of, told_fields, told_contents}

-- the table of streams in two parts is that of the first part, and behind it the rows of the second, without a second header
abbrev pub TablesAreJoined : Type 0
TablesAreJoined = (net : Network) (first : ℕ) (xs ys : List Outcome)
    → table_text net first (xs ++ ys) ≡ table_text net first xs ++ rows_text (stream_rows net (first + length xs) ys)

-- and so is what is printed of streams, and of those behind them
abbrev pub PrintedAreJoined : Type 0
PrintedAreJoined = (net : Network) (seed first m n : ℕ)
    → table_text net first (samples_of net seed first (m + n))
    ≡ table_text net first (samples_of net seed first m) ++ rows_text (stream_rows net (first + m) (samples_of net seed (first + m) n))

-- each row has the fields of what it tells
abbrev pub RowsTell : Type 0
RowsTell = (net : Network) (outcome : Outcome) → outcome_fields net outcome ≡ told_fields (length (quantities net)) (told_of net outcome)

-- and the report of the same samples is that of what the rows tell
abbrev pub ReportsAreOfTables : Type 0
ReportsAreOfTables = (net : Network) (outcomes : List Outcome) → report_text net outcomes ≡ text_of (told_contents net (map (told_of net) outcomes))
