-- Rows that are written in memory.
use Rattle.std.specs.Prelude.{◌≡◌, ℕ, List, Some, false, Vec}
use Rattle.std.specs.declared.alloc.Global.{Global}
use Rattle.csv.specs.Writing.{default_writer, text_written, fields_written, has_written, writer_setup}
use Rattle.csv.specs.declared.writer.Writer.{Writer}
use Rattle.psi_report.specs.Text.{rows_text}

-- a writer stands at the end of these rows
pub record Holds (writer : Writer (Vec ℕ Global)) (rows : List (List (List ℕ))) : Type 0 where
  pub written : text_written (λ v. Some v.items) writer ≡ Some (rows_text rows)
  pub ended : fields_written writer ≡ 0
  pub clean : has_written writer ≡ false
  pub setup : writer_setup writer ≡ default_writer
