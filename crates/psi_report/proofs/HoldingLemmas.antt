-- One more row in a table.
use Rattle.std.proofs.Common.{◌≡◌, ℕ, List, [], ◌∷◌, ◌++◌, Some, false, ap, ◌∙◌, subst}
use Rattle.std.specs.Prelude.{Vec, ◌≢◌}
use Rattle.std.specs.declared.alloc.Global.{Global}
use Rattle.std.specs.Io.KnownBytes.{Appends}
use Rattle.std.proofs.lemmas.List.{flat_map_more}
use Rattle.csv.specs.Writing.{default_writer, row_text, text_written, fields_written, has_written, writer_setup, writer_under, writer_pending}
use Rattle.csv.specs.declared.writer.Writer.{Writer}
use Rattle.csv.specs.declared.writer.WriterBuilder.{WriterBuilder}
use Rattle.csv.specs.declared.writer.QuoteStyle.TheVariants as style
use Rattle.psi_report.specs.Text.{rows_text}
use Rattle.psi_report.specs.Inner.RecordsKept.{Holds}

rows_text-push : (rows : List (List (List ℕ))) (fields : List (List ℕ)) → rows_text rows ++ row_text default_writer fields ≡ rows_text (rows ++ fields ∷ [])
unfolding rows_text
rows_text-push rows fields = flat_map_more (row_text default_writer) [] rows fields

-- a row that is written at the end of others
pub holds_more : (old new : Writer (Vec ℕ Global)) (rows : List (List (List ℕ))) (fields : List (List ℕ)) → Holds old rows
    → (fields_written old ≡ 0 → has_written old ≡ false → (writer_setup old).style ≢ style.NonNumeric
    → Appends (text_written (λ v. Some v.items) old) (text_written (λ v. Some v.items) new) (row_text (writer_setup old) fields))
    → fields_written new ≡ 0 → has_written new ≡ false → writer_setup new ≡ writer_setup old → Holds new (rows ++ fields ∷ [])
holds_more old new rows fields held more ended clean kept =
    let plain : (writer_setup old).style ≢ style.NonNumeric = λ same. absurd (cc (held.setup)) in
    let grows = subst (λ (cfg : WriterBuilder). (writer_under new).items ++ writer_pending new ≡ ((writer_under old).items ++ writer_pending old) ++ row_text cfg fields)
    held.setup (more held.ended held.clean plain) in
    let same : (writer_under old).items ++ writer_pending old ≡ rows_text rows = (let before = held.written in cc) in
    record {
      written = ap Some (grows ∙ ap (λ (text : List ℕ). text ++ row_text default_writer fields) same ∙ rows_text-push rows fields);
      ended = ended;
      clean = clean;
      setup = kept ∙ held.setup;
    }
