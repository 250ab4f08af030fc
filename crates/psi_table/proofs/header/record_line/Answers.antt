-- Answers in the proof of `header::record_line`.
use Rattle.std.proofs.Common.{◌≡◌, ℕ, List, [], ◌++◌, Option, Some, Result, Ok, Err, false, IfOk, ◌∙◌, ap, subst}
use Rattle.std.specs.Prelude.{Vec, ◌≢◌}
use Rattle.std.specs.declared.alloc.Global.{Global}
use Rattle.std.specs.Io.KnownBytes.{Appends}
use Rattle.csv.specs.Writing.{default_writer, row_text, text_written, fields_written, has_written, writer_setup, writer_under, writer_pending}
use Rattle.csv.specs.Records.{fields_of}
use Rattle.csv.specs.declared.writer.Writer.{Writer}
use Rattle.csv.specs.declared.writer.WriterBuilder.{WriterBuilder}
use Rattle.csv.specs.declared.writer.QuoteStyle.TheVariants as style
use Rattle.psi_table.proofs.header.record_line.Goals as goal

-- what a writer of no text holds once it wrote a record
one-record : (old new : Writer (Vec ℕ Global)) (fields : List (List ℕ)) → (writer_under old).items ≡ [] → writer_pending old ≡ [] → writer_setup old ≡ default_writer
    → fields_written old ≡ 0 → has_written old ≡ false
    → (fields_written old ≡ 0 → has_written old ≡ false → (writer_setup old).style ≢ style.NonNumeric
    → Appends (text_written (λ v. Some v.items) old) (text_written (λ v. Some v.items) new) (row_text (writer_setup old) fields))
    → text_written (λ v. Some v.items) new ≡ Some (row_text default_writer fields)
one-record old new fields none empty setup ended clean more =
    let plain : (writer_setup old).style ≢ style.NonNumeric = λ same. absurd (cc setup) in
    let grows = subst (λ (cfg : WriterBuilder). (writer_under new).items ++ writer_pending new ≡ ((writer_under old).items ++ writer_pending old) ++ row_text cfg fields)
    setup (more ended clean plain) in
    let nothing : (writer_under old).items ++ writer_pending old ≡ [] = ap (λ (xs : List ℕ). xs ++ writer_pending old) none ∙ empty in
    ap Some (grows ∙ ap (λ (text : List ℕ). text ++ row_text default_writer fields) nothing)

if-told : {E : Type 0} (r : Result (Vec ℕ Global) E) (told : Option (List ℕ)) (row : List ℕ) → IfOk r (λ text. told ≡ Some text.items) → told ≡ Some row → IfOk r (λ text. text.items ≡ row)
if-told (Ok text) told row is tells = cc
if-told (Err e) told row is tells = tt

pub returns-in-Ok : goal.returns-in-Ok
returns-in-Ok c =
    let table = c.from_writer-table.ensures in
    let row = row_text default_writer (fields_of c.args.fields.now) in
    if-told c.into_text.result _ row c.into_text.ensures
    (one-record c.from_writer-table.result c.write_byte_record.new.self (fields_of c.args.fields.now) (ap (λ (v : Vec ℕ Global). v.items) table.wtr ∙ c.new.ensures.items) table.empty table.cfg
    table.fields table.wrote c.in-Ok.ensures.bytes)
