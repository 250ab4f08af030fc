-- Answers in the proof of `read_log`.
use Rattle.std.specs.Prelude.{Ok, Err}
use Rattle.std.proofs.Common.{ap, sym, ◌∙◌, subst}
use Rattle.psi_log_format.specs.declared.header.Header.{Header}
use Rattle.psi_log_words.specs.Refusal.{IsLogError}
use Rattle.psi_log.specs.Reading.{ended}
use Rattle.psi_log.specs.Cursor.{Cursor}
use Rattle.psi_log.specs.Inner.LogViews.{certificate_of}
use Rattle.psi_log.proofs.ReadLemmas.{read_found, read_only}
use Rattle.psi_log.proofs.LogLemmas.{log_read, begun_fails, steps_fail, end_fails}
use Rattle.psi_log.proofs.log.read_log.Goals as goal

pub returns-in-Err-clause-value : goal.returns-in-Err-clause-value
returns-in-Err-clause-value c = begun_fails c.args.bytes.now c.in-Err.error c.in-Err.ensures.value

pub returns-in-Err-clause-only : goal.returns-in-Err-clause-only
returns-in-Err-clause-only c = λ log is. read_only c.args.bytes.now (Err c.in-Err.error) (returns-in-Err-clause-value c) log is

pub returns-in-Err-read_lines-clause-value : goal.returns-in-Err-read_lines-clause-value
returns-in-Err-read_lines-clause-value c =
    steps_fail c.args.bytes.now c.in-Ok.reader c.in-Ok.ensures.value c.in-Err-read_lines.error c.in-Err-read_lines.ensures.refused

pub returns-in-Err-read_lines-clause-only : goal.returns-in-Err-read_lines-clause-only
returns-in-Err-read_lines-clause-only c = λ log is. read_only c.args.bytes.now (Err c.in-Err-read_lines.error) (returns-in-Err-read_lines-clause-value c) log is

pub returns-in-Err-end-clause-value : goal.returns-in-Err-end-clause-value
returns-in-Err-end-clause-value c =
    let rest = c.read_lines.new.reader.rest in
    end_fails c.args.bytes.now c.in-Ok.reader c.in-Ok.ensures.value _ rest c.in-Err-end.error c.in-Ok-read_lines.ensures.value
    (subst (λ (h : Header). IsLogError c.in-Err-end.error (ended h rest)) c.in-Ok-read_lines.ensures.header c.in-Err-end.ensures.value)

pub returns-in-Err-end-clause-only : goal.returns-in-Err-end-clause-only
returns-in-Err-end-clause-only c = λ log is. read_only c.args.bytes.now (Err c.in-Err-end.error) (returns-in-Err-end-clause-value c) log is

pub returns-clause-value : goal.returns-clause-value
returns-clause-value c =
    let rest = c.read_lines.new.reader.rest in
    let header = ap (λ (k : Cursor). k.header) c.in-Ok-end.ensures.same ∙ c.in-Ok-read_lines.ensures.header in
    log_read c.args.bytes.now c.in-Ok.reader c.in-Ok.ensures.value c.header.result c.in-Ok-read_lines.read.0.items c.in-Ok-read_lines.read.1.regions rest c.in-Ok-end.end
    (c.header.ensures.value ∙ header) c.in-Ok-read_lines.ensures.begin c.in-Ok-read_lines.ensures.value
    (ap (λ (h : Header). ended h rest) (sym c.in-Ok-read_lines.ensures.header) ∙ c.in-Ok-end.ensures.value)

pub invariant_of-result : goal.invariant_of-result
invariant_of-result c =
    let rest = c.read_lines.new.reader.rest in
    let header = ap (λ (k : Cursor). k.header) c.in-Ok-end.ensures.same ∙ c.in-Ok-read_lines.ensures.header in
    let value = log_read c.args.bytes.now c.in-Ok.reader c.in-Ok.ensures.value c.header.result c.in-Ok-read_lines.read.0.items c.in-Ok-read_lines.read.1.regions rest c.in-Ok-end.end
    (c.header.ensures.value ∙ header) c.in-Ok-read_lines.ensures.begin c.in-Ok-read_lines.ensures.value
    (ap (λ (h : Header). ended h rest) (sym c.in-Ok-read_lines.ensures.header) ∙ c.in-Ok-end.ensures.value) in
    record {
      log = (read_found c.args.bytes.now (certificate_of c.header.result c.in-Ok-read_lines.read.1.regions c.in-Ok-read_lines.read.0.items c.in-Ok-end.end) value).log;
      count = c.in-Ok-read_lines.ensures.count;
    }

pub returns-clause-found : goal.returns-clause-found
returns-clause-found c =
    read_found c.args.bytes.now (certificate_of c.header.result c.in-Ok-read_lines.read.1.regions c.in-Ok-read_lines.read.0.items c.in-Ok-end.end) (returns-clause-value c)

pub returns-clause-only : goal.returns-clause-only
returns-clause-only c = λ log is.
    read_only c.args.bytes.now (Ok (certificate_of c.header.result c.in-Ok-read_lines.read.1.regions c.in-Ok-read_lines.read.0.items c.in-Ok-end.end)) (returns-clause-value c) log is
