-- Answers in the proof of `passing::verdict_left`.
use Rattle.std.specs.Prelude.{◌≡◌, ◌+◌, Ok}
use Rattle.std.proofs.Common.{ap, sym, ◌∙◌}
use Rattle.psi_log_format.specs.declared.header.Header.{Header}
use Rattle.psi_log.specs.Cursor.{Cursor}
use Rattle.psi_replay.specs.Verdict.{judge_end, verdict_of}
use Rattle.psi_replay.specs.declared.answers.Verdict.{Verdict}
use Rattle.psi_log_format.specs.Listed.{shown}
use Rattle.psi_replay.specs.Passes.{told, and_then, told_log}
use Rattle.psi_replay.proofs.PassLemmas.{told_is, left_refused, end_refused, end_judged}
use Rattle.psi_replay.proofs.passing.verdict_left.Goals as goal

pub returns-in-Err : goal.returns-in-Err
returns-in-Err g c =
    let passed = c.judge_lines-passed in
    record {
      value = left_refused g.E.EventLaw.function c.args.system.now (g.P.Past.words c.args.past.now) c.args.reader.now passed.new.reader c.args.before passed.result.judged passed.ensures.left
          passed.result.read c.in-Err.error c.in-Err.is passed.ensures.refused;
    }

pub returns-in-Err-end : goal.returns-in-Err-end
returns-in-Err-end g c =
    let passed = c.judge_lines-passed in
    record {
      value = end_refused g.E.EventLaw.function c.args.system.now (g.P.Past.words c.args.past.now) c.args.reader.now passed.new.reader c.args.before passed.result.judged passed.ensures.left
          passed.result.read c.in-Ok.is passed.ensures.done c.in-Err-end.error c.in-Err-end.ensures.value;
    }

pub returns : goal.returns
returns g c =
    let passed = c.judge_lines-passed in
    let reader = passed.new.reader in
    let end = c.in-Ok-end.end in
    let last = told c.judge_last-judged.result in
    let header : reader.header ≡ c.header-header.result = passed.ensures.header ∙ sym c.header-header.ensures.value in
    let region : shown c.region-last.result ≡ reader.region = c.region-last.ensures.value ∙ ap (λ (k : Cursor). k.region) c.in-Ok-end.ensures.same in
    let judged_so = told_is c.judge_last-judged.result _ c.judge_last-judged.ensures in
    let judges : and_then (told passed.result.judged) (judge_end (7 + reader.header.horizon) reader.region end) ≡ last = cc in
    record {
      value = end_judged g.E.EventLaw.function c.args.system.now (g.P.Past.words c.args.past.now) c.args.reader.now reader c.args.before passed.result.judged passed.ensures.left
          passed.result.read c.in-Ok.is passed.ensures.done end last c.in-Ok-end.ensures.value judges
          ∙ ap (λ (h : Header). Ok (verdict_of (told_log h end) last)) header ∙ ap (λ (v : Verdict). Ok v) (sym c.verdict_from.ensures);
    }
