-- Answers in the proof of `log::read_lines`.
use Rattle.std.specs.Prelude.{◌≡◌, ◌-◌, ◌+◌, ◌∷◌, [], ◌++◌, drop}
use Rattle.std.proofs.Common.{ap, sym, ◌∙◌, arith}
use Rattle.psi_log_format.specs.declared.header.Header.{Header}
use Rattle.psi_log_format.specs.Log.{LogRegion}
use Rattle.psi_log_words.specs.Regions.{box_before}
use Rattle.psi_log.specs.Inner.LogViews.{entries_of}
use Rattle.psi_log.proofs.StepLemmas.{steps_end}
use Rattle.psi_log.proofs.LogLemmas.{lines_more, lines_fail}
use Rattle.psi_log.proofs.log.read_lines.Goals as goal

pub returns-in-Err-clause-refused : goal.returns-in-Err-clause-refused
returns-in-Err-clause-refused c =
    let first = c.args.reader.now in
    let kept = c.loop-done.invariant in
    let size : c.header-header.result.horizon ≡ first.header.horizon = ap (λ (h : Header). h.horizon) c.header-header.ensures.value in
    lines_fail c.loop-done.reader first.header c.loop-done.done first.region c.loop-done.steps.items c.loop-done.regions.regions _ kept.header kept.done (omega arith) kept.value
    c.in-Err.error c.in-Err.ensures.refused

pub loop-done-preserved : goal.loop-done-preserved
loop-done-preserved c =
    let first = c.args.reader.now in
    let kept = c.loop-done.invariant in
    let size : c.header-header.result.horizon ≡ first.header.horizon = ap (λ (h : Header). h.horizon) c.header-header.ensures.value in
    let more = lines_more c.loop-done.reader first.header c.loop-done.done first.region c.loop-done.steps.items c.loop-done.regions.regions _ kept.header kept.done (omega arith) kept.value
    c.next.new.self c.in-Ok.step c.push-in-loop-done.new.self.items c.push-in-loop-done-2.new.self.regions c.in-Ok.ensures.value kept.begin kept.count c.in_ok-push-2.ensures.items
    (c.in_ok-push-3.ensures.regions ∙ ap (λ (r : LogRegion). c.loop-done.regions.regions ++ r ∷ []) c.region-in-loop-done.ensures.value) in
    record {
      begin = more.0;
      count = more.1;
      queues = c.in_ok-push-3.ensures.queues ∙ kept.queues;
      header = c.in-Ok.ensures.header ∙ kept.header;
      done = c.in-Ok.ensures.done ∙ ap (λ (d : _). d + 1) kept.done;
      value = more.2;
    }

pub returns-clause-value : goal.returns-clause-value
returns-clause-value c =
    let first = c.args.reader.now in
    let kept = c.loop-done.invariant in
    let size : c.header-header.result.horizon ≡ first.header.horizon = ap (λ (h : Header). h.horizon) c.header-header.ensures.value in
    sym kept.value
    ∙ steps_end first.header (first.header.horizon - c.loop-done.done) (7 + c.loop-done.done) (box_before first.header.version c.loop-done.reader.region) c.loop-done.reader.rest
    (entries_of c.loop-done.steps.items (drop 1 c.loop-done.regions.regions)) (omega arith)
