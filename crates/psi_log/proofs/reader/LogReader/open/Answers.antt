-- Answers in the proof of `LogReader::open`.
use Rattle.std.proofs.Common.{ap, ◌∙◌}
use Rattle.psi_log_format.specs.Rows.{States}
use Rattle.psi_log.proofs.ReaderLemmas.{opens_kept}
use Rattle.psi_log.proofs.reader.LogReader.open.Goals as goal

pub invariant_of-result : goal.invariant_of-result
invariant_of-result c =
    opens_kept c.in-Ok.read.0 c.in-Ok.read.1 c.in_ok-slot.slot.value c.empty_slot.result c.in_ok-spare.spare.value c.args.text.now c.in-Ok.read.2.now c.in-Ok.ensures.value c.in-Ok.ensures.filled
    (ap (λ (s : States). s.queues) (c.empty_slot.ensures ∙ c.new-states.ensures)) c.in_ok-slot.ensures.ok c.in_ok-spare.ensures.ok

pub returns-clause-cursor : goal.returns-clause-cursor
returns-clause-cursor c =
    (opens_kept c.in-Ok.read.0 c.in-Ok.read.1 c.in_ok-slot.slot.value c.empty_slot.result c.in_ok-spare.spare.value c.args.text.now c.in-Ok.read.2.now c.in-Ok.ensures.value c.in-Ok.ensures.filled
    (ap (λ (s : States). s.queues) (c.empty_slot.ensures ∙ c.new-states.ensures)) c.in_ok-slot.ensures.ok c.in_ok-spare.ensures.ok).cursor
