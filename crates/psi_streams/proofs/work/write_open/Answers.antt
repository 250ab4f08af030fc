-- Answers in the proof of `work::write_open`.
use Rattle.psi_log_writer.specs.Sending.{SinkState}
use Rattle.psi_streams.proofs.WritingLemmas.{table_finished}
use Rattle.psi_streams.proofs.work.write_open.Goals as goal

pub returns : goal.returns
returns g c =
    let written = rw (c.new-streams.ensures, c.in-Ok-begin.ensures) at c.write_table-written.ensures in
    let err : SinkState = record { held = g.E.Sink.held c.args.err.now; took = g.E.Sink.took c.args.err.now; faults = g.E.Sink.faults c.args.err.now; takes = g.E.Sink.takes c.args.err.now } in
    table_finished c.args.task.now.name.now _ _ err.takes _ _ err c.write_table-written.result written c.table_status.result c.table_status.ensures
