-- Answers in the proof of `pass_on`.
use Rattle.std.proofs.Common.{◌++◌, refl}
use Rattle.psi_log_writer.specs.Sending.{SinkState}
use Rattle.psi_log_writer.proofs.SendingLemmas.{sent-nothing, sent-passed, stopped-passed, sends-stopped}
use Rattle.psi_log_writer.proofs.writing.pass_on.Goals as goal

pub returns-then-bytes-most-clause-sent : goal.returns-then-bytes-most-clause-sent
returns-then-bytes-most-clause-sent g c = sent-nothing _ _ _ refl

pub returns-in_err-put-clause-sent : goal.returns-in_err-put-clause-sent
returns-in_err-put-clause-sent g c =
    let first : SinkState = record { held = g.O.Sink.held c.args.out.now; took = g.O.Sink.took c.args.out.now; faults = g.O.Sink.faults c.args.out.now; takes = g.O.Sink.takes c.args.out.now } in
    let last : SinkState = record { held = g.O.Sink.held c.put.new.out; took = g.O.Sink.took c.put.new.out; faults = g.O.Sink.faults c.put.new.out; takes = g.O.Sink.takes c.put.new.out } in
    sends-stopped c.from_residual.result first last (c.put.new.self ++ c.args.line.now) (c.args.block.now ++ c.args.line.now) c.from_residual.ensures.0
    (stopped-passed first last c.args.block.now c.args.line.now c.bytes-2.result.now c.bytes-2.ensures c.in_err-put.ensures)

pub returns-clause-sent : goal.returns-clause-sent
returns-clause-sent g c =
    let first : SinkState = record { held = g.O.Sink.held c.args.out.now; took = g.O.Sink.took c.args.out.now; faults = g.O.Sink.faults c.args.out.now; takes = g.O.Sink.takes c.args.out.now } in
    let last : SinkState = record { held = g.O.Sink.held c.put.new.out; took = g.O.Sink.took c.put.new.out; faults = g.O.Sink.faults c.put.new.out; takes = g.O.Sink.takes c.put.new.out } in
    sent-passed first last c.args.block.now c.args.line.now c.bytes-2.result.now c.put.new.self c.clear.new.self c.bytes-2.ensures c.clear.ensures c.in_ok-put.ensures
