-- Answers in the proof of `Rows::put_path`.
use Rattle.std.proofs.Common.{ℕ, List, ◌++◌, ◌∙◌, ap, sym, subst}
use Rattle.psi_log_writer.specs.Sending.{SinkState, IsSent}
use Rattle.psi_log_writer.proofs.SendingLemmas.{sends-stopped, stopped-longer, sent-waits}
use Rattle.psi_table.specs.PathLines.{path_line}
use Rattle.psi_table.proofs.rows.Rows.put_path.Goals as goal

pub returns-in_err-make_room : goal.returns-in_err-make_room
returns-in_err-make_room g c seed are =
    let line = path_line c.args.net.now seed c.args.walked.now.steps c.args.stream c.args.outcome.now in
    sends-stopped c.from_residual.result _ _ c.make_room.new.self (c.args.self.now ++ line) c.from_residual.ensures.0
    (stopped-longer _ _ c.args.self.now line c.in_err-make_room.ensures.sent)

pub returns : goal.returns
returns g c seed are =
    let line = path_line c.args.net.now seed c.args.walked.now.steps c.args.stream c.args.outcome.now in
    let first : SinkState = record { held = g.O.Sink.held c.args.out.now; took = g.O.Sink.took c.args.out.now; faults = g.O.Sink.faults c.args.out.now; takes = g.O.Sink.takes c.args.out.now } in
    let last : SinkState = record { held = g.O.Sink.held c.make_room.new.out; took = g.O.Sink.took c.make_room.new.out; faults = g.O.Sink.faults c.make_room.new.out; takes = g.O.Sink.takes c.make_room.new.out } in
    subst (λ (xs : List ℕ). IsSent first last xs (c.args.self.now ++ line)) (sym (c.put_path_line.ensures.text seed are ∙ ap (λ (xs : List ℕ). xs ++ line) c.self.view_is))
    (sent-waits first last c.make_room.new.self c.args.self.now line c.in_ok-make_room.ensures.sent)
