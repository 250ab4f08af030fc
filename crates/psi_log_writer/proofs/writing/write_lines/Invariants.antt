-- Invariants of the loops of `write_lines`.
use Rattle.std.proofs.Common.{◌≡◌, ◌++◌}
use Rattle.psi_log_writer.specs.Sending.{IsSent}
use Rattle.psi_log_writer.specs.Walking.{text_in, IsWalking}
use Rattle.psi_log_writer.proofs.writing.write_lines.Given as goal

-- the plan is at the place, and the text before it is taken by the sink, waits in the block or is held
abbrev pub invariant-loop-place : goal.invariant-loop-place
invariant-loop-place g l = record {
  walk : IsWalking g.E.EventLaw.function g.P.Past.words l.plan l.header.horizon l.place l.told;
  system : l.plan.system ≡ l.fn.plan.system;
  words : g.P.Past.words l.plan.past ≡ g.P.Past.words l.fn.plan.past;
  sent : IsSent
      (record { held = g.O.Sink.held l.fn.out; took = g.O.Sink.took l.fn.out; faults = g.O.Sink.faults l.fn.out; takes = g.O.Sink.takes l.fn.out })
      (record { held = g.O.Sink.held l.out; took = g.O.Sink.took l.out; faults = g.O.Sink.faults l.out; takes = g.O.Sink.takes l.out })
      (l.block ++ l.line) (text_in g.E.EventLaw.function l.fn.plan.system (g.P.Past.words l.fn.plan.past) l.header l.state l.place);
}
