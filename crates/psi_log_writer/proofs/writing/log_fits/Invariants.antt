-- Invariants of the loops of `log_fits`.
use Rattle.std.proofs.Common.{◌≡◌, ◌+◌, length}
use Rattle.psi_log_writer.specs.Walking.{text_in, IsWalking}
use Rattle.psi_log_writer.proofs.writing.log_fits.Given as goal

-- the plan is at the place, and the text before it is taken off the room
abbrev pub invariant-loop-place : goal.invariant-loop-place
invariant-loop-place g l = record {
  walk : IsWalking g.E.EventLaw.function g.P.Past.words l.plan l.header.horizon l.place l.told;
  system : l.plan.system ≡ l.fn.plan.system;
  words : g.P.Past.words l.plan.past ≡ g.P.Past.words l.fn.plan.past;
  room : l.room + length (text_in g.E.EventLaw.function l.fn.plan.system (g.P.Past.words l.fn.plan.past) l.header l.state l.place) ≡ 33554432;
}
