-- Invariants of the loops of `Keyed::advance`.
use Rattle.std.proofs.Common.{drop}
use Rattle.psi_state.specs.State.{IsBelow}
use Rattle.psi_follow_keyed.specs.Keys.{AreKeys}
use Rattle.psi_follow_keyed.specs.Keyed.{Follows}
use Rattle.psi_follow_keyed.proofs.keyed.Keyed.advance.Given as goal

-- the states are those that the numbers after this place make of the states of before
abbrev pub invariant-loop-place : goal.invariant-loop-place
invariant-loop-place l = record {
  low_within : IsBelow l.low.state l.self.keys.caps;
  low_keys : AreKeys l.self.keys l.low.state l.low.keys;
  high_within : IsBelow l.high.state l.self.keys.caps;
  high_keys : AreKeys l.self.keys l.high.state l.high.keys;
  low : Follows l.self (drop l.place l.numbers) l.fn.low.state l.low.state;
  high : Follows l.self (drop l.place l.numbers) l.fn.high.state l.high.state;
}
