-- Answers in the proof of `State::padded`.
use Rattle.psi_state.proofs.ComparingLemmas.{same-padded}
use Rattle.psi_state.proofs.state.State.padded.Goals as goal

pub returns : goal.returns
returns c i = same-padded c.self.inside.values c.args.self.now c.self.inside.len i c.self.invariant.1 c.self.invariant.2 c.self.invariant.3 c.self.view_is
