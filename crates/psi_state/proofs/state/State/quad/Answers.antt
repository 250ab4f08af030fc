-- Answers in the proof of `State::quad`.
use Rattle.std.proofs.Common.{ap, ◌∙◌}
use Rattle.psi_state.specs.Hashing.{quad}
use Rattle.psi_state.proofs.ArraysLemmas.{quad-padded}
use Rattle.psi_state.proofs.state.State.quad.Goals as goal

pub returns : goal.returns
returns c = c.quad_of.ensures
    ∙ quad-padded c.self.inside.values c.self.inside.len c.args.i c.self.invariant.1 c.self.invariant.2 c.self.invariant.3
    ∙ ap (λ x. quad x c.args.i) c.self.view_is
