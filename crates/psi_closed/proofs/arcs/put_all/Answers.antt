-- Answers in the proof of `put_all`.
use Rattle.std.proofs.Common.{◌∙◌, refl}
use Rattle.psi_closed.proofs.DiagramLemmas.{filled-arcs}
use Rattle.psi_closed.proofs.arcs.put_all.Goals as goal

pub returns-clause-arcs : goal.returns-clause-arcs
returns-clause-arcs c =
    let all = c.fill.new.self in
    filled-arcs c.args.caps.now c.args.held.now.total all.levels c.args.held.now.total all.total all.arcs c.keep_useful.new.self.arcs
    (c.fill.ensures.levels ∙ c.requires.levels) refl c.fill.ensures.total c.fill.ensures.arcs c.keep_useful.ensures.arcs
