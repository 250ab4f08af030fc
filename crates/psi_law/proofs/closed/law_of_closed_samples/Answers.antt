-- Answers in the proof of `law_of_closed_samples`.
use Rattle.std.proofs.Common.{rules}
use Rattle.psi_law.proofs.ClosedLemmas.{moves-lawful, moves-sampled}
use Rattle.psi_law.proofs.closed.law_of_closed_samples.Goals as goal

pub returns : goal.returns
returns c =
    let is = moves-lawful c.args.caps c.args.total c.args.moves.now c.args.wheel.now c.args.limit c.requires.moves c.requires.fits c.wheels_have_rates.ensures.valid c.requires.same_count in
    let laws = is.laws in
    let sampled = moves-sampled c.args.caps c.args.total c.args.moves.now c.args.wheel.now c.args.limit c.requires.moves c.requires.fits c.wheels_have_rates.ensures.valid c.requires.same_count in
    search rules
