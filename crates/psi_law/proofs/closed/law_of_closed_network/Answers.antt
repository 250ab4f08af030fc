-- Answers in the proof of `law_of_closed_network`.
use Rattle.std.proofs.Common.{rules}
use Rattle.psi_law.proofs.ClosedLemmas.{kinds-lawful, kinds-sampled}
use Rattle.psi_law.proofs.closed.law_of_closed_network.Goals as goal

pub returns : goal.returns
returns c =
    let is = kinds-lawful c.args.net.now c.args.total c.networks_are_kept.ensures.kept c.requires.moves c.requires.fits in
    let laws = is.laws in
    let sampled = kinds-sampled c.args.net.now c.args.total c.networks_are_kept.ensures.kept c.requires.moves c.requires.fits in
    search rules
