-- Answers in the proof of `law_of_closed_network_paths`.
use Rattle.std.proofs.Common.{rules}
use Rattle.psi_law.proofs.ClosedLemmas.{kinds-lawful}
use Rattle.psi_law_paths.proofs.PathLemmas.{are-paths}
use Rattle.psi_law_paths.proofs.closed.law_of_closed_network_paths.Goals as goal

pub returns : goal.returns
returns c =
    let kept = c.networks_are_kept.ensures.kept in
    let paths = are-paths c.args.net.now.limit (kinds-lawful c.args.net.now c.args.total kept c.requires.moves c.requires.fits).laws kept.limit in
    search rules
