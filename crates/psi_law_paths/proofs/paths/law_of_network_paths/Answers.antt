-- Answers in the proof of `law_of_network_paths`.
use Rattle.std.proofs.Common.{rules}
use Rattle.psi_law.proofs.NetworkLemmas.{network-lawful}
use Rattle.psi_law_paths.proofs.PathLemmas.{are-paths}
use Rattle.psi_law_paths.proofs.paths.law_of_network_paths.Goals as goal

pub returns : goal.returns
returns c =
    let kept = c.networks_are_kept.ensures.kept in
    let paths = are-paths c.args.net.now.limit (network-lawful c.args.net.now kept).laws kept.limit in
    search rules
