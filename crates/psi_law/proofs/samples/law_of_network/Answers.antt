-- Answers in the proof of `law_of_network`.
use Rattle.std.proofs.Common.{rules}
use Rattle.psi_law.proofs.NetworkLemmas.{network-lawful, network-sampled}
use Rattle.psi_law.proofs.samples.law_of_network.Goals as goal

pub returns : goal.returns
returns c =
    let is = network-lawful c.args.net.now c.networks_are_kept.ensures.kept in
    let laws = is.laws in
    let sampled = network-sampled c.args.net.now c.networks_are_kept.ensures.kept in
    search rules
