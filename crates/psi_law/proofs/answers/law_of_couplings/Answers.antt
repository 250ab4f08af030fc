-- Answers in the proof of `law_of_couplings`.
use Rattle.std.proofs.Common.{rules}
use Rattle.psi_law.proofs.NetworkAnswerLemmas.{coupling-agrees, coupling-lawful}
use Rattle.psi_law.proofs.answers.law_of_couplings.Goals as goal

pub returns : goal.returns
returns c =
    let net = c.args.net.now in
    let kept = c.networks_are_kept.ensures.kept in
    let agrees = coupling-agrees net kept in
    let laws = coupling-lawful net kept in
    search rules
