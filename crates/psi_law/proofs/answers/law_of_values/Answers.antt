-- Answers in the proof of `law_of_values`.
use Rattle.psi_law.proofs.NetworkAnswerLemmas.{values-agree, values-reach, values-lawful, values-look}
use Rattle.psi_law.proofs.answers.law_of_values.Goals as goal

pub returns : goal.returns
returns c =
    let net = c.args.net.now in
    let kept = c.networks_are_kept.ensures.kept in
    record { agrees = values-agree net kept; reaches = values-reach net kept; law = values-lawful net kept; words = values-look net kept }
