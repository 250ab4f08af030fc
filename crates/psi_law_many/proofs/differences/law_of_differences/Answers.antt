-- Answers in the proof of `law_of_differences`.
use Rattle.std.proofs.Common.{rules}
use Rattle.psi_law_many.proofs.ManyLemmas.{are-different}
use Rattle.psi_law_many.proofs.differences.law_of_differences.Goals as goal

pub returns : goal.returns
returns c =
    let first = c.law_of_network.ensures in
    let last = c.law_of_network-2.ensures in
    let laws = are-different first.chain first.reaches last.chain last.reaches in
    search rules
