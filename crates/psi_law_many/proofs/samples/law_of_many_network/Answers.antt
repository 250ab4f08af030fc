-- Answers in the proof of `law_of_many_network`.
use Rattle.std.proofs.Common.{rules}
use Rattle.psi_law_many.proofs.ReportLemmas.{reported}
use Rattle.psi_law_many.proofs.ManyLemmas.{are-many}
use Rattle.psi_law_many.proofs.samples.law_of_many_network.Goals as goal

pub returns : goal.returns
returns c =
    let one = c.law_of_network.ensures in
    let laws = are-many one.chain one.reaches in
    let report = reported c.args.net.now one.chain one.reaches in
    search rules
