-- Answers in the proof of `same::same_of_eight`.
use Rattle.std.proofs.Common.{rules}
use Rattle.psi_log_scan.proofs.ApartLemmas.{same_front}
use Rattle.psi_log_scan.proofs.same.same_of_eight.Goals as goal

pub returns-clause-same : goal.returns-clause-same
returns-clause-same c =
    same_front c.args.bytes.now c.args.others.now c.eight_of-own.result c.eight_of-other.result c.requires.count c.requires.others (search rules) (search rules) c.eight_of-own.ensures
    c.eight_of-other.ensures c.if-own-other.false (search rules) (search rules)
