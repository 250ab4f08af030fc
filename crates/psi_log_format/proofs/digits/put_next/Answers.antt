-- Answers in the proof of `put_next`.
use Rattle.std.proofs.Common.{arith}
use Rattle.psi_log_format.proofs.JoinedLemmas.{front_text}
use Rattle.psi_log_format.proofs.digits.put_next.Goals as goal

pub returns-clause-text : goal.returns-clause-text
returns-clause-text c =
    let h = c.requires.table c.args.n _ (omega arith) in
    front_text _ _ _ h.few h.whole h.text c.put-end.ensures (omega arith)
