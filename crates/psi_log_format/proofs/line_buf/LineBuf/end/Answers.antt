-- Answers in the proof of `LineBuf::end`.
use Rattle.std.proofs.Common.{arith}
use Rattle.std.proofs.lemmas.Grind.{common_steps}
use Rattle.psi_log_format.proofs.LinePiecesLemmas.{end_pieces}
use Rattle.psi_log_format.proofs.JoinedLemmas.{three_pieces}
use Rattle.psi_log_format.proofs.line_buf.LineBuf.end.Goals as goal

pub returns : goal.returns
returns c = grind (arith, common_steps, three_pieces _ _ _ _ c.put-named.ensures c.put_state-told.ensures.text c.put-self-inside.ensures (end_pieces _))
