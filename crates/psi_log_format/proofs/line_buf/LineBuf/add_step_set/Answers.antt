-- Answers in the proof of `LineBuf::add_step_set`.
use Rattle.std.proofs.Common.{arith}
use Rattle.std.proofs.lemmas.Grind.{common_steps}
use Rattle.psi_log_format.proofs.LinePiecesLemmas.{step_pieces}
use Rattle.psi_log_format.proofs.JoinedLemmas.{three_pieces}
use Rattle.psi_log_format.proofs.line_buf.LineBuf.add_step_set.Goals as goal

pub returns : goal.returns
returns c = grind (arith, common_steps, three_pieces _ _ _ _ c.put_step-numbered.ensures.text c.put_set-told.ensures.text c.put-self-inside.ensures (step_pieces c.args.s.now _))
