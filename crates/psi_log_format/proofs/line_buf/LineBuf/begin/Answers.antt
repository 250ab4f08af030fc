-- Answers in the proof of `LineBuf::begin`.
use Rattle.std.proofs.Common.{arith}
use Rattle.std.proofs.lemmas.Grind.{common_steps}
use Rattle.psi_log_format.specs.Log.{in_box}
use Rattle.psi_log_format.proofs.LinePiecesLemmas.{begin_pieces}
use Rattle.psi_log_format.proofs.JoinedLemmas.{three_pieces}
use Rattle.psi_log_format.proofs.line_buf.LineBuf.begin.Goals as goal

pub returns : goal.returns
returns c = grind (arith, common_steps, three_pieces _ _ _ _ c.put-named.ensures c.put_box-told.ensures.text c.put-self-inside.ensures (begin_pieces (in_box c.args.b.now)))
