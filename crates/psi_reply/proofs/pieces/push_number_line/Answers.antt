-- Answers in the proof of `push_number_line`.
use Rattle.std.proofs.Common.{append_assoc}
use Rattle.psi_reply.specs.Texts.{number_line}
use Rattle.psi_reply.proofs.pieces.push_number_line.Goals as goal

pub returns : goal.returns
unfolding number_line
returns c = let made = rw (c.as_bytes.ensures.value, c.format.ensures.text) at c.push_pieces.ensures in simp append_assoc made
