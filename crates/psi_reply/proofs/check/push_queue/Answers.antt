-- Answers in the proof of `check::push_queue`.
use Rattle.std.proofs.Common.{append_assoc}
use Rattle.psi_reply.specs.Check.{queue_line}
use Rattle.psi_reply.proofs.check.push_queue.Goals as goal

pub returns : goal.returns
unfolding queue_line
returns c =
    let made = rw (c.as_bytes-capacity.ensures.value, c.format.ensures.text, c.as_bytes-servers.ensures.value, c.format-2.ensures.text) at c.push_pieces.ensures in
    simp append_assoc made
