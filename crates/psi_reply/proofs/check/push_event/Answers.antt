-- Answers in the proof of `check::push_event`.
use Rattle.std.proofs.Common.{◌∙◌, append_assoc, refl}
use Rattle.psi_reply.specs.Check.{event_line}
use Rattle.psi_reply.proofs.check.push_event.Goals as goal

pub returns : goal.returns
unfolding event_line
returns c =
    let front = rw (c.as_bytes-server.ensures.value, c.format.ensures.text, c.as_bytes-rate.ensures.value, c.format-2.ensures.text) at c.in_ok-push_pieces.ensures in
    let made = rw (c.in_ok-push_mark.ensures, front) at c.in_ok-push.ensures.items in
    made ∙ simp append_assoc refl
