-- Answers in the proof of `finish`.
use Rattle.std.proofs.Common.{refl, ap, ◌∙◌}
use Rattle.psi_reply.specs.Ending.{ending_reply, with_line}
use Rattle.psi_reply.specs.Ended.{ending_of}
use Rattle.psi_run.proofs.writing.finish.Goals as goal

pub text-text-requires : goal.text-text-requires
text-text-requires g c none = c.as_slice.ensures.value ∙ c.line-line.ensures ∙ none

pub returns : goal.returns
returns g c =
    let ending = ending_of c.args.ending.now in
    let text = c.text-text.ensures ∙ ap (with_line (ending_reply ending)) (c.as_slice.ensures.value ∙ c.line-line.ensures) in
    let written = rw (c.status.ensures, text) at c.finish.ensures.written in
    let taken = rw (c.status.ensures, text) at c.finish.ensures.taken in
    record { ending = ending; is = refl; written = written; taken = taken }
