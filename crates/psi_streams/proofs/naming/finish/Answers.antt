-- Answers in the proof of `naming::finish`.
use Rattle.std.proofs.Common.{refl, ap, sym, ◌∙◌}
use Rattle.psi_program.specs.Written.{reply_with}
use Rattle.psi_reply.specs.Ending.{ending_reply, with_line}
use Rattle.psi_reply.specs.Ended.{ending_of}
use Rattle.psi_streams.specs.Named.{named_line, named_ending}
use Rattle.psi_streams.proofs.NamingLemmas.{named_none, named_status, named_whole}
use Rattle.psi_streams.proofs.naming.finish.Goals as goal

pub text-text-requires : goal.text-text-requires
text-text-requires g c none = c.as_slice.ensures.value ∙ c.named_line-line.ensures ∙ ap (named_line c.args.name.now) (c.line.ensures ∙ none) ∙ named_none c.args.name.now

pub returns : goal.returns
returns g c =
    let name = c.args.name.now in
    let ending = ending_of c.args.ending.now in
    let status = c.status.ensures ∙ named_status name ending in
    let line = c.as_slice.ensures.value ∙ c.named_line-line.ensures ∙ ap (named_line name) c.line.ensures in
    let text = ap (λ s. reply_with s c.text-text.result) (sym (named_status name ending)) ∙ c.text-text.ensures ∙ ap (with_line (ending_reply ending)) line ∙ named_whole name ending in
    let written = rw (status, text) at c.finish.ensures.written in
    let taken = rw (status, text) at c.finish.ensures.taken in
    record { ending = named_ending name ending; is = refl; written = written; taken = taken }
