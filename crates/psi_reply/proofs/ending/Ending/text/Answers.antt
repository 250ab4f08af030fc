-- Answers in the proof of `ending::Ending::text`.
use Rattle.psi_reply.proofs.EndingLemmas.{printed_text}
use Rattle.psi_reply.proofs.ending.Ending.text.Goals as goal

pub returns-in-Printed : goal.returns-in-Printed
returns-in-Printed c =
    printed_text c.args.self.now c.in-Printed.status c.in-Printed.text c.as_slice.result.now c.args.line.now c.in-Printed.is c.as_slice.ensures.value c.requires
