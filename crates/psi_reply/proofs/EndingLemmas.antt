-- The text of an ending.
use Rattle.std.specs.Prelude.{◌≡◌, ℕ, List, [], Vec}
use Rattle.std.specs.declared.alloc.Global.{Global}
use Rattle.std.proofs.Common.{arith}
use Rattle.std.proofs.lemmas.Grind.{common_steps}
use Rattle.psi_program.specs.Reply.{text_reply}
use Rattle.psi_command.specs.declared.status.Status.{Status}
use Rattle.psi_reply.specs.declared.ending.Ending.{Ending as Ended}
use Rattle.psi_reply.specs.declared.ending.Ending.TheVariants.{Printed}
use Rattle.psi_reply.specs.Ending.{ending_reply, with_line}
use Rattle.psi_reply.specs.Ended.{ending_of}

-- a text for out, which has no line
pub printed_text : (ending : Ended) (status : Status) (text : Vec ℕ Global) (bytes line : List ℕ) → ending ≡ Printed status text → bytes ≡ text.items
    → ((ending_reply (ending_of ending)).err ≡ [] → line ≡ []) → text_reply (ending_reply (ending_of ending)).status bytes ≡ with_line (ending_reply (ending_of ending)) line
printed_text ending status text bytes line is same none = grind (arith, common_steps)
