-- How the work of a call ends, before anything is written.
use Rattle.std.specs.Prelude.{◌≡◌, ℕ, List}
use Rattle.psi_program.specs.Ending.{Ending as AnyEnding, replied, unread, no_memory, Faults, ending_reply as reply_with}
use Rattle.psi_command.specs.declared.status.Status.{Status}
use Rattle.psi_command.specs.declared.status.Status.TheVariants.{ReadFault, WriteFault, OutOfMemory}
use Rattle.psi_command.specs.Command.{File}
use Rattle.psi_reply.specs.Lines.{unread_line, memory_line}
use Rattle.psi_reply.specs.Reply.{Reply}

-- how the work ends
abbrev pub Ending : Type 0
Ending = AnyEnding Status File

-- how the program tells of faults
abbrev pub faults : Faults Status File
faults = record { read_fault = ReadFault; write_fault = WriteFault; out_of_memory = OutOfMemory; unread_line = unread_line; memory_line = memory_line }

-- the status and the texts with which the call ends, once they are written
abbrev pub ending_reply : Ending → Reply
ending_reply ending = reply_with faults ending

-- the reply with this line for err in place of its own
abbrev pub with_line : Reply → List ℕ → Reply
with_line reply line = record reply { err = line }

-- the work ends with this reply, unless an allocation failed
abbrev pub EndsWith : Ending → Reply → Type 0
EndsWith (replied given) reply = given ≡ reply
EndsWith (unread file) reply = ⊥
EndsWith no_memory reply = Unit {0}

-- the work ends with a reply
abbrev pub HasReplied : Ending → Type 0
HasReplied (replied reply) = Unit {0}
HasReplied ending = ⊥
