-- The lines of `psi` under another program's name, and how such a program tells of faults.
use Rattle.std.specs.Prelude.{ℕ, List, [], ◌∷◌, ◌++◌}
use Rattle.psi_program.specs.Ending.{Faults, replied, unread, no_memory}
use Rattle.psi_command.specs.declared.status.Status.{Status}
use Rattle.psi_command.specs.declared.status.Status.TheVariants.{ReadFault, WriteFault, OutOfMemory}
use Rattle.psi_command.specs.Command.{File}
use Rattle.psi_reply.specs.Lines.{unread_line, memory_line}
use Rattle.psi_reply.specs.Reply.{Reply}
use Rattle.psi_reply.specs.Ending.{Ending}

-- a line of `psi` under a program's name, which replaces its first three bytes
unfoldable pub named_line : (name : List ℕ) → List ℕ → List ℕ
named_line name (p ∷ s ∷ i ∷ line) = name ++ line
named_line name line = []

-- a reply of `psi` under the name
abbrev pub named_reply : (name : List ℕ) → Reply → Reply
named_reply name reply = record reply { err = named_line name reply.err }

-- how the program of this name tells of faults
abbrev pub faults : (name : List ℕ) → Faults Status File
faults name = record {
  read_fault = ReadFault;
  write_fault = WriteFault;
  out_of_memory = OutOfMemory;
  unread_line = λ file. named_line name (unread_line file);
  memory_line = named_line name memory_line;
}

-- an ending of `psi` under the name
abbrev pub named_ending : (name : List ℕ) → Ending → Ending
named_ending name (replied reply) = replied (named_reply name reply)
named_ending name (unread file) = unread file
named_ending name no_memory = no_memory
