-- A call of a program, and how it ends with a fault.
use Rattle.std.specs.Prelude.{ℕ, List, Option, IfSome, ◌⊎◌}
use Rattle.psi_program.specs.Seen.{ShelfSeen, SinkSeen, Grew, GrewByPart, IsUnchanged, HasFailed}
use Rattle.psi_program.specs.Reply.{Reply}
use Rattle.psi_program.specs.Written.{IsTaken}

-- a call: its words, the shelf that it reads and the two sinks that it writes
pub record Call : Type 0 where
  pub words : List (List ℕ)
  pub shelf : ShelfSeen
  pub out : SinkSeen
  pub err : SinkSeen

-- a file couldn't be read, and err tells which by its line
pub record ReadFaulted (call : Call) {Unread : Type 0} (line : Unread → List ℕ) : Type 0 where
  pub cause : Unread
  pub out : IsUnchanged call.out
  pub err : Grew call.err (line cause)

-- out failed within the reply's text
pub record OutFaulted {Status : Type 0} (call : Call) (reply : Option (Reply Status)) : Type 0 where
  pub cause : HasFailed call.out
  pub out : IfSome reply (λ given. GrewByPart call.out given.out)
  pub err : IsUnchanged call.err

-- what err holds where it failed: a prefix of the reply's line, of the line on a failed read, or where the words ask for work, of the line on
-- memory that ran out
abbrev pub EndsWithin : {Status Unread : Type 0} → Call → (Unread → List ℕ) → (IsAsked : Type 0) → (memory_line : List ℕ) → Reply Status → Type 0
EndsWithin {Unread = Unread} call line IsAsked memory_line reply =
    GrewByPart call.err reply.err ⊎ (((cause : Unread) × GrewByPart call.err (line cause)) ⊎ (IsAsked × GrewByPart call.err memory_line))

-- err failed within its text
pub record ErrFaulted {Status Unread : Type 0} (call : Call) (reply : Option (Reply Status)) (line : Unread → List ℕ) (IsAsked : Type 0) (memory_line : List ℕ) : Type 0 where
  pub cause : HasFailed call.err
  pub out : IsUnchanged call.out
  pub err : IfSome reply (EndsWithin call line IsAsked memory_line)

-- memory ran out in work that is asked for, before anything was written, and err tells it
pub record MemoryLacked (call : Call) (IsAsked : Type 0) (memory_line : List ℕ) : Type 0 where
  pub cause : IsAsked
  pub out : IsUnchanged call.out
  pub err : Grew call.err memory_line

-- out and err take the reply's texts, and where the words ask for work, err takes the line on memory that ran out
pub record AreTaken {Status : Type 0} (out_takes err_takes : ℕ → Type 0) (IsAsked : Type 0) (memory_line : List ℕ) (reply : Reply Status) : Type 0 where
  pub out : IsTaken out_takes reply.out
  pub err : IsTaken err_takes reply.err
  pub memory : IsAsked → IsTaken err_takes memory_line
