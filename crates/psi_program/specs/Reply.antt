-- What a program answers: a status with a text for out and a text for err.
use Rattle.std.specs.Prelude.{ℕ, List, []}

-- a status with a text for out and a text for err
pub record Reply (Status : Type 0) : Type 0 where
  pub status : Status
  pub out : List ℕ
  pub err : List ℕ

-- a text for out
abbrev pub text_reply : {Status : Type 0} → Status → List ℕ → Reply Status
text_reply status text = record { status = status; out = text; err = [] }

-- a line for err
abbrev pub line_reply : {Status : Type 0} → Status → List ℕ → Reply Status
line_reply status line = record { status = status; out = []; err = line }
