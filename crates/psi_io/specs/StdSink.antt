-- What a sink over a writer is, and how what its writer holds grows.
use Rattle.std.specs.Prelude.{ℕ, List, Option, take}
use Rattle.std.specs.Io.KnownBytes.{Appends}

-- a sink over a writer: the writer, the bytes that it accepted since the sink was made, and the count of faults
pub record OverWriter (W : Type 0) : Type 0 where
  pub writer : W
  pub took : List ℕ
  pub count : ℕ

-- what a writer holds, where it is known, grew by a front of a piece
pub record AppendsFront (before after : Option (List ℕ)) (piece : List ℕ) : Type 0 where
  pub count : ℕ
  pub appends : Appends before after (take count piece)
