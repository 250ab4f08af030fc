-- How what a consumer took grows by what a reader gives.
use Rattle.std.proofs.Common.{◌≡◌, ℕ, List, ◌++◌, length, Option}
use Rattle.std.specs.Io.KnownBytes.{Consumes}

-- bytes went from a reader to a consumer: what it took before and after, and what the reader had left
pub record Fed (bytes before after : List ℕ) (count : ℕ) (had has : Option (List ℕ)) : Type 0 where
  pub grew : after ≡ before ++ bytes
  pub long : length bytes ≡ count
  pub given : Consumes had has bytes
