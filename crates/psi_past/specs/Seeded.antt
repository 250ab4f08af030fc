-- What a past of a seed is.
use Rattle.std.specs.Prelude.{ℕ}

-- what a past of a seed is: the seed and the number of the stream, both below 2 ^ 64
pub record Seeded : Type 0 where
  pub seed : ℕ
  pub stream : ℕ
