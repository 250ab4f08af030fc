-- What is kept of a past.
use Rattle.std.specs.Prelude.{ℕ}

-- the past that words are drawn from, the number of its words that are kept, from place 0 on, and the number that there is room for
pub record Keeping (P : Type 0) : Type 0 where
  pub past : P
  pub count : ℕ
  pub most : ℕ
