-- Lemmas. Counts of faults, which rise by one and stand still at the greatest number of 64 bits.
use Rattle.std.specs.Prelude.{◌≡◌, ℕ, min, ◌-◌, ◌^◌, ◌≤◌}
use Rattle.std.proofs.Common.{arith}
use Rattle.psi_io.specs.Counts.{counted, Rose}

-- one more than a count that stands still is one more than the count
pub counted-still : (count : ℕ) → counted (min count (2 ^ 64 - 1)) ≡ counted count
counted-still count = omega arith

-- a count that rose in between rose over the whole
pub rose-over : (first before after last : ℕ) → first ≤ before → Rose before after → after ≤ last → Rose first last
rose-over first before after last earlier rose later = omega arith

-- a count that rises by one rose
pub rose-counted : (before after : ℕ) → after ≡ counted before → Rose before after
rose-counted before after is = omega arith
