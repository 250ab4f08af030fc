-- Sets of sums, that is of numbers of customers below 320, as the bits of five words.
use Rattle.std.specs.Prelude.{◌≡◌, ℕ, ◌+◌, ◌/◌, ◌%◌, ◌<◌, Bool, true, nat_eq, slice_index}
use Rattle.std.specs.Int.{bit_at}
use Rattle.psi_closed_arcs.specs.declared.sums.Sums.{Sums}

-- whether the number is in the set
unfoldable pub has : Sums → ℕ → Bool
has sums t = nat_eq (bit_at (slice_index sums.words (t / 64)) (t % 64)) 1

-- the sum of s and v is in the set
pub record Leads (sums : Sums) (s v : ℕ) : Type 0 where
  pub small : s + v < 320
  pub there : has sums (s + v) ≡ true
