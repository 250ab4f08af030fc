-- The table of a wheel: the numbers below the modulus in stretches of equal length, and the event that each one begins with.
use Rattle.std.specs.Prelude.{◌≡◌, ℕ, ◌+◌, ◌*◌, ◌%◌, ◌^◌, ◌<◌, ◌≤◌, Bool, List, length, slice_index, IsTrue}

-- e is the place of the first of the running totals that is above n, or their count where none is
pub record IsFirstAbove (totals : List ℕ) (n e : ℕ) : Type 0 where
  pub place : e ≤ length totals
  pub below : (k : ℕ) → k < e → slice_index totals k ≤ n
  pub above : e < length totals → n < slice_index totals e

-- entry i is the place of the first total above i * 2^shift, the first number of stretch i
pub record AreFirstAbove (totals : List ℕ) (shift : ℕ) (entries : List ℕ) : Type 0 where
  pub each : (i : ℕ) → i < length entries → IsFirstAbove totals (i * 2 ^ shift) (slice_index entries i)

-- the totals are multiples of 2^shift
pub record AreMultiples (totals : List ℕ) (shift : ℕ) : Type 0 where
  pub each : (k : ℕ) → k < length totals → slice_index totals k % 2 ^ shift ≡ 0

-- what a table keeps: at most 4,096 stretches, a power of two, that make up the numbers below the modulus, and the event of the first number of each; in an exact table the totals stand between stretches
pub record IsEventTable (totals : List ℕ) (modulus : ℕ) (entries : List ℕ) (last shift : ℕ) (exact : Bool) : Type 0 where
  pub exponent : ℕ
  pub count : length entries ≡ 2 ^ exponent
  pub places : length entries ≡ last + 1
  pub stretches : length entries * 2 ^ shift ≡ modulus
  pub short : shift < 32
  pub few_entries : length entries ≤ 4096
  pub first : AreFirstAbove totals shift entries
  pub multiples : IsTrue exact → AreMultiples totals shift
