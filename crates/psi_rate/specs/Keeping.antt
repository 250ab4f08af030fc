-- The numbers that are kept from run to run.
use Rattle.std.specs.Prelude.{◌≡◌, ℕ, zero, suc, ◌+◌, ◌-◌, ◌*◌, ◌/◌, ◌<◌, ◌≤◌, List, length, slice_index, vec_capacity}
use Rattle.psi_rate.specs.declared.numbers.EventNumbers.{EventNumbers}
use Rattle.psi_rate.specs.Numbers.{numbers_below}

-- the places up to which the numbers are counted, in their order: 0, the powers of two from 64 to 512, and the multiples of 1,024
abbrev pub mark : ℕ → ℕ
mark zero = 0
mark (suc zero) = 64
mark (suc (suc zero)) = 128
mark (suc (suc (suc zero))) = 256
mark (suc (suc (suc (suc zero)))) = 512
mark (suc (suc (suc (suc (suc n))))) = 1024 * (n + 1)

-- the list has the numbers of the places that are reached, and how many there are before each mark of these is counted; there is room for those of so many places
pub record KeepsNumbers (rates : List ℕ) (words : ℕ → ℕ) (most : ℕ) (numbers : EventNumbers) : Type 0 where
  pub kept : numbers.list.items ≡ numbers_below rates words numbers.reached
  pub counted : (i : ℕ) → i < length numbers.counts.items → slice_index numbers.counts.items i ≡ length (numbers_below rates words (mark i))
  pub last : mark (length numbers.counts.items - 1) ≤ numbers.reached
  pub next : numbers.reached < mark (length numbers.counts.items)
  pub room : most ≤ vec_capacity numbers.list
  pub count_room : most / 1024 + 5 ≤ vec_capacity numbers.counts

-- the numbers of all places below the horizon are kept
abbrev pub Reaches : EventNumbers → ℕ → Type 0
Reaches numbers horizon = horizon ≤ numbers.reached
