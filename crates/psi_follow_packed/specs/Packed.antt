-- States packed into words of 64 bits: each number has a field, whose upper bit, the guard, stays zero.
use Rattle.std.specs.Prelude.{ℕ, zero, suc, ◌+◌, ◌-◌, ◌*◌, ◌^◌, ◌<◌, ◌≤◌, List, [], ◌∷◌, length, take, drop, slice_index}

-- numbers in fields of so many bits side by side, the first in the lowest
abbrev pub word_of : ℕ → List ℕ → ℕ
word_of bits [] = 0
word_of bits (v ∷ x) = v + 2 ^ bits * word_of bits x

-- so many words, each of so many fields
abbrev pub words_of : ℕ → ℕ → ℕ → List ℕ → List ℕ
words_of zero fields bits x = []
words_of (suc count) fields bits x = word_of bits (take fields x) ∷ words_of count fields bits (drop fields x)

-- how the states of these capacities are packed: the fields of a word, and the bits of a field
pub record Packing : Type 0 where
  pub caps : List ℕ
  pub fields : ℕ
  pub bits : ℕ

-- fields of so many bits have room for numbers up to the capacities below their guards
abbrev pub LeavesFree : List ℕ → ℕ → Type 0
LeavesFree caps bits = (q : ℕ) → q < length caps → slice_index caps q < 2 ^ (bits - 1)

-- fields of 2 to 16 bits that fit a word, enough of them in so many words, in which the capacities leave the guards free
pub record IsPacking (count : ℕ) (p : Packing) : Type 0 where
  pub words : count ≤ 32
  pub some : 1 ≤ p.fields
  pub fit : p.fields * p.bits ≤ 64
  pub least : 2 ≤ p.bits
  pub most : p.bits ≤ 16
  pub enough : length p.caps ≤ count * p.fields
  pub free : LeavesFree p.caps p.bits

-- a state as words
unfoldable pub packed : ℕ → Packing → List ℕ → List ℕ
packed count p x = words_of count p.fields p.bits x
