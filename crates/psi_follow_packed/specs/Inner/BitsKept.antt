-- How many bits of some words are one, and the masks that are made of it.
use Rattle.std.specs.Prelude.{◌≡◌, ℕ, ◌-◌, ◌<◌, ◌^◌, ◌⊎◌, List, slice_index, bit_and}
use Rattle.psi_follow_packed.specs.declared.bits.Bits.{Bits}
use Rattle.psi_follow_packed.specs.declared.bits.Bits.TheVariants.{Nowhere, One, Several}

-- one bit of a word is one
pub record IsSingle (v : ℕ) : Type 0 where
  pub some : v ≡ 0 → ⊥
  pub one : bit_and v (v - 1) ≡ 0

-- of the first words no bit is one
abbrev pub HasNone : ℕ → List ℕ → Type 0
HasNone count x = (w : ℕ) → w < count → slice_index x w ≡ 0

-- one is
pub record HasOne (count : ℕ) (x : List ℕ) : Type 0 where
  pub word : ℕ
  pub place : word < count
  pub single : IsSingle (slice_index x word)
  pub others : (w : ℕ) → w < count → (w ≡ word → ⊥) → slice_index x w ≡ 0

-- two of one word are, or one of each of two words
pub record HasTwoIn (count : ℕ) (x : List ℕ) : Type 0 where
  pub word : ℕ
  pub place : word < count
  pub two : bit_and (slice_index x word) (slice_index x word - 1) ≡ 0 → ⊥

pub record HasTwoOf (count : ℕ) (x : List ℕ) : Type 0 where
  pub first : ℕ
  pub second : ℕ
  pub place : first < second
  pub last : second < count
  pub some : slice_index x first ≡ 0 → ⊥
  pub other : slice_index x second ≡ 0 → ⊥

abbrev pub HasSeveral : ℕ → List ℕ → Type 0
HasSeveral count x = HasTwoIn count x ⊎ HasTwoOf count x

abbrev pub KnowsBits : ℕ → List ℕ → Bits → Type 0
KnowsBits count x Nowhere = HasNone count x
KnowsBits count x One = HasOne count x
KnowsBits count x Several = HasSeveral count x

-- each of so many words is the same number
abbrev pub AreEach : ℕ → List ℕ → ℕ → Type 0
AreEach count x v = (w : ℕ) → w < count → slice_index x w ≡ v

-- all bits are chosen where none is one, that one where one alone is, and none where several are
abbrev pub ChoosesAlone : ℕ → List ℕ → List ℕ → Type 0
ChoosesAlone count x y = (HasNone count x × AreEach count y (2 ^ 64 - 1)) ⊎ ((HasOne count x × (y ≡ x)) ⊎ (HasSeveral count x × AreEach count y 0))
