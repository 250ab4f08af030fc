-- What an event of pieces does to packed states: one addition tests the bounds of all queues, since it brings up the guards of
-- those that are at their bounds or above them.
use Rattle.std.specs.Prelude.{◌≡◌, ℕ, zero, suc, ◌+◌, ◌-◌, ◌%◌, ◌^◌, ◌<◌, List, [], length, map, slice_index, Bool, true, ◌&&◌, nat_eq, bit_and}
use Rattle.psi_event.specs.declared.sides.Side.{Side}
use Rattle.psi_event.specs.declared.sides.Side.TheVariants.{Any, AtLeast, Below}
use Rattle.psi_event.specs.declared.piecewise.Piece.{Piece}
use Rattle.psi_event.specs.declared.piecewise.Piecewise.{Piecewise}
use Rattle.psi_event.specs.Piecewise.{if_on}
use Rattle.psi_follow_packed.specs.Packed.{Packing, packed}

-- the masks of a piece: which guards are looked at, which of them are to be up, and what is added then
pub record Masks : Type 0 where
  pub guards : List ℕ
  pub wanted : List ℕ
  pub change : List ℕ

-- a move: what is added to bring up the guards, the same less the guards that the first piece wants up, and two pieces
pub record Moving : Type 0 where
  pub offsets : List ℕ
  pub lowered : List ℕ
  pub first : Masks
  pub second : Masks

-- the move that tests nothing and changes nothing
abbrev pub no_move : Moving
no_move = record { offsets = []; lowered = []; first = record { guards = []; wanted = []; change = [] }; second = record { guards = []; wanted = []; change = [] } }

-- of the first words, with the offsets added, each has the guards up that are wanted
abbrev pub holds : ℕ → List ℕ → Masks → List ℕ → Bool
holds zero offsets m x = true
holds (suc w) offsets m x =
    holds w offsets m x && nat_eq (bit_and ((slice_index x w + slice_index offsets w) % 2 ^ 64) (slice_index m.guards w)) (slice_index m.wanted w)

-- the first words of two lists are the same
abbrev pub same_words : ℕ → List ℕ → List ℕ → Bool
same_words zero x y = true
same_words (suc w) x y = same_words w x y && nat_eq (slice_index x w) (slice_index y w)

-- y is what a move makes of so many words
pub record IsMoved (count : ℕ) (m : Moving) (x y : List ℕ) : Type 0 where
  pub long : length y ≡ count
  pub each : (w : ℕ) → w < count → slice_index y w
      ≡ ((slice_index x w + if_on (holds count m.offsets m.first x) (slice_index m.first.change w)) % 2 ^ 64
      + if_on (holds count m.offsets m.second x) (slice_index m.second.change w)) % 2 ^ 64

-- masks of so many words whose piece changes no state
abbrev pub ChangesNothing : ℕ → Masks → Type 0
ChangesNothing count m = (w : ℕ) → w < count → slice_index m.change w ≡ 0

-- of what a move adds, the lowered one is the other less the guards that are wanted up, which are among those that are looked at
pub record IsLowered (count : ℕ) (m : Moving) : Type 0 where
  pub less : (w : ℕ) → w < count → slice_index m.lowered w ≡ (slice_index m.offsets w + (2 ^ 64 - slice_index m.first.wanted w)) % 2 ^ 64
  pub among : (w : ℕ) → w < count → bit_and (slice_index m.first.wanted w) (slice_index m.first.guards w) ≡ slice_index m.first.wanted w
  pub small : (w : ℕ) → w < count → slice_index m.first.wanted w < 2 ^ 64

-- the first piece alone tells what a move does
pub record IsOfFirst (count : ℕ) (m : Moving) : Type 0 where
  pub lowered : IsLowered count m
  pub alone : ChangesNothing count m.second

-- the guard of a field of so many bits
abbrev pub guard : ℕ → ℕ
guard bits = 2 ^ (bits - 1)

-- one number where a side asks for the guard up, and another where it asks for it down
abbrev pub mark_of : ℕ → ℕ → Side → ℕ
mark_of up down Any = 0
mark_of up down AtLeast = up
mark_of up down Below = down

-- the guard where a side asks for it, up or down, and where it asks for it up
abbrev pub guard_of : ℕ → Side → ℕ
guard_of bits = mark_of (guard bits) (guard bits)

abbrev pub wanted_of : ℕ → Side → ℕ
wanted_of bits = mark_of (guard bits) 0

-- the masks are those of a piece: a change is what comes less what leaves, modulo 2^64
pub record AreMasksOf (count : ℕ) (p : Packing) (piece : Piece) (m : Masks) : Type 0 where
  pub guards : m.guards ≡ packed count p (map (guard_of p.bits) piece.sides)
  pub wanted : m.wanted ≡ packed count p (map (wanted_of p.bits) piece.sides)
  pub change : (w : ℕ) → w < count →
      slice_index m.change w ≡ (slice_index (packed count p piece.ups) w + (2 ^ 64 - slice_index (packed count p piece.downs) w)) % 2 ^ 64

-- the move is that of these pieces
pub record IsMoveOf (count : ℕ) (p : Packing) (pieces : Piecewise) (m : Moving) : Type 0 where
  pub offsets : m.offsets ≡ packed count p (map (λ v. guard p.bits - v) pieces.bounds)
  pub first : AreMasksOf count p pieces.first m.first
  pub second : AreMasksOf count p pieces.second m.second
