-- Boxes of states between two packed corners, and what is made of the corners while the boxes have many states
-- (Bušić, Gaujal and Vincent 2008).
use Rattle.std.specs.Prelude.{◌≡◌, ℕ, suc, ◌+◌, ◌*◌, ◌-◌, ◌%◌, ◌^◌, ◌<◌, ◌≤◌, ◌⊎◌, ◌↔◌, List, [], ◌∷◌, length, drop, slice_index, slice_index_or, Bool, true, false, IsTrue}
use Rattle.psi_state.specs.State.{IsBelow, box}
use Rattle.psi_event.specs.Law.{Function, IsMonotone}
use Rattle.psi_event.specs.Numbers.{follow_numbers}
use Rattle.psi_follow_packed.specs.Packed.{Packing, IsPacking, packed}
use Rattle.psi_follow_packed.specs.Programs.{Prepared, Prepares}

-- how many lists have at each place at most the number of this list
abbrev pub widths : List ℕ → ℕ
widths [] = 1
widths (v ∷ x) = suc v * widths x

-- a count up to a total, given up above a bound
pub record IsCount (most total count : ℕ) : Type 0 where
  pub exact : count ≤ most → count ≡ total
  pub above : most < count → most < total

-- two lists of words are those of the corners of a box
pub record AreCorners (count : ℕ) (p : Packing) (low_words high_words lo hi : List ℕ) : Type 0 where
  pub ordered : IsBelow lo hi
  pub within : IsBelow hi p.caps
  pub low : low_words ≡ packed count p lo
  pub high : high_words ≡ packed count p hi

-- it is decided whether the box has at most so many states
abbrev pub TellsFew : ℕ → Packing → List ℕ → List ℕ → ℕ → Bool → Type 0
TellsFew count p low high most told = (lo hi : List ℕ) → AreCorners count p low high lo hi → IsTrue told ↔ length (box lo hi) ≤ most

-- words are the gaps of two packed states: what the high one's are above the low one's, modulo 2^64
abbrev pub AreGaps : ℕ → List ℕ → List ℕ → List ℕ → Type 0
AreGaps count low high gaps = (w : ℕ) → w < count → slice_index gaps w ≡ (slice_index high w + (2 ^ 64 - slice_index low w)) % 2 ^ 64

-- it is decided whether the boxes that have these gaps have at most so many states
abbrev pub GapsTell : ℕ → ℕ → ℕ → List ℕ → Bool → Type 0
GapsTell count bits most gaps told =
    (p : Packing) (low high : List ℕ) → IsPacking count p → p.bits ≡ bits → AreGaps count low high gaps → TellsFew count p low high most told

-- the event of the number at this place halts
abbrev pub halts_at : List Bool → List ℕ → ℕ → Bool
halts_at halts numbers place = slice_index_or halts (slice_index numbers place) false

-- the box between what the numbers from a place on make of the corners
abbrev pub box_from : List Function → List ℕ → List ℕ → List ℕ → ℕ → List (List ℕ)
box_from functions numbers lo hi place = box (follow_numbers functions (drop place numbers) lo) (follow_numbers functions (drop place numbers) hi)

-- the numbers from a place on were followed, each from a box of more states than so many and none of an event that halts, to these corners
pub record AreFollowed (count : ℕ) (p : Packing) (functions : List Function) (numbers : List ℕ) (halts : List Bool) (most : ℕ) (lo hi low high : List ℕ) (place : ℕ) : Type 0 where
  pub corners : AreCorners count p low high (follow_numbers functions (drop place numbers) lo) (follow_numbers functions (drop place numbers) hi)
  pub many : (i : ℕ) → place ≤ i → i < length numbers → most < length (box_from functions numbers lo hi (suc i))
  pub unhalted : (i : ℕ) → place ≤ i → i < length numbers → halts_at halts numbers i ≡ false

-- the run ends at a place: no number is left, the box has few states, or the event of the next number halts
abbrev pub Ends : List Function → List ℕ → List Bool → ℕ → List ℕ → List ℕ → ℕ → Type 0
Ends functions numbers halts most lo hi place = (place ≡ 0) ⊎ (length (box_from functions numbers lo hi place) ≤ most) ⊎ (halts_at halts numbers (place - 1) ≡ true)

-- each function that doesn't halt is monotone
abbrev pub AreMonotoneUnhalted : List ℕ → List Function → List Bool → Type 0
AreMonotoneUnhalted caps functions halts =
    (i : ℕ) → i < length functions → slice_index_or halts i false ≡ false → IsMonotone caps (slice_index_or functions i (λ x. x))

-- words of corners become those of the corners of the box down to a place, for which something holds
abbrev pub FollowsBox : ℕ → Prepared → List ℕ → List Bool → ℕ → List ℕ → List ℕ → List ℕ → List ℕ → ℕ → Type 0
FollowsBox count p numbers halts most low high low_after high_after place =
    (caps : List ℕ) (functions : List Function) (lo hi : List ℕ) → Prepares count caps functions p → AreMonotoneUnhalted caps functions halts
    → AreCorners count p.packing low high lo hi
    → AreFollowed count p.packing functions numbers halts most lo hi low_after high_after place × Ends functions numbers halts most lo hi place
