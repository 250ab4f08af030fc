-- The states of a box while they are packed one after another.
use Rattle.std.specs.Prelude.{◌≡◌, ℕ, ◌+◌, ◌-◌, ◌%◌, ◌^◌, ◌<◌, ◌≤◌, List, [], ◌++◌, length, map, take, drop, get_or, slice_index}
use Rattle.psi_state.specs.State.{box}
use Rattle.psi_follow_packed.specs.Packed.{Packing, packed}
use Rattle.psi_follow_packed.specs.declared.layout.Packed.{Packed}

-- the words at a place, and none past the last
abbrev pub words_at : {K : ℕ} → List (Packed K) → ℕ → List ℕ
words_at list i = (get_or list i (record { words = [] })).words

-- the words of all
abbrev pub words_in : {K : ℕ} → List (Packed K) → List (List ℕ)
words_in {K} list = map (λ (x : Packed K). x.words) list

-- the words are the sums of two lists of so many words, modulo 2^64
pub record AreSums (count : ℕ) (x y sums : List ℕ) : Type 0 where
  pub long : length sums ≡ count
  pub each : (w : ℕ) → w < count → slice_index sums w ≡ (slice_index x w + slice_index y w) % 2 ^ 64

-- after the first ones, up to so many in all, each is what stands as many places before, with
-- these words added
pub record AreRepeated {K : ℕ} (added : List ℕ) (first all : ℕ) (list : List (Packed K)) : Type 0 where
  pub each : (i : ℕ) → first ≤ i → i < all → AreSums K (words_at list (i - first)) added (words_at list i)

-- the first ones are the states of a box that have the least numbers in the queues before a place,
-- in their order
pub record AreBehind {K : ℕ} (p : Packing) (lo hi : List ℕ) (place first : ℕ) (list : List (Packed K)) : Type 0 where
  pub count : first ≡ length (box (drop place lo) (drop place hi))
  pub words : words_in (take first list) ≡ map (λ (x : List ℕ). packed K p (take place lo ++ x)) (box (drop place lo) (drop place hi))
