-- The events of a network on packed states.
use Rattle.std.specs.Prelude.{◌≡◌, ℕ, ◌<◌, List, [], ◌∷◌, length, slice_index_or, Bool, IsTrue}
use Rattle.psi_state.specs.State.{IsBelow}
use Rattle.psi_event.specs.Law.{Function, IsClosed}
use Rattle.psi_event.specs.Numbers.{follow_numbers}
use Rattle.psi_event.specs.declared.piecewise.Piecewise.{Piecewise}
use Rattle.psi_event.specs.Piecewise.{Does}
use Rattle.psi_follow_packed.specs.Packed.{Packing, IsPacking, packed}
use Rattle.psi_follow_packed.specs.Moves.{Moving, IsMoveOf, IsLowered, ChangesNothing, no_move}
use Rattle.psi_follow_packed.specs.Views.{low_words, high_words, pair_at}
use Rattle.psi_follow_packed.specs.declared.pairs.PackedPair.{PackedPair}

-- how the states are packed, and a move for each event
pub record Prepared : Type 0 where
  pub packing : Packing
  pub moves : List Moving

-- a function keeps states within the capacities, some pieces do what it does, and the move is theirs
pub record IsMoveFor (count : ℕ) (packing : Packing) (f : Function) (m : Moving) : Type 0 where
  pub closed : IsClosed packing.caps f
  pub pieces : Piecewise
  pub does : Does packing.caps pieces f
  pub move : IsMoveOf count packing pieces m

-- the moves are those of these functions, in so many words
pub record Prepares (count : ℕ) (caps : List ℕ) (functions : List Function) (p : Prepared) : Type 0 where
  pub packing : IsPacking count p.packing
  pub same_caps : p.packing.caps ≡ caps
  pub same_count : length p.moves ≡ length functions
  pub each : (i : ℕ) → i < length functions → IsMoveFor count p.packing (slice_index_or functions i (λ x. x)) (slice_index_or p.moves i no_move)

-- the moves of a program, once for the low state and once for the high one: they are the same, and no second piece changes a state where that is said
pub record IsTwice (count : ℕ) (p : Packing) (low_words high_words : List Moving) (first_alone : Bool) : Type 0 where
  pub packing : IsPacking count p
  pub same : high_words ≡ low_words
  pub lowered : (i : ℕ) → i < length low_words → IsLowered count (slice_index_or low_words i no_move)
  pub alone : IsTrue first_alone → (i : ℕ) → i < length low_words → ChangesNothing count (slice_index_or low_words i no_move).second

-- words become those of the state that the functions of these numbers make of the state whose words they were
abbrev pub Follows : ℕ → Prepared → List ℕ → List ℕ → List ℕ → Type 0
Follows count p numbers before after =
    (caps : List ℕ) (functions : List Function) (s : List ℕ) → Prepares count caps functions p → IsBelow s caps
    → before ≡ packed count p.packing s → after ≡ packed count p.packing (follow_numbers functions numbers s)

-- the packed states of each pair of a list become those that the function of this number makes of them
pub record AllFollow {K : ℕ} (p : Prepared) (number : ℕ) (before after : List (PackedPair K)) : Type 0 where
  pub count : length after ≡ length before
  pub low : (i : ℕ) → i < length before → Follows K p (number ∷ []) (low_words (pair_at before i)) (low_words (pair_at after i))
  pub high : (i : ℕ) → i < length before → Follows K p (number ∷ []) (high_words (pair_at before i)) (high_words (pair_at after i))
