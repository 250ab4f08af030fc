-- Events that are homogeneous by pieces (Bušić, Durand, Gaujal and Perronnin 2015).
use Rattle.std.specs.Prelude.{◌≡◌, ℕ, ◌+◌, ◌<◌, List, [], ◌∷◌, length, replicate, slice_index, Bool, true, ◌&&◌, nat_le, nat_lt, if◌then◌else◌}
use Rattle.psi_state.specs.State.{IsBelow}
use Rattle.psi_event.specs.Law.{Function}
use Rattle.psi_event.specs.declared.sides.Side.{Side}
use Rattle.psi_event.specs.declared.sides.Side.TheVariants.{Any, AtLeast, Below}
use Rattle.psi_event.specs.declared.piecewise.Piece.{Piece}
use Rattle.psi_event.specs.declared.piecewise.Piecewise.{Piecewise}

-- the piece that applies to each state and changes nothing
abbrev pub empty_piece : ℕ → Piece
empty_piece queues = record { sides = replicate queues Any; ups = replicate queues 0; downs = replicate queues 0 }

-- a number is on a side of a bound
abbrev pub is_on : Side → ℕ → ℕ → Bool
is_on Any bound v = true
is_on AtLeast bound v = nat_le bound v
is_on Below bound v = nat_lt v bound

-- each number is on its side of its bound
abbrev pub all_on : List Side → List ℕ → List ℕ → Bool
all_on [] bounds x = true
all_on (side ∷ sides) [] x = true
all_on (side ∷ sides) (bound ∷ bounds) [] = true
all_on (side ∷ sides) (bound ∷ bounds) (v ∷ x) = is_on side bound v && all_on sides bounds x

-- a number where a piece applies, and 0 where it doesn't
abbrev pub if_on : Bool → ℕ → ℕ
if_on on v = if on then v else 0

-- the first piece applies to a state, and so does the second
abbrev pub first_on : Piecewise → List ℕ → Bool
first_on p x = all_on p.first.sides p.bounds x

abbrev pub second_on : Piecewise → List ℕ → Bool
second_on p x = all_on p.second.sides p.bounds x

-- y is x with what the pieces that apply to x add and take
pub record IsSum (p : Piecewise) (x y : List ℕ) : Type 0 where
  pub long : length y ≡ length x
  pub each : (q : ℕ) → q < length x →
      slice_index y q + if_on (first_on p x) (slice_index p.first.downs q) + if_on (second_on p x) (slice_index p.second.downs q)
      ≡ slice_index x q + if_on (first_on p x) (slice_index p.first.ups q) + if_on (second_on p x) (slice_index p.second.ups q)

-- a piece of a network of these capacities: a side for each queue, and numbers within the capacities
pub record IsPiece (caps : List ℕ) (p : Piece) : Type 0 where
  pub sides : length p.sides ≡ length caps
  pub ups : IsBelow p.ups caps
  pub downs : IsBelow p.downs caps

pub record IsPiecewise (caps : List ℕ) (p : Piecewise) : Type 0 where
  pub bounds : IsBelow p.bounds caps
  pub first : IsPiece caps p.first
  pub second : IsPiece caps p.second

-- the pieces do to each state within the capacities what a function does
pub record Does (caps : List ℕ) (p : Piecewise) (f : Function) : Type 0 where
  pub valid : IsPiecewise caps p
  pub each : (x : List ℕ) → IsBelow x caps → IsSum p x (f x)
