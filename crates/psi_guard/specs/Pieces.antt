-- The pieces of a guarded event, queue by queue: the parts that are exact change their queues in the first piece, and one that is
-- clipped changes its queue in the second.
use Rattle.std.specs.Prelude.{◌≡◌, ℕ, ◌+◌, ◌<◌, ◌⊎◌, Bool, true, false, ◌&&◌, ◌||◌, nat_eq, nat_lt, nat_le, if◌then◌else◌, List, length, slice_index, slice_index_or, slice_set}
use borrow.Author.Differences.{up as ups, down as downs}
use Rattle.psi_event.specs.declared.sides.Side.{Side}
use Rattle.psi_event.specs.declared.sides.Side.TheVariants.{Any, AtLeast, Below}
use Rattle.psi_event.specs.declared.piecewise.Piece.{Piece}
use Rattle.psi_event.specs.declared.piecewise.Piecewise.{Piecewise}
use Rattle.psi_guard.specs.declared.parts.Part.{Part}
use Rattle.psi_guard.specs.declared.pieces.PieceAt.{PieceAt}
use Rattle.psi_guard.specs.declared.pieces.PiecesAt.{PiecesAt}
use Rattle.psi_guard.specs.Guarding.{part_of}

-- a part of a queue of this capacity
module _ (cap : ℕ) (part : Part) where
  -- the guard is open on one side at least, and neither the floor nor the ceiling changes what the shift makes of a number in it
  abbrev pub is_exact : Bool
  is_exact =
      (nat_eq part.least 0 || nat_le cap part.most)
      && (nat_le (part.floor + downs part.shift) (part.least + ups part.shift) && nat_le (part.most + ups part.shift) (part.ceiling + downs part.shift))

  -- the guard is open on both sides, and one customer comes where there is room, or one leaves where there is one
  abbrev pub is_clipped : Bool
  is_clipped =
      (nat_eq part.least 0 && nat_le cap part.most)
      && (nat_eq (ups part.shift + downs part.shift) 1 && (nat_le part.floor (ups part.shift) && nat_le cap (part.ceiling + downs part.shift)))

  -- the side of the guard that isn't open, and its bound
  abbrev pub guard_side : Side
  guard_side = if nat_lt 0 part.least then AtLeast else (if nat_lt part.most cap then Below else Any)

  abbrev pub guard_bound : ℕ
  guard_bound = if nat_lt 0 part.least then part.least else (if nat_lt part.most cap then part.most + 1 else 0)

  -- the side on which there is room for the customer who comes, or one who leaves, and its bound
  abbrev pub clip_side : Side
  clip_side = if nat_eq (ups part.shift) 0 then AtLeast else Below

  abbrev pub clip_bound : ℕ
  clip_bound = if nat_eq (ups part.shift) 0 then 1 else cap

  -- what the pieces say of the queue
  abbrev pub exact_at : PiecesAt
  exact_at = record {
    bound = guard_bound;
    first = record { side = guard_side; up = ups part.shift; down = downs part.shift };
    second = record { side = guard_side; up = 0; down = 0 };
  }

  abbrev pub clipped_at : PiecesAt
  clipped_at = record {
    bound = clip_bound;
    first = record { side = Any; up = 0; down = 0 };
    second = record { side = clip_side; up = ups part.shift; down = downs part.shift };
  }

  abbrev pub pieces_at : PiecesAt
  pieces_at = if is_exact then exact_at else clipped_at

-- a piece with what it says of one queue
abbrev pub piece_with : Piece → ℕ → PieceAt → Piece
piece_with p q own = record { sides = slice_set p.sides q own.side; ups = slice_set p.ups q own.up; downs = slice_set p.downs q own.down }

-- a piece of so many queues
pub record IsLong (n : ℕ) (p : Piece) : Type 0 where
  pub sides : length p.sides ≡ n
  pub ups : length p.ups ≡ n
  pub downs : length p.downs ≡ n

-- what a piece says of a queue
pub record SaysOf (p : Piece) (q : ℕ) (own : PieceAt) : Type 0 where
  pub side : slice_index_or p.sides q Any ≡ own.side
  pub up : slice_index p.ups q ≡ own.up
  pub down : slice_index p.downs q ≡ own.down

-- a guarded event with these parts, under these capacities
module _ (caps : List ℕ) (parts : List Part) where
  -- whether the part of a queue is exact, and whether it is clipped
  abbrev pub exact : ℕ → Bool
  exact q = is_exact (slice_index caps q) (part_of caps parts q)

  abbrev pub clipped : ℕ → Bool
  clipped q = is_clipped (slice_index caps q) (part_of caps parts q)

  -- what the pieces say of a queue
  abbrev pub own_pieces : ℕ → PiecesAt
  own_pieces q = pieces_at (slice_index caps q) (part_of caps parts q)

  -- pieces can tell the first n queues: each part is exact, but for at most one that is clipped
  pub record AreTold (n : ℕ) : Type 0 where
    pub each : (q : ℕ) → q < n → (exact q ≡ true) ⊎ (clipped q ≡ true)
    pub alone : (q r : ℕ) → q < n → r < n → exact q ≡ false → exact r ≡ false → q ≡ r

  -- the pieces say of the first n queues what their parts do
  pub record Tell (n : ℕ) (p : Piecewise) : Type 0 where
    pub bounds : length p.bounds ≡ length caps
    pub first : IsLong (length caps) p.first
    pub second : IsLong (length caps) p.second
    pub bound_of : (q : ℕ) → q < n → slice_index p.bounds q ≡ (own_pieces q).bound
    pub first_of : (q : ℕ) → q < n → SaysOf p.first q (own_pieces q).first
    pub second_of : (q : ℕ) → q < n → SaysOf p.second q (own_pieces q).second
