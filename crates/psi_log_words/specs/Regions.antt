-- The words of a region: their form, the numbers that they are, and the order of these.
use Rattle.std.specs.Prelude.{ℕ, ◌-◌, List, [], ◌∷◌, length, slice_index, slice_set, codes, Bool, true, not, ◌&&◌, ◌==◌, nat_lt, nat_le, Option, Some, None, Result, Ok, Err, if◌then◌else◌}
use Rattle.std.specs.List.{list_all}
use Rattle.std.specs.Str.{bytes_eq}
use Rattle.std.specs.Cmp.Lexicographic.{pointwise}
use Rattle.std.specs.Ordering.{is_lt}
use Rattle.psi_state.specs.State.{Corners}
use Rattle.psi_state.specs.Sets.{state_cmp}
use Rattle.psi_log_format.specs.Log.{LogRegion, in_box, in_set}
use Rattle.psi_log_format.specs.Text.{Change}
use Rattle.psi_log_words.specs.Refusal.{Refusal, refused, ◌>>=◌, holds_or, each}
use Rattle.psi_log_words.specs.Words.{pieces_of, has_pieces, number_in}
use Rattle.psi_log_words.specs.declared.refusals.LogCause.TheVariants.{Shape}

-- a region's words in their form
pub data Given : Type 0 where
  -- a box, by the words of its two corners
  given_box : (lo hi : List ℕ) → Given
  -- a set, by the words of its states
  given_set : (states : List (List ℕ)) → Given
  -- a box, by the box before it and the words of what changed
  given_move : (from : Corners) (changes : List (List ℕ)) → Given

-- the words after `move`: at most 32, each of three pieces
unfoldable pub move_form : ℕ → Corners → List (List ℕ) → Result Given Refusal
move_form n from words = do
  shaped ← holds_or (refused n Shape) (nat_le (length words) 32 && list_all (has_pieces 3) words)
  Ok (given_move from words)

-- the numbers of a state
unfoldable pub read_state : ℕ → List ℕ → Result (List ℕ) Refusal
read_state n word = each (number_in n 0 65535) (pieces_of word)

-- each state is lexicographically below the next
abbrev pub ascends : List (List ℕ) → Bool
ascends [] = true
ascends (x ∷ []) = true
ascends (x ∷ y ∷ ys) = is_lt (state_cmp x y) && ascends (y ∷ ys)

-- each queue is below the next
abbrev pub queues_ascend : List Change → Bool
queues_ascend [] = true
queues_ascend (c ∷ []) = true
queues_ascend (c ∷ d ∷ ds) = nat_lt c.queue d.queue && queues_ascend (d ∷ ds)

-- the least number is at most the greatest, and they aren't both those that the queue had
abbrev pub is_change : Corners → Change → Bool
is_change from c = nat_le c.least c.greatest && not (slice_index from.lo c.queue == c.least && slice_index from.hi c.queue == c.greatest)

-- a box with the queues as the changes have them
abbrev pub changed : Corners → List Change → Corners
changed from [] = from
changed from (c ∷ cs) = changed (record { lo = slice_set from.lo c.queue c.least; hi = slice_set from.hi c.queue c.greatest }) cs

-- the box from which a box has to be written by what changed: in version 2, the box before
abbrev pub box_before : ℕ → LogRegion → Option Corners
box_before version (in_box bounds) = if version == 2 then Some bounds else None
box_before version (in_set states) = None

-- a region of states of so many queues, on line n
module _ (n queues : ℕ) where
  -- the words after `box`: two states
  unfoldable pub box_form : List (List ℕ) → Result Given Refusal
  box_form (lo ∷ hi ∷ []) = do
    shaped ← holds_or (refused n Shape) (has_pieces queues lo && has_pieces queues hi)
    Ok (given_box lo hi)
  box_form words = Err (refused n Shape)

  -- the words after `set`: 1 to 4,096 states
  unfoldable pub set_form : List (List ℕ) → Result Given Refusal
  set_form words = do
    shaped ← holds_or (refused n Shape) (nat_le 1 (length words) && nat_le (length words) 4096 && list_all (has_pieces queues) words)
    Ok (given_set words)

  -- the form of a region's words; where a box before them is given, a box has to be written by what changed from it
  unfoldable pub form_of : Option Corners → List (List ℕ) → Result Given Refusal
  form_of before [] = Err (refused n Shape)
  form_of None (name ∷ words) =
      if bytes_eq name (codes "set") then set_form words
      else if bytes_eq name (codes "box") then box_form words
      else Err (refused n Shape)
  form_of (Some from) (name ∷ words) =
      if bytes_eq name (codes "set") then set_form words
      else if bytes_eq name (codes "move") then move_form n from words
      else Err (refused n Shape)

  -- the three numbers of a change
  unfoldable pub read_change : List (List ℕ) → Result Change Refusal
  read_change (queue ∷ least ∷ greatest ∷ []) = do
    q ← number_in n 0 (queues - 1) queue
    l ← number_in n 0 65535 least
    g ← number_in n 0 65535 greatest
    Ok (record { queue = q; least = l; greatest = g })
  read_change pieces = Err (refused n Shape)

  -- the region of words in their form: first the numbers from the left, then their order
  unfoldable pub read_given : Given → Result LogRegion Refusal
  read_given (given_box lo hi) = do
    l ← read_state n lo
    h ← read_state n hi
    ordered ← holds_or (refused n Shape) (pointwise nat_le l h)
    Ok (in_box (record { lo = l; hi = h }))
  read_given (given_set words) = do
    xs ← each (read_state n) words
    ordered ← holds_or (refused n Shape) (ascends xs)
    Ok (in_set xs)
  read_given (given_move from words) = do
    cs ← each (λ word. read_change (pieces_of word)) words
    ordered ← holds_or (refused n Shape) (queues_ascend cs && list_all (is_change from) cs)
    Ok (in_box (changed from cs))
