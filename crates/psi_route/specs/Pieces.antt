-- The pieces of a route without tables to at most two targets.
use Rattle.std.specs.Prelude.{◌≡◌, ◌⊎◌, ℕ, ◌-◌, ◌≤◌, List, length, replicate, slice_index, slice_set, false, if◌then◌else◌}
use Rattle.psi_state.specs.State.{zeros}
use Rattle.psi_event.specs.declared.sides.Side.{Side}
use Rattle.psi_event.specs.declared.sides.Side.TheVariants.{Any, AtLeast, Below}
use Rattle.psi_event.specs.declared.piecewise.Piecewise.{Piecewise}
use Rattle.psi_event.specs.Piecewise.{empty_piece}
use Rattle.psi_route.specs.Routing.{Shape, routing}

-- a route of this shape
module _ (s : Shape) where
  -- a number for the source, if there is one, and none for the other queues
  abbrev pub for_source : ℕ → List ℕ
  for_source v = slice_set (zeros s.caps) ((routing s).source) v

  -- a number for the target at a place, and those of a list for the other queues
  abbrev pub for_target : ℕ → List ℕ → ℕ → List ℕ
  for_target i list v = slice_set list (slice_index s.targets i) v

  -- the sides where the source serves, if there is one: at its bound or above it
  abbrev pub serving : List Side
  serving = slice_set (replicate (length s.caps) Any) ((routing s).source) AtLeast

  -- a side for the target at a place, and those of a list for the other queues
  abbrev pub on_side : ℕ → List Side → Side → List Side
  on_side i sides side = slice_set sides (slice_index s.targets i) side

  -- the number from which on the target at a place has no room
  abbrev pub bound_of : ℕ → ℕ
  bound_of i = slice_index s.caps (slice_index s.targets i) - (s.size - 1)

  -- where there is no target, one leaves the source where it serves
  abbrev pub leaving : Piecewise
  leaving = record {
    bounds = for_source ((routing s).least);
    first = record { sides = serving; ups = zeros s.caps; downs = for_source 1 };
    second = empty_piece (length s.caps);
  }

  -- where there is one target, one leaves the source, where it serves, and the customers join the target, where it has room; where it
  -- has none, one leaves the source if it is lost
  abbrev pub joining : Piecewise
  joining = record {
    bounds = for_target 0 (for_source ((routing s).least)) (bound_of 0);
    first = record { sides = on_side 0 serving Below; ups = for_target 0 (zeros s.caps) s.size; downs = for_source 1 };
    second = record { sides = on_side 0 serving AtLeast; ups = zeros s.caps; downs = if (routing s).lost then for_source 1 else zeros s.caps };
  }

  -- where no target has room nothing changes: a served customer stays, or there is no source
  abbrev pub Stays : Type 0
  Stays = ((routing s).lost ≡ false) ⊎ (length s.caps ≤ (routing s).source)

  -- where there are two targets, one leaves the source, where it serves, and the customers join the first target, where it has room, and
  -- else the second, where that has
  abbrev pub choosing : Piecewise
  choosing = record {
    bounds = for_target 1 (for_target 0 (for_source ((routing s).least)) (bound_of 0)) (bound_of 1);
    first = record { sides = on_side 0 serving Below; ups = for_target 0 (zeros s.caps) s.size; downs = for_source 1 };
    second = record { sides = on_side 1 (on_side 0 serving AtLeast) Below; ups = for_target 1 (zeros s.caps) s.size; downs = for_source 1 };
  }
