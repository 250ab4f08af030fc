-- What sides are kept in: an array is determined by its front, where any side stands after it.
use Rattle.std.specs.Prelude.{◌≡◌, ℕ, ◌-◌, ◌≤◌, List, length, take, drop, replicate, ◌++◌}
use Rattle.psi_state.specs.Inner.ArraysKept.{filled}
use Rattle.psi_event.specs.declared.sides.Side.{Side}
use Rattle.psi_event.specs.declared.sides.Side.TheVariants.{Any}
use Rattle.psi_event.specs.declared.sides.Sides.TheInside.{Inside as Array}

abbrev array : List Side → ℕ → Array
array items len = record { items = items; len = len }

-- the array of sides is the sides and any after them
pub padded : (items : List Side) (len : ℕ) → len ≤ 32 → length items ≡ 32 → drop len items ≡ replicate (32 - len) Any
    → array (take len items ++ replicate (32 - length (take len items)) Any) (length (take len items)) ≡ array items len
padded items len few full rest = filled array Any items len few full rest
