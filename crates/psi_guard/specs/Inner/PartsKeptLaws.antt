-- Laws. A list of parts in an array is determined by its front, where all after the front is one part that says nothing.
use Rattle.std.specs.Prelude.{◌≡◌, ℕ, ◌-◌, ◌≤◌, List, length, take, drop, replicate, ◌++◌}
use Rattle.psi_state.specs.Inner.ArraysKept.{filled}
use Rattle.psi_guard.specs.declared.parts.Part.{Part}
use Rattle.psi_guard.specs.declared.parts.Parts.TheInside.{Inside as Array}
use Rattle.psi_guard.specs.Inner.PartsKept.{no_part}

abbrev array : List Part → ℕ → Array
array items len = record { items = items; len = len }

-- the array of a list is its parts and those after them
pub padded : (items : List Part) (len : ℕ) → len ≤ 32 → length items ≡ 32 → drop len items ≡ replicate (32 - len) no_part
    → array (take len items ++ replicate (32 - length (take len items)) no_part) (length (take len items)) ≡ array items len
padded items len few full rest = filled array no_part items len few full rest
