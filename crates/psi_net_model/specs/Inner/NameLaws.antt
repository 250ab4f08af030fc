-- A name is determined by its bytes: after them its array of 32 has zeros.
use Rattle.std.specs.Prelude.{◌≡◌, ℕ, ◌-◌, ◌≤◌, List, length, take, drop, replicate, ◌++◌}
use Rattle.psi_state.specs.Inner.ArraysKept.{filled}
use Rattle.psi_net_model.specs.declared.name.Name.TheInside.{Inside}

-- the inside of a name
abbrev inside : List ℕ → ℕ → Inside
inside cells len = record { cells = cells; len = len }

-- after its bytes a name's array of 32 has zeros alone
pub padded : (cells : List ℕ) (len : ℕ) → len ≤ 32 → length cells ≡ 32 → drop len cells ≡ replicate (32 - len) 0
    → inside (take len cells ++ replicate (32 - length (take len cells)) 0) (length (take len cells)) ≡ inside cells len
padded cells len few full rest = filled inside 0 cells len few full rest
