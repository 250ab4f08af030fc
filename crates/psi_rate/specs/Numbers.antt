-- The numbers of the events of a run, kept without those that are idle.
use Rattle.std.specs.Prelude.{ℕ, zero, suc, List, [], ◌∷◌, ◌++◌, length, nat_lt, if◌then◌else◌}
use Rattle.psi_rate.specs.Rates.{event_of}

-- a number, or nothing where it is that of idle, which is the count of the events
abbrev pub unless_idle : ℕ → ℕ → List ℕ
unless_idle count number = if nat_lt number count then number ∷ [] else []

-- the numbers of the events of the places below this one under these words, from place 0 on, without idle
abbrev pub numbers_below : List ℕ → (ℕ → ℕ) → ℕ → List ℕ
numbers_below rates words zero = []
numbers_below rates words (suc place) = numbers_below rates words place ++ unless_idle (length rates) (event_of rates (words place))
