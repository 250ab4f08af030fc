-- Events on packed states, with the room for a set of these.
use Rattle.std.specs.Prelude.{◌≡◌, ℕ, List, length}
use Rattle.psi_event.specs.Law.{Function}
use Rattle.psi_event.specs.Numbers.{AreEvents}
use Rattle.psi_follow_packed.specs.Boxes.{AreMonotoneUnhalted}
use Rattle.psi_follow_packed.specs.Programs.{Prepares}
use Rattle.psi_follow_sets.specs.Inner.UnitsKept.{AreUnitEvents}
use Rattle.psi_follow_sets.specs.Sets.{IsPackedBox}
use Rattle.psi_follow_sets.specs.declared.sets.Machine.{Machine}

-- the program is that of events with these functions, those that don't halt are monotone, those of single customers are known, and there is room for a set of
-- the split number of states
pub record IsMachine (count : ℕ) (caps : List ℕ) (functions : List Function) (split : ℕ) (m : Machine count) : Type 0 where
  pub program : Prepares count caps functions m.program
  pub halts : length m.halts.items ≡ length functions
  pub monotone : AreMonotoneUnhalted caps functions m.halts.items
  pub many_units : length m.units.items ≡ length functions
  pub units : AreUnitEvents m.program.packing functions m.units.items
  pub room : m.set.most ≡ split

-- a machine for events with these functions, numbers of these events, and the words of the corners of a box
pub record IsBegun (count : ℕ) (caps : List ℕ) (functions : List Function) (split : ℕ) (m : Machine count) (numbers low high : List ℕ) : Type 0 where
  pub machine : IsMachine count caps functions split m
  pub events : AreEvents (length functions) numbers
  pub corners : IsPackedBox count m.program.packing low high
