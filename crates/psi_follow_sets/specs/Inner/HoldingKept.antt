-- Lists of packed words that hold the states of a set, each at least once.
use Rattle.std.specs.Prelude.{◌≡◌, ◌≤◌, ℕ, List, length, map}
use Rattle.psi_state.specs.State.{IsBelow}
use Rattle.psi_state.specs.Members.{In}
use Rattle.psi_state.specs.Ascending.{HaveSame}
use Rattle.psi_event.specs.Law.{Function}
use Rattle.psi_event.specs.Numbers.{follow_numbers}
use Rattle.psi_follow_packed.specs.Packed.{Packing, packed}
use Rattle.psi_follow_packed.specs.Programs.{Prepared, Prepares}
use Rattle.psi_follow_sets.specs.declared.lists.Lists.{Lists}
use Rattle.psi_follow_sets.specs.Room.{held, AreLists}

-- the words are those of these states, in any order and as often as may be, and the states are within the capacities
pub record Holds (count : ℕ) (p : Packing) (words states : List (List ℕ)) : Type 0 where
  pub same : HaveSame words (map (packed count p) states)
  pub below : (x : List ℕ) → In x states → IsBelow x p.caps

-- words become those of the states that the functions of these numbers make of the states whose words they were
abbrev pub SetFollows : ℕ → Prepared → List ℕ → List (List ℕ) → List (List ℕ) → Type 0
SetFollows count p numbers before after =
    (caps : List ℕ) (functions : List Function) (states : List (List ℕ)) → Prepares count caps functions p
    → Holds count p.packing before states → Holds count p.packing after (map (follow_numbers functions numbers) states)

-- the states of lists become those that the functions of these numbers make of them; a pair is in use, and the room is the same
pub record AreMoved {K : ℕ} (p : Prepared) (numbers : List ℕ) (before after : Lists K) : Type 0 where
  pub lists : AreLists after
  pub follows : SetFollows K p numbers (held before) (held after)
  pub room : length after.states.items ≡ length before.states.items
  pub some : 1 ≤ after.used
