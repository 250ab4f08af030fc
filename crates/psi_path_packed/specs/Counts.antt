-- A path on packed states while it is walked.
use Rattle.std.specs.Prelude.{◌≡◌, ℕ, ◌+◌, ◌<◌, ◌≤◌, List, [], ◌∷◌, ◌++◌, length, map, slice_index}
use Rattle.psi_state.specs.State.{IsBelow}
use Rattle.psi_event.specs.Idle.{unchanged}
use Rattle.psi_follow_packed.specs.Packed.{Packing, packed}
use Rattle.psi_follow_packed.specs.Moves.{Moving, IsOfFirst}
use Rattle.psi_follow_packed.specs.Programs.{Prepares}
use Rattle.psi_follow_packed.specs.Views.{low_word, high_word, low_words, high_words, moving_by}
use Rattle.psi_follow_packed.specs.declared.moves.PackedEvent.{PackedEvent}
use Rattle.psi_path.specs.Path.{Path, state_of}
use Rattle.psi_path.specs.Sums.{chosen_until, changed_until}
use Rattle.psi_path_packed.specs.Rises.{times_until}
use Rattle.psi_path_packed.specs.declared.steps.Steps.{Steps}

-- for each event, and for idle as the last: at how many of the times that are walked it was chosen, at how many it changed the state, and how many times there are from each of these on, summed
pub record CountsStand (path : Path) (steps walked : ℕ) (chosen changed times : List ℕ) : Type 0 where
  pub sized : length chosen ≡ length path.rates + 1
  pub changed_sized : length changed ≡ length path.rates + 1
  pub times_sized : length times ≡ length path.rates + 1
  pub each : (e : ℕ) → e < length path.rates + 1 → slice_index chosen e ≡ chosen_until path e walked
  pub each_changed : (e : ℕ) → e < length path.rates + 1 → slice_index changed e ≡ changed_until path e walked
  pub each_times : (e : ℕ) → e < length path.rates + 1 → slice_index times e ≡ times_until path steps e walked

-- the words are those of the state in which the path of so many steps stands when all are walked but those that are left
pub record StandsAt (count : ℕ) (packing : Packing) (path : Path) (steps left : ℕ) (x chosen changed times : List ℕ) : Type 0 where
  pub walked : ℕ
  pub all : walked + left ≡ steps
  pub few : steps ≤ 4290772992
  pub within : IsBelow (state_of path walked) packing.caps
  pub words : x ≡ packed count packing (state_of path walked)
  pub counts : CountsStand path steps walked chosen changed times

-- a walk of a path for so many steps, on states that are packed so
pub record Course : Type 0 where
  pub path : Path
  pub steps : ℕ
  pub packing : Packing

-- the moves are those of the path's events, idle as the last
pub record AreMovesOf (count : ℕ) (course : Course) (rates : List ℕ) (moves : List Moving) : Type 0 where
  pub same_rates : course.path.rates ≡ rates
  pub long : length course.path.functions ≡ length course.path.rates
  pub prepared : Prepares count course.packing.caps (course.path.functions ++ unchanged ∷ []) (record { packing = course.packing; moves = moves })

-- the first piece of an event tells what it does to either of two packed states, and it does the same to both
pub record IsByFirst {K : ℕ} (m : PackedEvent K) : Type 0 where
  pub first : IsOfFirst K (moving_by low_word m)
  pub twice : moving_by high_word m ≡ moving_by low_word m

-- a walk stands where so many of its steps are left, with its state packed twice
pub record StepsStand {K : ℕ} (course : Course) (steps : Steps K) : Type 0 where
  pub twice : high_words steps.x ≡ low_words steps.x
  pub stands : StandsAt K course.packing course.path course.steps steps.left (low_words steps.x) steps.chosen.items (map high_word steps.changes.items) (map low_word steps.changes.items)
