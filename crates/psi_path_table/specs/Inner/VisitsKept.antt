-- The counts of a path through a table while it is walked.
use Rattle.std.specs.Prelude.{◌≡◌, ℕ, ◌+◌, ◌-◌, ◌*◌, ◌<◌, ◌≤◌, List, length, slice_index}
use Rattle.psi_path_table.specs.Trail.{Trail, rank_at, visits_until}
use Rattle.psi_path_table.specs.declared.visits.Visits.{Visits}

-- the table has a row for each event and one more, of ranks of its states, and there is a word for each step
pub record IsTrail (trail : Trail) : Type 0 where
  pub few : trail.steps ≤ 4290772992
  pub sized : length trail.next ≡ (length trail.rates + 1) * trail.states
  pub small : length trail.next ≤ 65536
  pub closed : (e r : ℕ) → e ≤ length trail.rates → r < trail.states → slice_index trail.next (e * trail.states + r) < trail.states
  pub inside : trail.first < trail.states

-- the rank and the counts after so many steps
pub record AreVisits (trail : Trail) (walked rank : ℕ) (counts : List ℕ) : Type 0 where
  pub present : rank ≡ rank_at trail walked
  pub within : rank < trail.states
  pub sized : length counts ≡ length trail.next
  pub each : (e r : ℕ) → e ≤ length trail.rates → r < trail.states → slice_index counts (e * trail.states + r) ≡ visits_until trail e r walked

-- these are the table and the number of steps that are left
pub record IsOnTrail (trail : Trail) (visits : Visits) : Type 0 where
  pub valid : IsTrail trail
  pub rows : visits.rows ≡ length trail.rates + 1
  pub states : visits.states ≡ trail.states
  pub next : visits.next.items ≡ trail.next
  pub most : visits.left ≤ trail.steps

-- all steps are walked but those that are left
pub record VisitsStand (trail : Trail) (visits : Visits) : Type 0 where
  pub on : IsOnTrail trail visits
  pub are : AreVisits trail (trail.steps - visits.left) visits.rank visits.counts.items
