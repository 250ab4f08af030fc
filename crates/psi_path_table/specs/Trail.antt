-- A path through a table: its ranks, and how often each event is chosen in each state.
use Rattle.std.specs.Prelude.{ℕ, zero, suc, ◌+◌, ◌-◌, ◌*◌, List, Bool, ◌&&◌, not, nat_eq, slice_index}
use Rattle.psi_rate.specs.Rates.{event_of}
use Rattle.psi_path.specs.Path.{first_place}
use Rattle.psi_path.specs.Sums.{count_until}

-- a path of so many steps through a table of so many states, from this rank on, under the rates of the events and the random words
pub record Trail : Type 0 where
  pub rates : List ℕ
  pub words : ℕ → ℕ
  pub steps : ℕ
  pub states : ℕ
  pub next : List ℕ
  pub first : ℕ

module _ (trail : Trail) where
  -- the event of time k, from 1 on, by its number
  abbrev pub event_at : ℕ → ℕ
  event_at k = event_of trail.rates (trail.words (first_place + (k - 1)))

  -- the rank at time k
  abbrev pub rank_at : ℕ → ℕ
  rank_at zero = trail.first
  rank_at (suc k) = slice_index trail.next (event_at (suc k) * trail.states + rank_at k)

  -- the rank before the event of time k, from 1 on
  abbrev pub rank_before : ℕ → ℕ
  rank_before zero = trail.first
  rank_before (suc k) = rank_at k

  -- whether event e is chosen at time k, in the state of rank r
  abbrev pub is_visit : (e r k : ℕ) → Bool
  is_visit e r k = nat_eq (event_at k) e && nat_eq (rank_before k) r

  -- at how many of the times 1, 2, .., n it is
  abbrev pub visits_until : (e r n : ℕ) → ℕ
  visits_until e r n = count_until (is_visit e r) n

  -- at how many of them the state of rank r is that before the event
  abbrev pub left_until : (r n : ℕ) → ℕ
  left_until r n = count_until (λ k. nat_eq (rank_before k) r) n

  -- whether event e makes of the state of rank r that state
  abbrev pub is_same : (e r : ℕ) → Bool
  is_same e r = nat_eq (slice_index trail.next (e * trail.states + r)) r

  -- at how many of the times 1, 2, .., n event e is chosen, and changes the rank
  abbrev pub moved_until : (e n : ℕ) → ℕ
  moved_until e n = count_until (λ k. nat_eq (event_at k) e && not (is_same e (rank_before k))) n
