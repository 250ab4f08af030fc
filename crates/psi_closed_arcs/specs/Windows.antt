-- Rules on the customers of a queue, and which ends of arcs are reached over arcs that a rule allows.
use Rattle.std.specs.Prelude.{◌≡◌, ℕ, ◌+◌, ◌<◌, ◌≤◌, ◌↔◌, Bool, true, List, suc, nat_eq, if◌then◌else◌}
use Rattle.psi_closed_arcs.specs.declared.ends.Arc.{Arc}
use Rattle.psi_closed_arcs.specs.declared.sums.Sums.{Sums}
use Rattle.psi_closed_arcs.specs.declared.windows.Window.{Window}
use Rattle.psi_closed_arcs.specs.declared.windows.Rule.{Rule}
use Rattle.psi_closed_arcs.specs.Walks.{Before, After}
use Rattle.psi_closed_arcs.specs.Held.{Listed}
use Rattle.psi_closed_arcs.specs.Sums.{has}
use Rattle.psi_closed_arcs.specs.Inner.RowsKept.{sums_at}

-- the number of customers is in the window
pub record IsWithin (window : Window) (v : ℕ) : Type 0 where
  pub low : window.least ≤ v
  pub high : v < window.end

-- the window of a queue
abbrev pub window_at : Rule → ℕ → Window
window_at rule l = if nat_eq l rule.from then rule.source else (if nat_eq l rule.to then rule.target else record { least = 0; end = 65536 })

-- the rule allows so many customers at the queue
abbrev pub Allows : Rule → ℕ → ℕ → Type 0
Allows rule l v = IsWithin (window_at rule l) v

-- whether an end is marked: queue l with s customers before it
abbrev pub is_marked : List Sums → ℕ → ℕ → Bool
is_marked marks l s = has (sums_at marks l) s

-- an arc of the queue within the window comes, from a marked end, to t customers
pub record Enters (arcs : List Arc) (l t : ℕ) (window : Window) (marks : Sums) : Type 0 where
  pub before : ℕ
  pub value : ℕ
  pub listed : Listed arcs l before value
  pub comes : before + value ≡ t
  pub within : IsWithin window value
  pub marked : has marks before ≡ true

-- one with fewer than n customers before the queue does
pub record EntersBelow (arcs : List Arc) (l t : ℕ) (window : Window) (marks : Sums) (n : ℕ) : Type 0 where
  pub enters : Enters arcs l t window marks
  pub less : enters.before < n

-- an arc within the window leaves the queue, with s customers before it, to a marked end
pub record Exits (arcs : List Arc) (l s : ℕ) (window : Window) (marks : Sums) : Type 0 where
  pub value : ℕ
  pub listed : Listed arcs l s value
  pub within : IsWithin window value
  pub marked : has marks (s + value) ≡ true

-- of the ends that arcs of B leave, from queue `low` to queue `high`, the marks tell which are reached from the first queue over arcs of A
pub record MarkBefore (B A : ℕ → ℕ → ℕ → Type 0) (low high : ℕ) (marks : List Sums) : Type 0 where
  pub each : (l s v : ℕ) → low ≤ l → l ≤ high → B l s v → (is_marked marks l s ≡ true) ↔ Before A l s

-- of the ends to which they come, the marks tell from which the end past the last of n queues with t customers is reached
pub record MarkAfter (B A : ℕ → ℕ → ℕ → Type 0) (n t low high : ℕ) (marks : List Sums) : Type 0 where
  pub each : (l s v : ℕ) → low ≤ l → l ≤ high → B l s v → (is_marked marks (suc l) (s + v) ≡ true) ↔ After A n t (suc l) (s + v)
