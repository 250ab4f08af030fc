-- What marks tell of arcs, and what a step makes of an arc by them.
use Rattle.std.specs.Prelude.{◌≡◌, ℕ, suc, ◌+◌, ◌≤◌, ◌↔◌, ◌⊎◌, true}
use Rattle.psi_closed_arcs.specs.declared.marks.Marks.{Marks}
use Rattle.psi_closed_arcs.specs.declared.marks.Reach.{Reach}
use Rattle.psi_closed_arcs.specs.declared.marks.LevelMarks.{LevelMarks}
use Rattle.psi_closed_arcs.specs.declared.marks.LevelReach.{LevelReach}
use Rattle.psi_closed_arcs.specs.Walks.{Useful}
use Rattle.psi_closed_arcs.specs.Joining.{Only, IsShifted}
use Rattle.psi_closed_arcs.specs.Inner.RowsKept.{sums_at}
use Rattle.psi_closed_arcs.specs.Windows.{window_at, Allows, is_marked, MarkBefore, MarkAfter}

-- the marks are those of the arcs that their rule allows, from queue `low` to queue `high`
pub record AreMarked (A : ℕ → ℕ → ℕ → Type 0) (n t low high : ℕ) (marks : Marks) : Type 0 where
  pub behind : MarkBefore A (Only A (Allows marks.rule)) low high marks.before.items
  pub ahead : MarkAfter A (Only A (Allows marks.rule)) n t low high marks.after.items

-- the rule allows the arc, and both its ends are marked
pub record IsReached (marks : Marks) (l s v : ℕ) : Type 0 where
  pub allowed : Allows marks.rule l v
  pub behind : is_marked marks.before.items l s ≡ true
  pub ahead : is_marked marks.after.items (suc l) (s + v) ≡ true

-- the arc is of the set, and reached
pub record Keeps (A : ℕ → ℕ → ℕ → Type 0) (marks : Marks) (l s v : ℕ) : Type 0 where
  pub there : A l s v
  pub reached : IsReached marks l s v

-- the marks tell which arcs of the set are useful among those that P allows, from queue `low` to queue `high`
pub record TellsUseful (A : ℕ → ℕ → ℕ → Type 0) (n t low high : ℕ) (P : ℕ → ℕ → Type 0) (marks : Marks) : Type 0 where
  pub each : (l s v : ℕ) → low ≤ l → l ≤ high → A l s v → IsReached marks l s v ↔ Useful (Only A P) n t l s v

-- an arc that is kept becomes this one
pub record Shifts (A : ℕ → ℕ → ℕ → Type 0) (marks : Marks) (from to l s v : ℕ) : Type 0 where
  pub sum : ℕ
  pub own : ℕ
  pub keeps : Keeps A marks l sum own
  pub shifted : IsShifted from to l sum own s v

-- what a move makes of an arc is this one, or this one stays
abbrev pub Gives : (ℕ → ℕ → ℕ → Type 0) → Reach → ℕ → ℕ → ℕ → ℕ → ℕ → Type 0
Gives A reach from to l s v = Shifts A reach.changing from to l s v ⊎ (Keeps A reach.short l s v ⊎ Keeps A reach.full l s v)

-- they are those of the marks at queue l
pub record AreAt (marks : Marks) (l : ℕ) (at : LevelMarks) : Type 0 where
  pub window : at.window ≡ window_at marks.rule l
  pub behind : at.before ≡ sums_at marks.before.items l
  pub ahead : at.after ≡ sums_at marks.after.items (suc l)

-- they are those of a step's marks at their queue
pub record AreOf (reach : Reach) (at : LevelReach) : Type 0 where
  pub changing : AreAt reach.changing at.level at.changing
  pub short : AreAt reach.short at.level at.short
  pub full : AreAt reach.full at.level at.full
