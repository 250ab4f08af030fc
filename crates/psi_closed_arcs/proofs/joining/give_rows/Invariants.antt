-- Invariants of the loops of `give_rows`.
use Rattle.std.proofs.Common.{◌≡◌, ◌<◌, ◌≤◌, ◌↔◌, ℕ, true}
use Rattle.psi_closed_arcs.specs.Sums.{has, Leads}
use Rattle.psi_closed_arcs.specs.Held.{Listed}
use Rattle.psi_closed_arcs.specs.Inner.RowsKept.{sums_at}
use Rattle.psi_closed_arcs.specs.Inner.MarksKept.{Gives}
use Rattle.psi_closed_arcs.proofs.joining.give_rows.Given as goal

abbrev pub invariant-loop-before : goal.invariant-loop-before
invariant-loop-before l = record {
  arcs : (s v : ℕ) → l.fn.span.first ≤ s → s < l.before → Leads (sums_at l.reach.next.items s) s v ↔ Gives (Listed l.of.arcs) l.fn.reach l.from l.to l.level s v;
  ranged : (s t : ℕ) → l.fn.span.first ≤ s → s < l.before → t < 320 → has (sums_at l.reach.next.items s) t ≡ true → (s ≤ t) × (t ≤ l.of.total);
  changing : l.reach.changing ≡ l.fn.reach.changing;
  short : l.reach.short ≡ l.fn.reach.short;
  full : l.reach.full ≡ l.fn.reach.full;
  spans : l.reach.spans.items ≡ l.fn.reach.spans.items;
}
