-- Invariants of the loops of `push_row`.
use Rattle.std.proofs.Common.{◌≡◌, ℕ, ◌+◌, ◌-◌, ◌*◌, ◌^◌, ◌<◌, ◌≤◌, length, slice_index}
use Rattle.psi_route.specs.Routing.{weight}
use Rattle.psi_route.specs.Route.{shape_of}
use Rattle.psi_follow_keyed.proofs.filling.push_row.Given as goal

abbrev pub invariant-loop-held : goal.invariant-loop-held
invariant-loop-held l = record {
  long : length l.entries.items ≡ length l.fn.entries.items + l.held;
  values : (v : ℕ) → v < l.held → weight (shape_of l.route) l.place v ≤ 2 ^ 27 - 2;
  keys : (v : ℕ) → v < l.held → slice_index l.entries.items (length l.fn.entries.items + v) ≡ 32 * weight (shape_of l.route) l.place v + l.place;
  before : (i : ℕ) → i < length l.fn.entries.items → slice_index l.entries.items i ≡ slice_index l.fn.entries.items i;
}
