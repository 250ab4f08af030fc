-- What the changes by the events before this one add.
use Rattle.std.proofs.Common.{◌≡◌, ◌*◌, ◌^◌, ◌≤◌, pos, ◌*ℤ◌, map, slice_index}
use Rattle.std.specs.Int.RustNames.{unsigned_abs}
use Rattle.psi_follow_packed.specs.Views.{low_word}
use Rattle.psi_path_packed.specs.Rises.{sum_below}
use Rattle.psi_path_packed.specs.Walker.{rise_of}
use Rattle.psi_path_packed.proofs.totals.risen.Given as goal

abbrev pub invariant-loop-event : goal.invariant-loop-event
invariant-loop-event l = record {
  sum : l.sum ≡ sum_below (λ e. pos (slice_index (map low_word l.changes) e) *ℤ rise_of l.rises l.count l.place e) l.event;
  few : unsigned_abs l.sum ≤ l.event * 2 ^ 104;
}
