-- The marks of the queues that a list names so far.
use Rattle.std.specs.Prelude.{◌≡◌, ℕ, ◌<◌, List, true, false, slice_index}
use Rattle.psi_net_document.specs.References.{is_in}

-- of the queues below 32 just those in the list have a mark, a number above 0
pub record AreMarked (queues marks : List ℕ) : Type 0 where
  pub marked : (q : ℕ) → q < 32 → 0 < slice_index marks q → is_in q queues ≡ true
  pub bare : (q : ℕ) → q < 32 → slice_index marks q ≡ 0 → is_in q queues ≡ false
