-- Marks of the queues that a list names.
use Rattle.std.proofs.Common.{ℕ, [], replicate, refl, arith}
use Rattle.std.proofs.lemmas.List.{get_or-replicate}
use Rattle.psi_net_document.specs.Inner.MarksKept.{AreMarked}

-- a list of no queue has no marks
pub no_marks : AreMarked [] (replicate 32 0)
no_marks = record {
  marked = λ q small some. absurd (omega (arith, get_or-replicate {A = ℕ} 32 q 0 0 small));
  bare = λ q small none. refl;
}
