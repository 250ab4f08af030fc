-- Answers in the proof of `Sums::holds`.
use Rattle.std.proofs.Common.{ap}
use Rattle.std.specs.Prelude.{nat_eq, slice_index, ◌/◌, ◌%◌}
use Rattle.std.proofs.lemmas.Nat.Bits.{shr_and_one}
use Rattle.psi_closed_arcs.specs.Sums.{has}
use Rattle.psi_closed_arcs.proofs.sums.Sums.holds.Goals as goal

pub returns : goal.returns
unfolding has
returns c = let h = c.type_inv.self in ap (λ n. nat_eq n 1) (shr_and_one (slice_index c.args.self.now.words (c.args.sum / 64)) (c.args.sum % 64))
