-- Answers in the proof of `Sums::down`.
use Rattle.std.proofs.Common.{◌<◌, ◌^◌, slice_index, arith}
use Rattle.psi_closed_arcs.proofs.SumsLemmas.{five, down-last, down-others}
use Rattle.psi_closed_arcs.proofs.sums.Sums.down.Goals as goal

pub returns-clause-last : goal.returns-clause-last
returns-clause-last c = down-last c.args.self.now (five (λ k. slice_index c.args.self.now.words k < 2 ^ 64) (omega arith) (omega arith) (omega arith) (omega arith) (omega arith))

pub returns-clause-others : goal.returns-clause-others
returns-clause-others c t small = down-others c.args.self.now (five (λ k. slice_index c.args.self.now.words k < 2 ^ 64) (omega arith) (omega arith) (omega arith) (omega arith) (omega arith)) t small
