-- Answers in the proof of `Sums::up`.
use Rattle.std.proofs.Common.{◌<◌, ◌^◌, slice_index, arith}
use Rattle.psi_closed_arcs.proofs.SumsLemmas.{five, up-first, up-others}
use Rattle.psi_closed_arcs.proofs.sums.Sums.up.Goals as goal

pub returns-clause-first : goal.returns-clause-first
returns-clause-first c = up-first c.args.self.now

pub returns-clause-others : goal.returns-clause-others
returns-clause-others c t small = up-others c.args.self.now (five (λ k. slice_index c.args.self.now.words k < 2 ^ 64) (omega arith) (omega arith) (omega arith) (omega arith) (omega arith)) t small
