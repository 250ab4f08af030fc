-- Answers in the proof of `least_within`.
use Rattle.std.proofs.Common.{◌+◌, ◌^◌, sym, subst, arith}
use Rattle.psi_index.specs.Extremes.{IsLeast}
use Rattle.psi_index.proofs.JoiningLemmas.{least-two, least-slice_range}
use Rattle.psi_index.proofs.minima.least_within.Goals as goal

pub returns-clause-least : goal.returns-clause-least
returns-clause-least c =
    subst (λ m. IsLeast c.args.values.now c.args.from (c.args.to + 1) m) (sym c.min.ensures)
    (least-two c.args.values.now c.level-least.result.now (2 ^ c.ilog2.result) c.args.from (c.args.to + 1) _ c.level-least.ensures
    (omega arith) (omega arith) (omega arith) (omega arith))

pub returns-clause-value : goal.returns-clause-value
returns-clause-value c = least-slice_range c.args.values.now c.args.from (c.args.to + 1) c.min.result (returns-clause-least c) (omega arith)
