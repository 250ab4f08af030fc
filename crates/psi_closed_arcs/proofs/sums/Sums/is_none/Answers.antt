-- Answers in the proof of `Sums::is_none`.
use Rattle.std.proofs.Common.{◌<◌, ◌^◌, slice_index, arith}
use Rattle.std.proofs.lemmas.Bool.{eqb-true, eqb-false}
use Rattle.psi_closed_arcs.proofs.SumsLemmas.{five, is-none, is-some}
use Rattle.psi_closed_arcs.proofs.sums.Sums.is_none.Goals as goal

pub returns-clause-none : goal.returns-clause-none
returns-clause-none c told t small = is-none c.args.self.now (eqb-true _ 0 told) t small

pub returns-clause-some : goal.returns-clause-some
returns-clause-some c told = is-some c.args.self.now (five (λ k. slice_index c.args.self.now.words k < 2 ^ 64) (omega arith) (omega arith) (omega arith) (omega arith) (omega arith)) (eqb-false _ 0 told)
