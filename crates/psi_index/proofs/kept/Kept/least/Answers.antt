-- Answers in the proof of `Kept::least`.
use Rattle.std.proofs.Common.{◌+◌, slice_index, ◌∙◌, arith}
use Rattle.psi_index.proofs.JoiningLemmas.{least-slice_range}
use Rattle.psi_index.proofs.RisingLemmas.{rising-order, rising-least}
use Rattle.psi_index.proofs.kept.Kept.least.Goals as goal

pub returns-then-self-clause-value : goal.returns-then-self-clause-value
returns-then-self-clause-value c =
    let rising = rw c.self.view_is at (c.self.invariant.0.risen.0 c.if-self.true) in
    c.at.ensures ∙ least-slice_range c.args.self.now c.args.from (c.args.to + 1) (slice_index c.args.self.now c.args.from)
    (rising-least c.args.self.now c.args.from (c.args.to + 1) rising (omega arith) (omega arith)) (omega arith)

pub returns-then-self-clause-below : goal.returns-then-self-clause-below
returns-then-self-clause-below c = λ k low high.
    let rising = rw c.self.view_is at (c.self.invariant.0.risen.0 c.if-self.true) in
    let order = rising-order c.args.self.now c.args.from k rising low (omega arith) in
    omega (arith, c.at.ensures)
