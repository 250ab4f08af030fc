-- Answers in the proof of `Marked::join`.
use Rattle.std.proofs.Common.{arith}
use Rattle.psi_follow_keyed.proofs.MarkingLemmas.{least-chosen, joins-none}
use Rattle.psi_follow_keyed.proofs.marked.Marked.join.Goals as goal

pub returns-then-least-clause-joined : goal.returns-then-least-clause-joined
returns-then-least-clause-joined c = λ f joins.
    joins-none c.args.board.now f c.args.self.now.state c.args.self.now.keys joins c.requires.ranked c.requires.keys c.requires.within
    (λ i small. (let lower = c.least_of-least.ensures.below i small in omega arith))

pub join_chosen-requires-clause-chosen : goal.join_chosen-requires-clause-chosen
join_chosen-requires-clause-chosen c =
    least-chosen c.args.board.now c.args.self.now.state c.args.self.now.keys c.least_of-least.result c.requires.ranked c.requires.keys c.requires.within
    c.least_of-least.ensures.below c.least_of-least.ensures.reached (omega arith)
