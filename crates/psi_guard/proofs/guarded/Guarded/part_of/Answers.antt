-- Answers in the proof of `Guarded::part_of`.
use Rattle.std.proofs.Common.{inl, inr, ap, sym, ◌∙◌, arith, below_more, rules}
use Rattle.psi_guard.specs.Guarding.{free_part}
use Rattle.psi_guard.specs.Inner.PlacesLaws.{part_of-named, named_or_free}
use Rattle.psi_guard.proofs.guarded.Guarded.part_of.Goals as goal

pub loop-i-init : goal.loop-i-init
loop-i-init c = λ k small. absurd (omega arith)

pub returns-then-part-queue-clause-value : goal.returns-then-part-queue-clause-value
returns-then-part-queue-clause-value c =
    part_of-named c.args.self.now.caps c.args.self.now.parts _ _ c.args.queue c.args.self.now.guards.apart (grind arith) c.part-part.ensures.value c.if-part-queue.true

pub returns-then-part-queue-2-clause-value : goal.returns-then-part-queue-2-clause-value
returns-then-part-queue-2-clause-value c =
    part_of-named c.args.self.now.caps c.args.self.now.parts c.loop-i.i _ c.args.queue c.args.self.now.guards.apart (omega arith) c.part-part-in-loop-i.ensures.value c.if-part-queue-2.true

pub loop-i-preserved : goal.loop-i-preserved
loop-i-preserved c = search (rules, below_more)

pub returns-clause-value : goal.returns-clause-value
returns-clause-value c =
    let event = c.args.self.now in
    elim (named_or_free event.caps event.parts c.args.queue) [
      | inl named ↦ absurd (c.loop-i.invariant named.place (omega (arith, named.small)) named.queue)
      | inr free ↦ ap (λ cap. free_part cap c.args.queue) c.get-cap.ensures ∙ sym free.part
    ]
