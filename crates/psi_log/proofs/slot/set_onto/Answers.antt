-- Answers in the proof of `slot::set_onto`.
use Rattle.std.specs.Prelude.{length, take, drop, ◌+◌, Option, IfSome}
use Rattle.std.proofs.Common.{refl, subst}
use Rattle.psi_log_scan.specs.LinesViews.{IsLast}
use Rattle.psi_log_scan.specs.Scanned.{Stands}
use Rattle.psi_log_scan.specs.declared.set_line.LastSet.{LastSet}
use Rattle.psi_log.proofs.SlotLemmas.{set_goes_on, same_set_goes_on}
use Rattle.psi_log.proofs.slot.set_onto.Goals as goal

pub returns-then-has_word-clause-line : goal.returns-then-has_word-clause-line
returns-then-has_word-clause-line c = λ before.
    same_set_goes_on c.args.queues before c.args.from.now c.in-Some.set c.args.text.now c.args.at c.requires.some c.requires.from c.in-Some.is (c.if-has_word.ensures.there refl)

pub returns-clause-line : goal.returns-clause-line
returns-clause-line c = λ before.
    (let set = c.in-Some-3.set in
    let queues = c.args.queues in
    let states = c.read_new_set.new.states.states in
    let last = subst (λ (o : Option LastSet). IfSome o (λ s. IsLast queues states s)) c.in-Some-3.is c.in_ok-set.ensures.last in
    let there = subst (λ (o : Option LastSet). IfSome o (λ s. Stands c.args.text.now c.args.at (c.args.at + length s.text.now) s.text.now)) c.in-Some-3.is c.in_ok-set.ensures.there in
    set_goes_on queues before c.args.text.now set.text.now c.args.at (c.args.at + length set.text.now) (take set.count (drop set.first states)) c.requires.some last.told there)
