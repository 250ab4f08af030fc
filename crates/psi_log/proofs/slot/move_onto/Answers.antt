-- Answers in the proof of `slot::move_onto`.
use Rattle.std.proofs.Common.{refl}
use Rattle.psi_log.proofs.SlotLemmas.{changed_goes_on, same_box_goes_on}
use Rattle.psi_log.proofs.slot.move_onto.Goals as goal

pub returns-then-has_byte-clause-line : goal.returns-then-has_byte-clause-line
returns-then-has_byte-clause-line c =
    same_box_goes_on c.args.queues c.args.from.now c.args.text.now c.args.at c.requires.few (c.if-not-has_name.ensures.there refl) (c.if-has_byte.ensures.there refl)

pub returns-clause-line : goal.returns-clause-line
returns-clause-line c =
    changed_goes_on c.args.queues c.args.from.now c.args.text.now c.args.at c.in_ok-end.end c.args.to.now.states.states _ c.requires.few (c.if-not-has_name.ensures.there refl) c.in_ok-end.ensures
    (c.if-not-has_byte.ensures.there refl)
