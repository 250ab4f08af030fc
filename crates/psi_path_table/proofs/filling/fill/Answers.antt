-- Answers in the proof of `fill`.
use Rattle.std.specs.Prelude.{◌≡◌, ℕ, ◌<◌, List, length, map, slice_index_or}
use Rattle.std.proofs.Common.{ap, ◌∙◌, subst, arith}
use Rattle.psi_state.specs.State.{all_states}
use Rattle.psi_path_table.specs.Table.{AreRows}
use Rattle.psi_path_table.specs.Inner.FillingKept.{AreImagesAfter}
use Rattle.psi_path_table.proofs.FillingLemmas.{rows-more, row-function, last-function}
use Rattle.psi_path_table.proofs.filling.fill.Goals as goal

pub loop-event-preserved : goal.loop-event-preserved
loop-event-preserved g c =
    let system = c.args.system.now in
    let event = c.event-item.result in
    let k = c.loop-event.event-index in
    let f = g.E.EventLaw.function event in
    let is : event ≡ slice_index_or system.events k event = c.event-item.is ∙ ap (λ es. slice_index_or es k event) c.events-event-items.ensures.value in
    let small : k < length system.events = (let test = c.loop-event-test.true in let same = ap (λ es. length es) c.events-event-items.ensures.value in omega arith) in
    let caps : g.E.EventLaw.capacities event ≡ system.caps = ap g.E.EventLaw.capacities is ∙ c.caps-caps.ensures.fit.same_caps k event small in
    record {
      rows = rows-more system.caps (map g.E.EventLaw.function system.events) f k c.loop-event.ranks.items c.push_images.new.ranks.items (row-function g.E.EventLaw.function system.events event k is small)
          c.loop-event.invariant.rows
          (subst (λ (cs : List ℕ). AreImagesAfter cs f (length (all_states cs)) c.loop-event.ranks.items c.push_images.new.ranks.items) caps c.push_images.ensures.images);
      room = c.push_images.ensures.room ∙ c.loop-event.invariant.room;
    }

pub returns : goal.returns
returns g c =
    let system = c.args.system.now in
    let fs = map g.E.EventLaw.function system.events in
    let same = ap (λ es. length es) c.events-event-items.ensures.value in
    let last : c.loop-event.event-index ≡ length system.events = (let test = c.loop-event-test.false in let end = c.loop-event.auto.event-index-end in omega arith) in
    let caps : c.new.result.caps ≡ system.caps = c.new.ensures.caps ∙ c.caps-caps.ensures.value in
    rows-more system.caps fs (λ x. x) (length system.events) c.loop-event.ranks.items c.push_images-2.new.ranks.items (last-function g.E.EventLaw.function system.events)
    (subst (λ n. AreRows system.caps fs n c.loop-event.ranks.items) last c.loop-event.invariant.rows)
    (subst (λ (cs : List ℕ). AreImagesAfter cs (λ x. x) (length (all_states cs)) c.loop-event.ranks.items c.push_images-2.new.ranks.items) caps c.push_images-2.ensures.images)
