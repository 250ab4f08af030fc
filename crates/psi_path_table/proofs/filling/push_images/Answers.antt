-- Answers in the proof of `push_images`.
use Rattle.std.specs.Prelude.{ℕ, ◌+◌, List}
use Rattle.std.proofs.Common.{refl, ap, sym, ◌∙◌, subst, arith}
use Rattle.psi_state.specs.State.{Corners, box, all_states}
use Rattle.psi_exact.proofs.WalkLemmas.{In-whole, rank-whole, next-left, none-left}
use Rattle.psi_path_table.specs.Inner.FillingKept.{AreImagesAfter}
use Rattle.psi_path_table.proofs.FillingLemmas.{images-more, images-none}
use Rattle.psi_path_table.proofs.filling.push_images.Goals as goal

pub apply-requires : goal.apply-requires
apply-requires g c =
    let filling = c.loop-state.invariant.filling in
    (next-left (g.E.EventLaw.capacities c.args.event.now) filling.rank c.in-Some.state c.loop-state.state-iterator c.next.new.self filling.left c.in-Some.ensures.steps).within

pub rank-requires-clause-member : goal.rank-requires-clause-member
rank-requires-clause-member g c =
    In-whole (g.E.EventLaw.capacities c.args.event.now) c.caps.result c.apply.new.x c.whole-bounds.result c.whole-bounds.ensures c.caps.ensures.value c.apply.ensures.within

pub loop-state-preserved : goal.loop-state-preserved
loop-state-preserved g c =
    let caps = g.E.EventLaw.capacities c.args.event.now in
    let f = g.E.EventLaw.function c.args.event.now in
    let filling = c.loop-state.invariant.filling in
    let next = next-left caps filling.rank c.in-Some.state c.loop-state.state-iterator c.next.new.self filling.left c.in-Some.ensures.steps in
    let place = rank-whole caps c.caps.result c.apply.new.x c.whole-bounds.result c.rank.result c.whole-bounds.ensures c.caps.ensures.value c.rank.ensures.place in
    record {
      filling = record {
        rank = filling.rank + 1;
        most = (let small = next.small in omega arith);
        left = next.left;
        done = subst (λ (xs : List ℕ). AreImagesAfter caps f (filling.rank + 1) c.args.ranks.now.items xs) (sym c.push_reserved.ensures.items)
            (images-more caps f filling.rank c.rank.result c.in-Some.state c.apply.new.x c.next.new.self c.args.ranks.now.items c.loop-state.ranks.items next c.apply.ensures.value place.rank filling.done);
      };
      room = c.push_reserved.ensures.capacity ∙ c.loop-state.invariant.room;
    }

pub returns-clause-images : goal.returns-clause-images
returns-clause-images g c =
    let caps = g.E.EventLaw.capacities c.args.event.now in
    let filling = c.loop-state.invariant.filling in
    let past = none-left caps filling.rank c.loop-state.state-iterator filling.left c.in-None.ensures.steps.0 in
    let all = filling.most in
    subst (λ n. AreImagesAfter caps (g.E.EventLaw.function c.args.event.now) n c.args.ranks.now.items c.loop-state.ranks.items) (omega arith) filling.done

pub loop-state-init : goal.loop-state-init
loop-state-init g c =
    let caps = g.E.EventLaw.capacities c.args.event.now in
    record {
      filling = record {
        rank = 0;
        most = omega arith;
        left = c.into_iter-state-iterator.ensures.into_iter_gives ∙ c.states-state-items.ensures.states
            ∙ ap (λ (b : Corners). box b.lo b.hi) c.whole-bounds.ensures ∙ ap (λ (xs : List ℕ). all_states xs) c.caps.ensures.value;
        done = images-none caps (g.E.EventLaw.function c.args.event.now) c.args.ranks.now.items;
      };
      room = refl;
    }
