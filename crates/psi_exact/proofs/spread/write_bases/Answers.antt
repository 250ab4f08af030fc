-- Answers in the proof of `write_bases`.
use Rattle.std.proofs.Common.{◌≡◌, ◌<◌, ℕ, List, length, inl, inr, refl, ap, ◌∙◌, arith}
use Rattle.psi_exact.specs.Ranks.{rank_of}
use Rattle.psi_exact.proofs.WalkLemmas.{In-whole, rank-whole}
use Rattle.psi_exact.proofs.VisitsLemmas.{visits-begin, visits-first, visits-next, visits-end}
use Rattle.psi_exact.proofs.AlikeLemmas.{below-span}
use Rattle.psi_exact.proofs.SpreadLemmas.{base-below, right-set}
use Rattle.psi_exact.proofs.spread.write_bases.Goals as goal

pub loop-state-init : goal.loop-state-init
loop-state-init g c = record {
  visited = visits-begin _ _ _ _ _ c.into_iter-state-iterator.ensures.into_iter_gives c.states-state-items.ensures.states c.whole.ensures;
}

pub apply-requires : goal.apply-requires
apply-requires g c =
    below-span (g.E.EventLaw.capacities c.args.e.now) (g.E.EventLaw.function c.args.e.now) c.args.span.now c.in-Some.state c.requires.span
    (visits-first _ _ _ _ _ c.loop-state.invariant.visited c.in-Some.ensures.steps)

pub rank-requires-clause-member : goal.rank-requires-clause-member
rank-requires-clause-member g c =
    In-whole (g.E.EventLaw.capacities c.args.e.now) c.caps.result c.apply.new.x c.whole-bounds.result c.whole-bounds.ensures c.caps.ensures.value c.apply.ensures.within

pub rank-requires-in-loop-state-clause-member : goal.rank-requires-in-loop-state-clause-member
rank-requires-in-loop-state-clause-member g c =
    In-whole (g.E.EventLaw.capacities c.args.e.now) c.caps.result c.in-Some.state c.whole-bounds.result c.whole-bounds.ensures c.caps.ensures.value
    (below-span (g.E.EventLaw.capacities c.args.e.now) (g.E.EventLaw.function c.args.e.now) c.args.span.now c.in-Some.state c.requires.span
    (visits-first _ _ _ _ _ c.loop-state.invariant.visited c.in-Some.ensures.steps))

pub loop-state-preserved : goal.loop-state-preserved
loop-state-preserved g c =
    let caps = g.E.EventLaw.capacities c.args.e.now in
    let f = g.E.EventLaw.function c.args.e.now in
    let span = c.args.span.now in
    let y = c.in-Some.state in
    let place = c.rank-in-loop-state.result in
    let rank = c.rank.result in
    let first = visits-first _ _ _ _ _ c.loop-state.invariant.visited c.in-Some.ensures.steps in
    let within = below-span caps f span y c.requires.span first in
    let own = rank-whole caps c.caps.result y c.whole-bounds.result place c.whole-bounds.ensures c.caps.ensures.value c.rank-in-loop-state.ensures.place in
    let image = rank-whole caps c.caps.result c.apply.new.x c.whole-bounds.result rank c.whole-bounds.ensures c.caps.ensures.value c.rank.ensures.place in
    let value : rank ≡ rank_of caps (f y) = image.rank ∙ ap (λ (z : List ℕ). rank_of caps z) c.apply.ensures.value in
    let fits : place < length c.loop-state.ranks = (let small = own.small in let room = c.requires.room in let count = c.loop-state.auto.ranks in omega arith) in
    record {
      visited = visits-next _ _ _ _ _ _ c.loop-state.invariant.visited c.in-Some.ensures.steps
          (right-set caps f c.loop-state.ranks y y place rank within within own.rank value fits (inl refl))
          (λ x below right. right-set caps f c.loop-state.ranks x y place rank (below-span caps f span x c.requires.span below) within own.rank value fits (inr right));
    }

pub returns : goal.returns
returns g c = record {
  each = λ x within base.
      visits-end _ _ _ c.loop-state.invariant.visited c.in-None.ensures.steps.0 x
      (base-below (g.E.EventLaw.capacities c.args.e.now) (g.E.EventLaw.function c.args.e.now) c.args.span.now x (length c.args.span.now) c.requires.span within
      (let same = c.requires.span.same_length in omega arith) base);
}
