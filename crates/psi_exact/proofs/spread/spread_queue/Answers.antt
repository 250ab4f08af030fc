-- Answers in the proof of `spread_queue`.
use Rattle.std.proofs.Common.{◌≡◌, ◌+◌, ℕ, suc, List, length, slice_index, drop, inl, inr, refl, ap, ◌∙◌, subst, arith}
use Rattle.psi_state.specs.State.{all_states}
use Rattle.psi_exact.specs.Alike.{AreFilled}
use Rattle.psi_exact.proofs.DigitsLemmas.{cut}
use Rattle.psi_exact.proofs.WalkLemmas.{In-whole, rank-whole}
use Rattle.psi_exact.proofs.VisitsLemmas.{visits-begin, visits-first, visits-next, visits-end}
use Rattle.psi_exact.proofs.SpreadLemmas.{front-below, front-none, stride-some, block-fits, filled-within, cut-below, IsSpreading, spread-right}
use Rattle.psi_exact.proofs.spread.spread_queue.Goals as goal

pub returns-then-get-gt0 : goal.returns-then-get-gt0
returns-then-get-gt0 g c =
    filled-within (g.E.EventLaw.capacities c.args.e.now) (g.E.EventLaw.function c.args.e.now) c.args.span.now c.args.place c.args.ranks.now
    (let is = c.get.ensures in let some = c.if-get-gt0.true in omega arith) c.requires.filled

pub loop-state-init : goal.loop-state-init
loop-state-init g c = record {
  visited = visits-begin _ _ _ _ _ c.into_iter-state-iterator.ensures.into_iter_gives c.states-state-items.ensures.states c.whole.ensures;
  filled = c.requires.filled;
}

pub rank-requires-clause-member : goal.rank-requires-clause-member
rank-requires-clause-member g c =
    In-whole (g.E.EventLaw.capacities c.args.e.now) c.caps-caps.result c.in-Some.state c.whole-bounds.result c.whole-bounds.ensures c.caps-caps.ensures.value
    (front-below (g.E.EventLaw.capacities c.args.e.now) (g.E.EventLaw.function c.args.e.now) c.args.span.now c.args.front.now c.in-Some.state c.args.place c.requires.span c.requires.front
    (visits-first _ _ _ _ _ c.loop-state.invariant.visited c.in-Some.ensures.steps))

pub spread_block-requires : goal.spread_block-requires
spread_block-requires g c =
    let caps = g.E.EventLaw.capacities c.args.e.now in
    let f = g.E.EventLaw.function c.args.e.now in
    let y = c.in-Some.state in
    let first = visits-first _ _ _ _ _ c.loop-state.invariant.visited c.in-Some.ensures.steps in
    let within = front-below caps f c.args.span.now c.args.front.now y c.args.place c.requires.span c.requires.front first in
    let at = (rank-whole caps c.caps-caps.result y c.whole-bounds.result c.rank.result c.whole-bounds.ensures c.caps-caps.ensures.value c.rank.ensures.place).rank in
    let next : c.args.place + 1 ≡ suc c.args.place = omega arith in
    let long : c.args.stride ≡ length (all_states (drop (suc c.args.place) caps)) = subst (λ n. c.args.stride ≡ length (all_states (drop n caps))) next c.requires.stride in
    let capacity : c.get-2.result ≡ slice_index caps c.args.place = c.get-2.ensures ∙ ap (λ (xs : List ℕ). slice_index xs c.args.place) c.caps-caps.ensures.value in
    let same = c.requires.span.same_length in
    let place = c.requires.place in
    let room = c.requires.room in
    let count = c.loop-state.auto.ranks in
    let few = c.requires.few in
    let fits = block-fits caps y c.args.place c.rank.result c.args.stride (c.get-2.result + 1) within
    (λ i past. front-none c.args.span.now c.args.front.now y c.args.place i c.requires.front first past) (omega arith) at long (omega arith) in
    record {
      some = (let some = stride-some caps (suc c.args.place) in omega arith);
      wide = omega arith;
      within = omega arith;
      few = omega arith;
    }

pub loop-state-preserved : goal.loop-state-preserved
loop-state-preserved g c =
    let caps = g.E.EventLaw.capacities c.args.e.now in
    let f = g.E.EventLaw.function c.args.e.now in
    let span = c.args.span.now in
    let q = c.args.place in
    let old = c.loop-state.ranks in
    let new = c.spread_block.new.ranks in
    let y = c.in-Some.state in
    let first = visits-first _ _ _ _ _ c.loop-state.invariant.visited c.in-Some.ensures.steps in
    let within = front-below caps f span c.args.front.now y q c.requires.span c.requires.front first in
    let at = (rank-whole caps c.caps-caps.result y c.whole-bounds.result c.rank.result c.whole-bounds.ensures c.caps-caps.ensures.value c.rank.ensures.place).rank in
    let next : q + 1 ≡ suc q = omega arith in
    let capacity : c.get-2.result ≡ slice_index caps q = c.get-2.ensures ∙ ap (λ (xs : List ℕ). slice_index xs q) c.caps-caps.ensures.value in
    let same = c.requires.span.same_length in
    let place = c.requires.place in
    let spreading : IsSpreading caps f span q c.rank.result c.args.stride (c.get-2.result + 1) y old new = record {
      is = c.requires.span;
      alike = c.requires.alike;
      closed = g.met.E.EventLaw.closed c.args.e.now;
      few = c.requires.few;
      small = omega arith;
      none = (let is = c.get.ensures in let none = c.if-get-gt0.false in omega arith);
      long = subst (λ n. c.args.stride ≡ length (all_states (drop n caps))) next c.requires.stride;
      wide = omega arith;
      within = within;
      first = λ i past. front-none span c.args.front.now y q i c.requires.front first past;
      at = at;
      spread = c.spread_block.ensures;
      filled = subst (λ n. AreFilled caps f span n old) next c.loop-state.invariant.filled;
    } in
    record {
      visited = visits-next _ _ _ _ _ _ c.loop-state.invariant.visited c.in-Some.ensures.steps
          (λ x below base is. spread-right caps f span q c.rank.result c.args.stride (c.get-2.result + 1) y old new x spreading below base (inl is))
          (λ z inside right. λ x below base is. spread-right caps f span q c.rank.result c.args.stride (c.get-2.result + 1) y old new x spreading below base (inr (right x below base is)));
      filled = record {
        each = λ x below base.
            spread-right caps f span q c.rank.result c.args.stride (c.get-2.result + 1) y old new x spreading below
            (record { each = λ i less none. base.each i (omega arith) none }) (inr (c.loop-state.invariant.filled.each x below base));
      };
    }

pub returns : goal.returns
returns g c =
    let caps = g.E.EventLaw.capacities c.args.e.now in
    let f = g.E.EventLaw.function c.args.e.now in
    record {
      each = λ x within base.
          visits-end _ _ _ c.loop-state.invariant.visited c.in-None.ensures.steps.0 (cut c.args.place x)
          (cut-below caps f c.args.span.now c.args.front.now x c.args.place c.requires.span c.requires.front within base) x within base refl;
    }
