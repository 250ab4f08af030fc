-- Answers in the proof of `spread_all`.
use Rattle.std.proofs.Common.{◌≡◌, ◌+◌, ◌-◌, ℕ, List, length, slice_index, drop, ap, sym, ◌∙◌, subst, arith}
use Rattle.psi_state.specs.State.{all_states}
use Rattle.psi_exact.specs.Alike.{AreFilled}
use Rattle.psi_exact.proofs.SpreadLemmas.{front-whole, front-less, stride-first, stride-next, stride-most}
use Rattle.psi_exact.proofs.spread.spread_all.Goals as goal

pub loop-place-init : goal.loop-place-init
loop-place-init g c =
    let caps = g.E.EventLaw.capacities c.args.e.now in
    let f = g.E.EventLaw.function c.args.e.now in
    let count : c.len-place.result ≡ length c.args.span.now = c.len-place.ensures.value in
    let same = c.requires.span.same_length in
    record {
      front = front-whole c.args.span.now c.len-place.result count;
      stride = stride-first caps c.len-place.result (omega arith);
      filled = subst (λ n. AreFilled caps f c.args.span.now n c.args.ranks.now) (sym count) c.requires.filled;
    }

pub spread_queue-requires-clause-front : goal.spread_queue-requires-clause-front
spread_queue-requires-clause-front g c =
    (let count = c.len-place.ensures.value in
    let most = c.loop-place.auto.place in
    front-less c.args.span.now c.loop-place.front c.set.new.self c.loop-place.place c.loop-place-test.true (omega arith) c.loop-place.invariant.front c.set.ensures)

pub spread_queue-requires-clause-stride : goal.spread_queue-requires-clause-stride
spread_queue-requires-clause-stride g c =
    let back : c.loop-place.place ≡ c.loop-place.place - 1 + 1 = (let some = c.loop-place-test.true in omega arith) in
    c.loop-place.invariant.stride ∙ ap (λ n. length (all_states (drop n (g.E.EventLaw.capacities c.args.e.now)))) back

pub spread_queue-requires-clause-filled : goal.spread_queue-requires-clause-filled
spread_queue-requires-clause-filled g c =
    let back : c.loop-place.place ≡ c.loop-place.place - 1 + 1 = (let some = c.loop-place-test.true in omega arith) in
    subst (λ n. AreFilled (g.E.EventLaw.capacities c.args.e.now) (g.E.EventLaw.function c.args.e.now) c.args.span.now n c.loop-place.ranks) back c.loop-place.invariant.filled

pub overflow_mul-stride : goal.overflow_mul-stride
overflow_mul-stride g c =
    let caps = g.E.EventLaw.capacities c.args.e.now in
    let count = c.len-place.ensures.value in
    let most = c.loop-place.auto.place in
    let same = c.requires.span.same_length in
    let capacity : c.get.result ≡ slice_index caps (c.loop-place.place - 1) = c.get.ensures ∙ ap (λ (xs : List ℕ). slice_index xs (c.loop-place.place - 1)) c.caps-caps.ensures.value in
    let next = stride-next caps c.loop-place.place c.loop-place.stride c.get.result c.loop-place-test.true (omega arith) c.loop-place.invariant.stride capacity in
    let fits = stride-most caps (c.loop-place.place - 1) in
    let few = c.requires.few in
    omega arith

pub loop-place-preserved : goal.loop-place-preserved
loop-place-preserved g c =
    let caps = g.E.EventLaw.capacities c.args.e.now in
    let count = c.len-place.ensures.value in
    let most = c.loop-place.auto.place in
    let same = c.requires.span.same_length in
    let capacity : c.get.result ≡ slice_index caps (c.loop-place.place - 1) = c.get.ensures ∙ ap (λ (xs : List ℕ). slice_index xs (c.loop-place.place - 1)) c.caps-caps.ensures.value in
    record {
      front = front-less c.args.span.now c.loop-place.front c.set.new.self c.loop-place.place c.loop-place-test.true (omega arith) c.loop-place.invariant.front c.set.ensures;
      stride = stride-next caps c.loop-place.place c.loop-place.stride c.get.result c.loop-place-test.true (omega arith) c.loop-place.invariant.stride capacity;
      filled = c.spread_queue.ensures;
    }

pub returns : goal.returns
returns g c =
    let end : c.loop-place.place ≡ 0 = omega arith in
    subst (λ n. AreFilled (g.E.EventLaw.capacities c.args.e.now) (g.E.EventLaw.function c.args.e.now) c.args.span.now n c.loop-place.ranks) end c.loop-place.invariant.filled
