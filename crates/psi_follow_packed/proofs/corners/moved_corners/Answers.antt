-- Answers in the proof of `moved_corners`.
use Rattle.std.proofs.Common.{◌≡◌, ℕ, List, map, length, replicate, ap, sym, ◌∙◌, subst}
use Rattle.psi_state.specs.State.{IsBelow, zeros}
use Rattle.psi_state.proofs.BoxesLemmas.{below-itself}
use Rattle.psi_state.proofs.StatesLemmas.{zeros-caps}
use Rattle.psi_event.specs.Numbers.{follow_numbers}
use Rattle.psi_follow_packed.specs.Packed.{packed}
use Rattle.psi_follow_packed.proofs.FollowingLemmas.{follow_numbers-within}
use Rattle.psi_follow_packed.proofs.corners.moved_corners.Goals as goal

pub returns : goal.returns
returns g c =
    let course = c.args.course.now in
    let program = c.args.program.now in
    let functions = map g.E.EventLaw.function course.events in
    let numbers = c.args.numbers.now in
    let low = follow_numbers functions numbers (zeros course.caps) in
    let high = follow_numbers functions numbers course.caps in
    let within = λ (x : List ℕ) (below : IsBelow x course.caps).
    subst (λ (cs : List ℕ). IsBelow (follow_numbers functions numbers x) cs) (sym c.requires.program.same_caps)
    (follow_numbers-within g.row.K course.caps functions program c.requires.program numbers x below) in
    let caps_is : c.caps-caps.result ≡ course.caps = c.caps-caps.ensures.value in
    let zero_is : c.zero.result ≡ zeros course.caps = c.zero.ensures ∙ ap (λ n. replicate n 0) (c.len.ensures.value ∙ ap (λ (l : List ℕ). length l) caps_is) in
    let packs = λ (x : List ℕ). packed g.row.K program.packing x in
    let at_low = c.follow.ensures.low course.caps functions (zeros course.caps) c.requires.program (zeros-caps course.caps) (c.pack-corners.ensures.low ∙ ap packs zero_is) in
    let at_high = c.follow.ensures.high course.caps functions course.caps c.requires.program (below-itself course.caps) (c.pack-corners.ensures.high ∙ ap packs caps_is) in
    record {
      closed = c.caps-caps.ensures.closed;
      least = c.unpack.ensures.low low (within (zeros course.caps) (zeros-caps course.caps)) at_low;
      greatest = c.unpack.ensures.high high (within course.caps (below-itself course.caps)) at_high;
    }
