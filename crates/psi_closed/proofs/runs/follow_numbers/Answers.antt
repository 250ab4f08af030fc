-- Answers in the proof of `follow_numbers`.
use Rattle.std.proofs.Common.{◌≡◌, ◌+◌, ◌-◌, ◌≤◌, ℕ, List, map, take, length, slice_index, ap, ◌∙◌, subst, arith}
use Rattle.psi_kinds.specs.Moves.{moved}
use Rattle.psi_closed.specs.Closed.{IsOfTotal, total_states, follow_closed, walk_of}
use Rattle.psi_closed.specs.Diagram.{Shown}
use Rattle.psi_closed.proofs.FollowLemmas.{follow_closed-take, step-is}
use Rattle.psi_closed.proofs.WalkingLemmas.{walk-ending}
use Rattle.psi_closed.proofs.runs.follow_numbers.Goals as goal

pub loop-place-preserved : goal.loop-place-preserved
loop-place-preserved c =
    let d = c.args.diagram.now in
    let moves = c.args.moves.now in
    let numbers = c.args.numbers.now in
    let functions = map (λ m. moved d.caps m) moves in
    let kept = c.loop-place.invariant in
    let place = c.loop-place.place in
    let some : 1 ≤ place = c.loop-place-test.true in
    let within : place ≤ length numbers = omega arith in
    let number = slice_index numbers (place - 1) in
    let stepped = step-is d.caps c.loop-place.diagram.caps d.total c.loop-place.diagram.total moves number _ c.loop-place.diagram.states c.advance.new.self.states
    (c.requires.numbers (place - 1) 0 (omega arith)) kept.caps kept.total (ap (λ (s : Shown). s.states) c.advance.ensures) in
    record {
      caps = ap (λ (s : Shown). s.caps) c.advance.ensures ∙ kept.caps;
      total = ap (λ (s : Shown). s.total) c.advance.ensures ∙ kept.total;
      left = follow_closed-take d.caps d.total functions numbers place c.loop-place.diagram.states c.advance.new.self.states
          (follow_closed d.caps d.total functions numbers (total_states d.caps d.total)) some within stepped kept.left;
    }

pub returns-in-Some-clause-ending : goal.returns-in-Some-clause-ending
returns-in-Some-clause-ending c =
    let d = c.args.diagram.now in
    let kept = c.loop-place.invariant in
    let place = c.loop-place.place in
    let caps_is : c.caps.result ≡ d.caps = c.caps.ensures ∙ kept.caps in
    let of : IsOfTotal d.caps d.total c.in-Some.state =
    subst (λ k. IsOfTotal d.caps k c.in-Some.state) kept.total (subst (λ (cs : List ℕ). IsOfTotal cs c.loop-place.diagram.total c.in-Some.state) kept.caps c.in-Some.ensures.within) in
    walk-ending d.caps d.total c.args.moves.now c.args.numbers.now c.in-Some.state c.walk.result place (place - 1 + 1) c.loop-place.diagram.states
    (follow_closed d.caps d.total (map (λ m. moved d.caps m) c.args.moves.now) c.args.numbers.now (total_states d.caps d.total)) c.requires.moves of c.in-Some.ensures.one kept.left
    (omega (arith, c.loop-place-test.true))
    (c.walk.ensures ∙ ap (λ (cs : List ℕ). walk_of (map (λ m. moved cs m) c.args.moves.now) (take (place - 1 + 1) c.args.numbers.now) c.in-Some.state) caps_is)
