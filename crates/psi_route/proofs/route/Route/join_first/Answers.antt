-- Answers in the proof of `Route::join_first`.
use Rattle.std.proofs.Common.{List, ℕ, ◌≡◌, ◌+◌, ◌<◌, length, slice_index, slice_set, ap, ◌∙◌, arith}
use Rattle.psi_route.specs.Routing.{routing, best, moved, HasRoom}
use Rattle.psi_route.specs.Route.{shape_of}
use Rattle.psi_route.proofs.ChoosingLemmas.{moved-first, moved-none}
use Rattle.psi_route.proofs.route.Route.join_first.Goals as goal

pub returns-then-held-most_with_room : goal.returns-then-held-most_with_room
returns-then-held-most_with_room c =
    let s = shape_of c.args.self.now in
    let small : c.loop-i.i < length s.targets = omega (arith, c.places-i-end.ensures.value, c.loop-i-test.true) in
    let at : c.target-queue.result ≡ slice_index s.targets c.loop-i.i = c.target-queue.ensures.value in
    let held : c.get-held.result ≡ slice_index c.loop-i.x (slice_index s.targets c.loop-i.i) = c.get-held.ensures ∙ ap (λ q. slice_index c.loop-i.x q) at in
    let room : HasRoom (routing s) c.loop-i.i (slice_index c.loop-i.x (slice_index s.targets c.loop-i.i)) = omega (arith, c.if-held-most_with_room.true, held, c.most_with_room.ensures) in
    c.set.ensures
    ∙ (ap (λ (z : List ℕ). slice_set z c.target-queue.result (c.get-held.result + s.size)) c.take_one.ensures
    ∙ (moved-first s c.loop-i.x c.loop-i.i c.target-queue.result c.get-held.result c.requires.plain small at held room c.loop-i.invariant.before
    ∙ ap (λ (z : List ℕ). moved (routing s) z (best (routing s) z)) c.loop-i.invariant.same))

pub returns : goal.returns
returns c =
    let s = shape_of c.args.self.now in
    c.turn_away.ensures
    ∙ (moved-none s c.loop-i.x c.loop-i.i (omega (arith, c.places-i-end.ensures.value, c.loop-i-test.false)) c.loop-i.invariant.before
    ∙ ap (λ (z : List ℕ). moved (routing s) z (best (routing s) z)) c.loop-i.invariant.same)
