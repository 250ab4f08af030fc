-- Answers in the proof of `Route::least_fall`.
use Rattle.std.proofs.Common.{◌≡◌, ◌≤◌, ℕ, [], get_or, length, slice_index, refl, subst, arith}
use Rattle.std.proofs.lemmas.List.{get_or_read_under}
use Rattle.psi_route.specs.Falls.{AreFalls}
use Rattle.psi_route.specs.Route.{shape_of}
use Rattle.psi_route.proofs.FallingLemmas.{rising-no_fall, falls-rest}
use Rattle.psi_route.proofs.route.Route.least_fall.Goals as goal

pub returns-after-loop-w : goal.returns-after-loop-w
returns-after-loop-w c =
    let s = shape_of c.args.self.now in
    let most : slice_index s.caps (slice_index s.targets c.args.b) ≤ c.loop-w.w = omega (arith, c.cap-w-end.ensures, c.loop-w-test.false) in
    let least : c.loop-w.w ≤ slice_index s.caps (slice_index s.targets c.args.b) = omega (arith, c.cap-w-end.ensures, c.loop-w.auto.w-end, c.clear-clear.ensures.within) in
    let end : c.loop-w.w ≡ slice_index s.caps (slice_index s.targets c.args.b) = omega (arith, most, least) in
    subst (λ (n : ℕ). AreFalls s c.args.a c.args.b n c.loop-w.found) end c.loop-w.invariant

pub returns-then-past-rising : goal.returns-then-past-rising
returns-then-past-rising c =
    let s = shape_of c.args.self.now in
    let count : length s.tables ≡ length s.targets = c.args.self.now.valid.tabled c.requires.tables in
    let own : c.index.result.now ≡ get_or s.tables c.args.a [] =
    get_or_read_under c.args.self.now.tables.items c.args.a (length c.args.self.now.tables.items) c.index.result.now [] c.index.ensures (omega (arith, c.requires.first)) refl in
    falls-rest s c.args.a c.args.b c.loop-w.w (slice_index s.caps (slice_index s.targets c.args.b)) c.past-past.result c.loop-w.found
    c.requires.first c.requires.second c.loop-w.invariant c.past-past.ensures.past (omega (arith, c.cap-w-end.ensures, c.loop-w-test.true))
    (λ k. rising-no_fall s c.index.result.now c.args.a c.args.b k c.rising_front-rising.result c.past-past.result own c.requires.first c.requires.second c.rising_front-rising.ensures
    c.if-past-rising.true)
