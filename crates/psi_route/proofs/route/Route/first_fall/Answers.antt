-- Answers in the proof of `Route::first_fall`.
use Rattle.std.proofs.Common.{◌≡◌, ◌<◌, List, [], ℕ, length, get_or, slice_index, refl, ap, ◌∙◌, arith}
use Rattle.std.proofs.lemmas.List.{get_or_read_under}
use Rattle.psi_route.specs.Route.{shape_of}
use Rattle.psi_route.proofs.FallingLemmas.{fall-found}
use Rattle.psi_route.proofs.route.Route.first_fall.Goals as goal

pub returns : goal.returns
returns c =
    let s = shape_of c.args.self.now in
    let valid = c.args.self.now.valid in
    let count : length s.tables ≡ length s.targets = valid.tabled c.requires.tables in
    let own : c.index-table.result.now ≡ get_or s.tables c.args.a [] =
    get_or_read_under c.args.self.now.tables.items c.args.a (length c.args.self.now.tables.items) c.index-table.result.now [] c.index-table.ensures
    (omega (arith, c.requires.first)) refl in
    let long : length c.index-table.result.now ≡ slice_index s.caps (slice_index s.targets c.args.a) =
    ap (λ (t : List ℕ). length t) own ∙ valid.fitted c.args.a (omega (arith, c.requires.first)) in
    let less : c.first_below-below.result < c.args.past = grind arith in
    let within : c.first_below-below.result < length c.index-table.result.now = omega (arith, less, long, c.requires.past) in
    fall-found s c.index-table.result.now c.args.a c.args.b c.args.w c.first_at_least_between-first.result c.first_below-below.result
    _ own c.requires.first c.requires.second valid.few c.if-a-b.false
    (omega (arith, long, within)) c.requires.number (λ under. grind arith) (λ over. grind arith) c.first_below-below.ensures.from (λ k. c.first_at_least_between-first.ensures.before k (omega arith))
    (c.first_at_least_between-first.ensures.found (omega (arith, less, c.first_below-below.ensures.from))) c.first_below-below.ensures.before (c.first_below-below.ensures.found less)
