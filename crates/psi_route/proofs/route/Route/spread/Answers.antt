-- Answers in the proof of `Route::spread`.
use Rattle.std.proofs.Common.{refl}
use Rattle.std.proofs.lemmas.Bool.{MatchBool-at_false}
use Rattle.psi_route.specs.Routing.{routing}
use Rattle.psi_route.specs.Route.{shape_of}
use Rattle.psi_route.proofs.AcceptedLemmas.{routing-is}
use Rattle.psi_route.specs.Coming.{Comes, Misses}
use Rattle.psi_route.proofs.SettingLemmas.{spread-below, spread-is}
use Rattle.psi_route.proofs.LeavingLemmas.{ends-with_source, ends-idle, source-some}
use Rattle.psi_route.proofs.route.Route.spread.Goals as goal

pub set_source-requires-clause-low : goal.set_source-requires-clause-low
set_source-requires-clause-low c =
    let s = shape_of c.args.self.now in
    source-some s c.args.self.now.valid c.args.b.now.lo c.set_targets-left.new.b.lo c.coming-coming.result.always c.coming-coming.ensures.low
    (c.set_targets-left.ensures.ends.low.rest ((routing s).source) (λ i small. (routing-is s c.args.self.now.valid).no_source i small))

pub set_source-requires-clause-ordered : goal.set_source-requires-clause-ordered
set_source-requires-clause-ordered c =
    let s = shape_of c.args.self.now in
    spread-below s c.args.self.now.valid _ _ _ _ c.len-queues.ensures.ordered c.requires
    (ends-with_source s c.args.self.now.valid _ _ _ _ _ _ c.len-queues.ensures.ordered c.requires c.set_targets-left.ensures.ends c.coming-coming.ensures c.set_targets-left.ensures.left)

pub returns-then-coming : goal.returns-then-coming
returns-then-coming c =
    let s = shape_of c.args.self.now in
    let both =
    spread-is s c.args.self.now.valid _ _ _ _ _ c.len-queues.ensures.ordered c.requires
    (ends-with_source s c.args.self.now.valid _ _ _ _ _ _ c.len-queues.ensures.ordered c.requires c.set_targets-left.ensures.ends c.coming-coming.ensures c.set_targets-left.ensures.left)
    c.set_source.ensures in
    record { hull = both.0; tight = both.1; ordered = c.len-queues.ensures.ordered }

pub returns-else-coming : goal.returns-else-coming
returns-else-coming c =
    let s = shape_of c.args.self.now in
    let r = routing s in
    let idle = MatchBool-at_false (Comes r c.args.b.now.hi 0) (Misses r c.args.b.now.hi 0) c.if-coming.false c.coming-coming.ensures.high in
    let both =
    spread-is s c.args.self.now.valid _ _ _ _ c.args.b.now c.len-queues.ensures.ordered c.requires
    (ends-idle s c.args.self.now.valid c.args.b.now.lo c.args.b.now.hi c.len-queues.ensures.ordered c.requires idle) refl in
    record { hull = both.0; tight = both.1; ordered = c.len-queues.ensures.ordered }

pub set_source-requires-clause-high : goal.set_source-requires-clause-high
set_source-requires-clause-high c =
    let s = shape_of c.args.self.now in
    source-some s c.args.self.now.valid c.args.b.now.hi c.set_targets-left.new.b.hi c.coming-coming.result.sometimes c.coming-coming.ensures.high
    (c.set_targets-left.ensures.ends.high.rest ((routing s).source) (λ i small. (routing-is s c.args.self.now.valid).no_source i small))
