-- Answers in the proof of `Route::first_pair`.
use Rattle.std.proofs.Common.{◌≡◌, ℕ, List, [], length, subst, refl, arith, below_more}
use Rattle.std.proofs.lemmas.List.{get_or_read_under}
use Rattle.psi_index.specs.Extremes.{IsRising}
use Rattle.psi_route.specs.Routing.{pair_behind, first_pair}
use Rattle.psi_route.specs.Route.{shape_of}
use Rattle.psi_route.proofs.SearchingLemmas.{search-found, search-none, none-there, rising-none}
use Rattle.psi_route.proofs.route.Route.first_pair.Goals as goal
use Rattle.psi_route.proofs.route.Route.first_pair.Goals.{then-not-rises+else-is_some, else-not-rises}

pub returns-then-is_some : goal.returns-then-is_some
unfolding first_pair
returns-then-is_some c =
    search-found (λ a. pair_behind (shape_of c.args.self.now) a) (length c.args.self.now.targets) c.loop-a.a c.pair_behind-pair.result c.is_some.result
    (omega (arith, c.places-a-end.ensures.value)) c.pair_behind-pair.ensures c.is_some.ensures c.if-is_some.true c.loop-a.invariant

pub loop-a-preserved : goal.loop-a-preserved
loop-a-preserved c =
    below_more _ _ c.loop-a.invariant
    (elim c.if-not-rises.branch [
      | then-not-rises+else-is_some w ↦ none-there w.pair_behind-pair.result (pair_behind (shape_of c.args.self.now) c.loop-a.a) w.is_some.result
          w.pair_behind-pair.ensures w.is_some.ensures w.if-is_some.false
      | else-not-rises w ↦ rising-none (shape_of c.args.self.now) c.loop-a.a c.args.self.now.valid (omega (arith, c.places-a-end.ensures.value)) c.requires
          (subst (λ (t : List ℕ). IsRising t)
          (get_or_read_under c.args.self.now.tables.items c.loop-a.a (length c.args.self.now.tables.items) c.index.result.now [] c.index.ensures
          (let count : length c.args.self.now.tables.items ≡ length c.args.self.now.targets = c.args.self.now.valid.tabled c.requires in
          omega (arith, c.places-a-end.ensures.value)) refl)
          (c.rises.ensures.0 w.if-not-rises.false))
    ])

pub returns : goal.returns
unfolding first_pair
returns c =
    search-none (λ a. pair_behind (shape_of c.args.self.now) a) (length c.args.self.now.targets) c.loop-a.a
    (omega (arith, c.places-a-end.ensures.value)) c.loop-a.invariant
