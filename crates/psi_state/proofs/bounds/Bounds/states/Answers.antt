-- Answers in the proof of `Bounds::states`.
use Rattle.std.specs.Prelude.{ℕ, List, length}
use Rattle.std.proofs.Common.{ap, ◌∙◌}
use Rattle.std.proofs.iter.runs.Sources.{from_front, as_is}
use Rattle.std.specs.Map.Iter.{TakesFirst}
use Rattle.psi_state.specs.Listing.{onward}
use Rattle.psi_state.proofs.ListingLemmas.{onward-low}
use Rattle.psi_state.proofs.bounds.Bounds.states.Goals as goal

pub returns-clause-states : goal.returns-clause-states
returns-clause-states c =
    ap (λ (x : List ℕ). onward c.args.self.now.lo c.args.self.now.hi x) c.lo.ensures.value
    ∙ onward-low c.args.self.now.lo c.args.self.now.hi c.lo.ensures.ordered

pub returns-clause-runs : goal.returns-clause-runs
returns-clause-runs c p seen =
    as_is p p.from
    (from_front (TakesFirst (λ (x : List ℕ). x)) (λ (x : List ℕ). x) (λ (xs : List (List ℕ)). xs) (λ s t h. ap length h.0) (λ s x t h. h) p seen)
