-- What a plan shows once all steps of its run are done, and what stays the same where its system and its words do.
use Rattle.std.specs.Prelude.{◌≡◌, ℕ, List, Option, Some, None, IfSome}
use Rattle.std.proofs.Common.{sym, subst}
use Rattle.psi_region.specs.Region.{Area}
use Rattle.psi_horizon.specs.Planned.{Running, IsOver}
use Rattle.psi_horizon.specs.Runs.{region_at, region_after}
use Rattle.psi_horizon.proofs.RunsLemmas.{region_after-whole}

-- what is shown of the region after all steps is so of the one with which the run ends
pub shown-ended : (Shown : Area → Type 0) (split : ℕ) (caps : List ℕ) (f : ℕ → List ℕ → List ℕ) (horizon : ℕ) (run : Option Running)
    → run ≡ Some (record { horizon = horizon; done = horizon }) → IfSome run (λ r. Shown (region_after split f caps r.horizon r.done))
    → Shown (region_at split f caps horizon)
shown-ended Shown split caps f horizon run is shown =
    subst Shown (region_after-whole split caps f horizon)
    (subst (λ (o : Option Running). IfSome o (λ r. Shown (region_after split f caps r.horizon r.done))) is shown)

-- what is so of a system and words is so of the same ones
pub same-both : {A B : Type 0} (P : A → B → Type 0) (s t : A) (v w : B) → s ≡ t → v ≡ w → P s v → P t w
same-both P s t v w first second is = subst (λ a. P a w) first (subst (λ b. P s b) second is)

-- where no run was begun, no step is left
pub none-over : (run : Option Running) → run ≡ None → IsOver run
none-over run is = subst (λ (o : Option Running). IsOver o) (sym is) tt
