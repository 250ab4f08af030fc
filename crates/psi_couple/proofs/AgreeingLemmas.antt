-- Functions that agree on the states of the capacities have the same least coupling and the same first value.
use Rattle.std.specs.Prelude.{◌≡◌, ℕ, suc, ℤ, ◌^◌, ◌≤◌, List, Option}
use Rattle.std.proofs.Common.{ap}
use Rattle.psi_rate.specs.Composition.{AreClosed}
use Rattle.psi_rate.proofs.DoublingLemmas.{is_first-agree, has_none-agree}
use Rattle.psi_rate.proofs.LeastLemmas.{is_least-agree, has_none_below-agree}
use Rattle.psi_region.specs.Region.{Area, start}
use Rattle.psi_region.proofs.RegionLemmas.{start-area}
use Rattle.psi_horizon.specs.Runs.{ending_at}
use Rattle.psi_horizon.specs.Agreeing.{Agree}
use Rattle.psi_horizon.proofs.AgreeingLemmas.{follow-agree, ending_at-agree}
use Rattle.psi_couple.specs.declared.answers.Coupled.{Coupled}
use Rattle.psi_couple.specs.declared.answers.Valued.{Valued}
use Rattle.psi_couple.specs.declared.answers.Coupled.TheVariants as coupled
use Rattle.psi_couple.specs.declared.answers.Valued.TheVariants as valued
use Rattle.psi_couple.specs.Coupling.{coupled_within, IsCoupled}
use Rattle.psi_couple.specs.Valuing.{common_value, value_at, valued_within, IsValued}
use Rattle.psi_couple.proofs.CouplingLemmas.{coupled_within-only}
use Rattle.psi_couple.proofs.ValuingLemmas.{valued_within-only}

-- runs that agree from horizon 1 on have the same least coupling
pub coupled-agree : (run other : ℕ → Option (List ℕ)) (limit : ℕ) (c : Coupled) → ((t : ℕ) → 1 ≤ t → run t ≡ other t) → IsCoupled run limit c → IsCoupled other limit c
coupled-agree run other limit (coupled.At t s) agree is = is_least-agree run other (2 ^ limit) t s agree is
coupled-agree run other limit (coupled.NotAt l) agree is = (is.0, has_none_below-agree run other (suc (2 ^ limit)) agree is.1)

-- and the same first value
pub valued-agree : (run other : ℕ → Option ℤ) (limit : ℕ) (o : Valued) → ((t : ℕ) → 1 ≤ t → run t ≡ other t) → IsValued run limit o → IsValued other limit o
valued-agree run other limit (valued.At t v) agree is = is_first-agree run other limit t v agree is
valued-agree run other limit (valued.NotAt l) agree is = (is.0, has_none-agree run other (suc limit) agree is.1)

pub coupled_within-agree : (split : ℕ) (caps : List ℕ) (f g : ℕ → List ℕ → List ℕ) (limit : ℕ) (c : Coupled) → AreClosed caps f → ((k : ℕ) → Agree caps (f k) (g k))
    → IsCoupled (ending_at split f caps) limit c → c ≡ coupled_within (ending_at split g caps) limit
coupled_within-agree split caps f g limit c closed agree is =
    coupled_within-only (ending_at split g caps) limit c
    (coupled-agree (ending_at split f caps) (ending_at split g caps) limit c (λ t some. ending_at-agree split caps f g closed agree t) is)

pub value_at-agree : (value : List ℕ → ℤ) (split : ℕ) (caps : List ℕ) (f g : ℕ → List ℕ → List ℕ) → AreClosed caps f → ((k : ℕ) → Agree caps (f k) (g k))
    → (t : ℕ) → value_at value split f caps t ≡ value_at value split g caps t
value_at-agree value split caps f g closed agree t =
    ap (λ (a : Area). common_value value a.states) (follow-agree split caps f g t (start caps) closed agree (start-area caps))

pub valued_within-agree : (value : List ℕ → ℤ) (split : ℕ) (caps : List ℕ) (f g : ℕ → List ℕ → List ℕ) (limit : ℕ) (o : Valued) → AreClosed caps f
    → ((k : ℕ) → Agree caps (f k) (g k)) → IsValued (value_at value split f caps) limit o → o ≡ valued_within (value_at value split g caps) limit
valued_within-agree value split caps f g limit o closed agree is =
    valued_within-only (value_at value split g caps) limit o
    (valued-agree (value_at value split f caps) (value_at value split g caps) limit o (λ t some. value_at-agree value split caps f g closed agree t) is)
