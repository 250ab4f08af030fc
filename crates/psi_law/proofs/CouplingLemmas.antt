-- The least coupling of a run agrees with its sample.
use Rattle.std.specs.Prelude.{◌≡◌, ℕ, zero, suc, ◌*◌, ◌^◌, ◌<◌, ◌≤◌, List, Option, Some}
use Rattle.std.proofs.Common.{sym, ◌∙◌, arith}
use Rattle.std.proofs.lemmas.Grind.{common_steps}
use Rattle.psi_state.specs.declared.Outcome.{Outcome}
use Rattle.psi_state.specs.declared.Outcome.TheVariants.{Met, NotMet}
use Rattle.psi_rate.specs.Doubling.{HasNone, IsLasting}
use Rattle.psi_rate.specs.Least.{HasNoneBelow}
use Rattle.psi_rate.specs.Outcomes.{outcome_within, IsOutcome}
use Rattle.psi_rate.proofs.PowersLemmas.{pow-order}
use Rattle.psi_rate.proofs.OutcomesLemmas.{outcome_within-is}
use Rattle.psi_couple.specs.declared.answers.Coupled.{Coupled}
use Rattle.psi_couple.specs.declared.answers.Coupled.TheVariants.{At, NotAt}
use Rattle.psi_couple.specs.Coupling.{coupled_within, IsCoupled}
use Rattle.psi_couple.proofs.CouplingLemmas.{coupled_within-is}
use Rattle.psi_law.specs.Couplings.{AgreesCoupled}

-- the first of 1, 2, 4, .. is less than twice the least horizon
first-under : (run : ℕ → Option (List ℕ)) (c t e : ℕ) (s : List ℕ) → IsLasting run → 1 ≤ c → run c ≡ Some s → t ≡ 2 ^ e → HasNone run e → t < 2 * c
first-under run c t zero s lasting some least power none = omega arith
first-under run c t (suc k) s lasting some least power none = grind (arith, common_steps)

-- a horizon with an answer is not below the least one
least-under : (run : ℕ → Option (List ℕ)) (c t : ℕ) (s : List ℕ) → HasNoneBelow run c → 1 ≤ t → run t ≡ Some s → c ≤ t
least-under run c t s none some answer = grind (arith, common_steps)

coupled-agrees : (run : ℕ → Option (List ℕ)) (limit : ℕ) (c : Coupled) (o : Outcome) → IsLasting run → IsCoupled run limit c → IsOutcome run limit o → AgreesCoupled c o
coupled-agrees run limit (At h s) (Met t z) lasting least first =
    let some : 1 ≤ t = (let e = first.power in let p = pow-order 0 first.exponent (omega arith) in omega arith) in
    let under = least-under run h t z least.earlier some first.answer in
    (let found = lasting.each h t s under least.answer in let answer = first.answer in cc, under, first-under run h t first.exponent s lasting least.some least.answer first.power first.earlier)
coupled-agrees run limit (At h s) (NotMet l) lasting least first = grind (arith, common_steps)
coupled-agrees run limit (NotAt l) (Met t z) lasting least first =
    let e = first.power in
    let p = pow-order 0 first.exponent (omega arith) in
    let q = pow-order first.exponent limit first.within in
    let found = first.answer in
    let missed = least.1.each t (omega arith) (omega arith) in absurd cc
coupled-agrees run limit (NotAt l) (NotMet m) lasting least first = least.0 ∙ sym first.0

-- so the least coupling of a run whose answers last agrees with its outcome
pub coupled_within-agrees : (run : ℕ → Option (List ℕ)) (limit : ℕ) → IsLasting run → AgreesCoupled (coupled_within run limit) (outcome_within run limit)
coupled_within-agrees run limit lasting = grind (arith, common_steps, coupled-agrees, coupled_within-is, outcome_within-is)
