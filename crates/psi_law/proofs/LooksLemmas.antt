-- Answers of runs look at the first words of a past alone.
use Rattle.std.specs.Prelude.{◌≡◌, ℕ, zero, suc, ◌+◌, ◌*◌, ◌^◌, ◌<◌, ◌≤◌, ℤ, List, Option, None, refl}
use Rattle.std.proofs.Common.{ap, sym, ◌∙◌, arith}
use Rattle.std.proofs.Math.Nat.{pow-zero}
use Rattle.std.proofs.lemmas.Grind.{common_steps}
use Rattle.psi_rate.specs.Composition.{Functions, function_at}
use Rattle.psi_rate.specs.Doubling.{answer_or, first_from, first_answer}
use Rattle.psi_rate.specs.Least.{least_from, least_answer}
use Rattle.psi_rate.specs.Outcomes.{outcome_of, outcome_within}
use Rattle.psi_rate.proofs.PowersLemmas.{pow-double, pow-order}
use Rattle.psi_couple.specs.Coupling.{coupled_of, coupled_within}
use Rattle.psi_couple.specs.Valuing.{valued_of, valued_within}
use Rattle.psi_law.specs.Counting.{Words}
use Rattle.psi_law.specs.Statements.{LooksAtFirst}

-- ---- runs with the same answers up to a horizon

first_from-same : {A : Type 0} (run other : ℕ → Option A) (more e t : ℕ) → t ≡ 2 ^ e → ((k : ℕ) → k ≤ e + more → run (2 ^ k) ≡ other (2 ^ k)) → first_from run more t ≡ first_from other more t
first_from-same run other zero e t power agree = ap (λ o. answer_or o t None) (ap run power ∙ (agree e (omega arith) ∙ ap other (sym power)))
first_from-same run other (suc more) e t power agree =
    let next : 2 * t ≡ 2 ^ suc e = (let d = pow-double e in omega arith) in
    ap (λ o. answer_or o t (first_from run more (2 * t))) (ap run power ∙ (agree e (omega arith) ∙ ap other (sym power)))
    ∙ ap (λ rest. answer_or (other t) t rest) (first_from-same run other more (suc e) (2 * t) next (λ k small. agree k (omega arith)))

first-same : {A : Type 0} (run other : ℕ → Option A) (limit : ℕ) → ((t : ℕ) → t ≤ 2 ^ limit → run t ≡ other t) → first_answer run limit ≡ first_answer other limit
unfolding first_answer
first-same run other limit agree = first_from-same run other limit 0 1 (sym (pow-zero 2)) (λ k small. agree (2 ^ k) (pow-order k limit (omega arith)))

least_from-same : {A : Type 0} (run other : ℕ → Option A) (more t most : ℕ) → more + t ≤ suc most → ((k : ℕ) → k ≤ most → run k ≡ other k) → least_from run more t ≡ least_from other more t
least_from-same run other zero t most within agree = refl
least_from-same run other (suc more) t most within agree = grind (arith, common_steps, (least_from-same run other more (suc t) most (omega arith) agree))

pub outcome-same : (run other : ℕ → Option (List ℕ)) (limit : ℕ) → ((t : ℕ) → t ≤ 2 ^ limit → run t ≡ other t) → outcome_within run limit ≡ outcome_within other limit
unfolding outcome_within
outcome-same run other limit agree = ap (λ found. outcome_of limit found) (first-same run other limit agree)

pub valued-same : (run other : ℕ → Option ℤ) (limit : ℕ) → ((t : ℕ) → t ≤ 2 ^ limit → run t ≡ other t) → valued_within run limit ≡ valued_within other limit
unfolding valued_within
valued-same run other limit agree = ap (λ found. valued_of limit found) (first-same run other limit agree)

pub coupled-same : (run other : ℕ → Option (List ℕ)) (limit : ℕ) → ((t : ℕ) → t ≤ 2 ^ limit → run t ≡ other t) → coupled_within run limit ≡ coupled_within other limit
unfolding coupled_within least_answer
coupled-same run other limit agree = ap (λ found. coupled_of limit found) (least_from-same run other (2 ^ limit) 1 (2 ^ limit) (omega arith) agree)

-- ---- pasts with the same words

pub function_at-same : (functions : List (List ℕ → List ℕ)) (rates : List ℕ) (past other : Words) (n : ℕ) → ((k : ℕ) → k < n → past k ≡ other k)
    → (k : ℕ) → k < n → function_at functions rates past (suc k) ≡ function_at functions rates other (suc k)
function_at-same functions rates past other n same k small = grind (arith, common_steps)

-- an answer that depends on the horizons up to n alone, of runs that look at the functions of their own steps alone, looks at the first n words alone
pub answers-look : {A B : Type 0} (functions : List (List ℕ → List ℕ)) (rates : List ℕ) (run : Functions → ℕ → Option A) (answer : (ℕ → Option A) → B) (n : ℕ)
    → ((f g : Functions) (t : ℕ) → ((k : ℕ) → k < t → f (suc k) ≡ g (suc k)) → run f t ≡ run g t)
    → ((first other : ℕ → Option A) → ((t : ℕ) → t ≤ n → first t ≡ other t) → answer first ≡ answer other)
    → LooksAtFirst (λ past. answer (run (function_at functions rates past))) n
answers-look functions rates run answer n looks depends = grind (arith, common_steps)
