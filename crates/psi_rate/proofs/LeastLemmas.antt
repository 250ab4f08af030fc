-- A run has one least horizon, and the search upwards from 1 finds it.
use Rattle.std.specs.Prelude.{◌≡◌, ℕ, zero, suc, ◌+◌, ◌≤◌, Option, Some, None, refl}
use Rattle.std.proofs.Common.{rules, sym, ◌∙◌, arith}
use Rattle.psi_rate.specs.Doubling.{answer_or}
use Rattle.psi_rate.proofs.DoublingLemmas.{told-only}
use Rattle.psi_rate.specs.Least.{least_from, least_answer, HasNoneBelow, IsLeast, TellsLeast}

pub has_none_below-next : {A : Type 0} (run : ℕ → Option A) (t : ℕ) → run t ≡ None → HasNoneBelow run t → HasNoneBelow run (suc t)
has_none_below-next run t none before = search rules

-- no horizon below the first one has an answer
pub has_none_below-one : {A : Type 0} (run : ℕ → Option A) → HasNoneBelow run 1
has_none_below-one run = record { each = λ k some small. absurd (omega arith) }

answer_or-tells_least : {A : Type 0} (run : ℕ → Option A) (most t : ℕ) (here : Option A) (rest : Option (ℕ × A)) → run t ≡ here → 1 ≤ t → t ≤ most
    → HasNoneBelow run t → (HasNoneBelow run (suc t) → TellsLeast run most rest) → TellsLeast run most (answer_or here t rest)
answer_or-tells_least run most t None rest is some within before later = later (has_none_below-next run t is before)
answer_or-tells_least run most t (Some a) rest is some within before later = record { some = some; within = within; answer = is; earlier = before }

pub least_from-tells : {A : Type 0} (run : ℕ → Option A) (more t most : ℕ) → suc most ≡ t + more → 1 ≤ t → HasNoneBelow run t
    → TellsLeast run most (least_from run more t)
least_from-tells run zero t most sum some before = search rules
least_from-tells run (suc more) t most sum some before =
    answer_or-tells_least run most t (run t) (least_from run more (suc t)) refl some (omega arith) before
    (λ none. least_from-tells run more (suc t) most (omega arith) (omega arith) none)

-- the least answer of a run is its answer at the least horizon, and where there is none, no horizon has one
pub least_answer-tells : {A : Type 0} (run : ℕ → Option A) (most : ℕ) → TellsLeast run most (least_answer run most)
unfolding least_answer
least_answer-tells run most = least_from-tells run most 1 most (omega arith) (omega arith) (has_none_below-one run)

tells_least-only : {A : Type 0} (run : ℕ → Option A) (most : ℕ) (found other : Option (ℕ × A)) → TellsLeast run most found → TellsLeast run most other → found ≡ other
tells_least-only run most = told-only (TellsLeast run most) (λ x none is. search rules) (λ x y is also. search rules)

-- the answer at the least horizon is the least answer
pub least_answer-found : {A : Type 0} (run : ℕ → Option A) (most t : ℕ) (a : A) → IsLeast run most t a → least_answer run most ≡ Some (t, a)
least_answer-found run most t a is = tells_least-only run most (least_answer run most) (Some (t, a)) (least_answer-tells run most) is

-- where no horizon has an answer, there is no least one
pub least_answer-none : {A : Type 0} (run : ℕ → Option A) (most : ℕ) → HasNoneBelow run (suc most) → least_answer run most ≡ None
least_answer-none run most none = tells_least-only run most (least_answer run most) None (least_answer-tells run most) none

-- runs that agree from horizon 1 on have the same least horizon
pub has_none_below-agree : {A : Type 0} (run other : ℕ → Option A) (t : ℕ) → ((k : ℕ) → 1 ≤ k → run k ≡ other k) → HasNoneBelow run t → HasNoneBelow other t
has_none_below-agree run other t agree none = record { each = λ k some small. sym (agree k some) ∙ none.each k some small }

pub is_least-agree : {A : Type 0} (run other : ℕ → Option A) (most t : ℕ) (a : A) → ((k : ℕ) → 1 ≤ k → run k ≡ other k) → IsLeast run most t a → IsLeast other most t a
is_least-agree run other most t a agree is = search rules
