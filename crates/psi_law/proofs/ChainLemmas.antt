-- What is true of the chain of every network, and its runs.
use Rattle.std.specs.Prelude.{◌≡◌, ℕ, zero, suc, ◌+◌, ◌-◌, ◌<◌, List, length, true, refl}
use Rattle.std.proofs.Common.{inl, inr, ap, sym, ◌∙◌, subst, arith}
use Rattle.std.proofs.lemmas.Bool.{cases_lt}
use Rattle.std.proofs.lemmas.List.{get_or_past}
use Rattle.std.proofs.lemmas.Grind.{common_steps}
use Rattle.psi_state.specs.Members.{In}
use Rattle.psi_state.proofs.StatesLemmas.{apart-from_eq}
use Rattle.psi_rate.specs.Rates.{event_of}
use Rattle.psi_rate.specs.Composition.{Functions, picked, function_at, compose, Keeps}
use Rattle.psi_rate.proofs.CompositionLemmas.{compose-keeps}
use Rattle.psi_law.specs.Counting.{Words}
use Rattle.psi_law.specs.Chains.{Chain, IsFinite, IsChain, function_of, is_same, end_of}

pub is_same-itself : (x : List ℕ) → is_same x x ≡ true
is_same-itself x = grind (arith, common_steps, apart-from_eq)

-- a state of the chain
abbrev pub Own : Chain → List ℕ → Type 0
Own chain x = In x chain.states

-- idle changes nothing
pub function_of-idle : (chain : Chain) → IsChain chain → function_of chain (length chain.rates) ≡ (λ x. x)
function_of-idle chain is = (let count = is.same_count in get_or_past chain.functions (length chain.rates) (λ x. x) (omega (arith, count)))

-- the function of every event, idle among them, keeps the states
pub function_of-keeps : (chain : Chain) (e : ℕ) → IsFinite chain → Keeps (Own chain) (function_of chain e)
function_of-keeps chain e is =
    elim (cases_lt e (length chain.functions)) [
      | inl small ↦ is.keeps e (λ x. x) small
      | inr past ↦ record {
        each = λ x member. subst (λ (f : List ℕ → List ℕ). Own chain (f x)) (sym (get_or_past chain.functions e (λ x. x) past)) member;
      }
    ]

-- and so does every run
pub end_of-keeps : (chain : Chain) (past : Words) (n : ℕ) (x : List ℕ) → IsFinite chain → Own chain x → Own chain (end_of chain past n x)
end_of-keeps chain past n x is member =
    compose-keeps (Own chain) (function_at chain.functions chain.rates past)
    (record { each = λ t. function_of-keeps chain (event_of chain.rates (past (t - 1))) is }) n x member

-- a composition looks at the functions of its own steps alone
pub compose-first : (f g : Functions) (t : ℕ) → ((k : ℕ) → k < t → f (suc k) ≡ g (suc k)) → compose f t ≡ compose g t
compose-first f g zero same = refl
compose-first f g (suc t) same =
    ap {B = List ℕ → List ℕ} (λ h x. h (f (suc t) x)) (compose-first f g t (λ k small. same k (omega arith)))
    ∙ ap {B = List ℕ → List ℕ} (λ h x. compose g t (h x)) (same t (omega arith))

-- its older steps come first
pub compose-append : (f : Functions) (n k : ℕ) (x : List ℕ) → compose f (n + k) x ≡ compose f n (compose (λ i. f (n + i)) k x)
compose-append f n zero x = (let e : n + zero ≡ n = omega arith in ap (λ m. compose f m x) e)
compose-append f n (suc k) x = grind (arith, common_steps, (compose-append f n k (f (suc (n + k)) x)))

-- the newest word comes after what the older ones made
pub end_of-first : (chain : Chain) (past : Words) (n : ℕ) (x : List ℕ)
    → end_of chain past (suc n) x ≡ picked chain.functions chain.rates (past 0) (end_of chain (λ k. past (suc k)) n x)
end_of-first chain past n x =
    let f = function_at chain.functions chain.rates past in
    let e : suc n ≡ 1 + n = omega arith in
    ap (λ m. compose f m x) e ∙ (compose-append f 1 n x ∙ ap {B = List ℕ} (λ h. f 1 (h x)) (compose-first (λ i. f (1 + i)) (function_at chain.functions chain.rates (λ k. past (suc k))) n
    (λ k small. (let d : 1 + suc k - 1 ≡ suc (suc k - 1) = omega arith in ap (λ i. picked chain.functions chain.rates (past i)) d))))
