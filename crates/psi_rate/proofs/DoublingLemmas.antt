-- What the doubling of horizons finds, for a run of any kind and an answer of any type.
use Rattle.std.specs.Prelude.{◌≡◌, ℕ, zero, suc, ◌+◌, ◌*◌, ◌^◌, ◌%◌, ◌<◌, ◌≤◌, Option, Some, None, refl}
use Rattle.std.proofs.Common.{rules, ap, sym, ◌∙◌, subst, arith}
use Rattle.std.proofs.Math.Pow.{pow-lt}
use Rattle.std.proofs.lemmas.Grind.{common_steps}
use Rattle.psi_rate.specs.Doubling.{answer_or, first_from, first_answer, HasNone, IsFirst, IsLasting, TellsFirst}
use Rattle.psi_rate.proofs.PowersLemmas.{pow-double, pow-order}

pub has_none-next : {A : Type 0} (run : ℕ → Option A) (k t : ℕ) → t ≡ 2 ^ k → run t ≡ None → HasNone run k → HasNone run (suc k)
has_none-next run k t power none before = search rules

-- the first answer of several stands at one place, and is one
pub first-only : {A : Type 0} (answers : ℕ → Option A) (i j : ℕ) (a b : A) → answers i ≡ Some a → answers j ≡ Some b
    → (i < j → answers i ≡ None) → (j < i → answers j ≡ None) → (i ≡ j) × (a ≡ b)
first-only answers i j a b one other before earlier = search rules

-- runs that agree from horizon 1 on have the same answers
pub has_none-agree : {A : Type 0} (run other : ℕ → Option A) (exponent : ℕ) → ((t : ℕ) → 1 ≤ t → run t ≡ other t) → HasNone run exponent → HasNone other exponent
has_none-agree run other exponent agree none = search rules

pub is_first-agree : {A : Type 0} (run other : ℕ → Option A) (limit t : ℕ) (a : A) → ((t : ℕ) → 1 ≤ t → run t ≡ other t) → IsFirst run limit t a → IsFirst other limit t a
is_first-agree run other limit t a agree is = search rules

answer_or-tells : {A : Type 0} (run : ℕ → Option A) (limit k t : ℕ) (here : Option A) (rest : Option (ℕ × A)) → run t ≡ here → t ≡ 2 ^ k → k ≤ limit
    → HasNone run k → (HasNone run (suc k) → TellsFirst run limit rest) → TellsFirst run limit (answer_or here t rest)
answer_or-tells run limit k t None rest is power within before later = later (has_none-next run k t power is before)
answer_or-tells run limit k t (Some a) rest is power within before later = search rules

pub first_from-tells : {A : Type 0} (run : ℕ → Option A) (more k t limit : ℕ) → limit ≡ k + more → t ≡ 2 ^ k → HasNone run k
    → TellsFirst run limit (first_from run more t)
first_from-tells run zero k t limit sum power before = search rules
first_from-tells run (suc more) k t limit sum power before =
    answer_or-tells run limit k t (run t) (first_from run more (2 * t)) refl power (omega arith) before
    (λ none. (let next : 2 * t ≡ 2 ^ suc k = (let d = pow-double k in omega arith) in
    first_from-tells run more (suc k) (2 * t) limit (omega arith) next none))

-- the first answer of a run is that at the least power of two that has one, and where there is none, none of them has one
pub first_answer-tells : {A : Type 0} (run : ℕ → Option A) (limit : ℕ) → TellsFirst run limit (first_answer run limit)
unfolding first_answer
first_answer-tells run limit = first_from-tells run limit 0 1 limit (omega arith) refl (record { each = λ k small. absurd (omega arith) })

-- options of which the same is told are one, where it isn't told of none and of a value, and of two values only where they are one
pub told-only : {B : Type 0} (Told : Option B → Type 0) → ((x : B) → Told None → Told (Some x) → ⊥) → ((x y : B) → Told (Some x) → Told (Some y) → x ≡ y)
    → (found other : Option B) → Told found → Told other → found ≡ other
told-only Told apart same None None tells also = refl
told-only Told apart same None (Some y) tells also = absurd (apart y tells also)
told-only Told apart same (Some x) None tells also = absurd (apart x also tells)
told-only Told apart same (Some x) (Some y) tells also = ap Some (same x y tells also)

tells_first-only : {A : Type 0} (run : ℕ → Option A) (limit : ℕ) (found other : Option (ℕ × A)) → TellsFirst run limit found → TellsFirst run limit other → found ≡ other
tells_first-only run limit = told-only (TellsFirst run limit) (λ x none is. search rules) (λ x y is also. search rules)

-- the least one is the first answer
pub first_answer-found : {A : Type 0} (run : ℕ → Option A) (limit t : ℕ) (a : A) → IsFirst run limit t a → first_answer run limit ≡ Some (t, a)
first_answer-found run limit t a is = tells_first-only run limit (first_answer run limit) (Some (t, a)) (first_answer-tells run limit) is

-- where no power of two has an answer, there is no first
pub first_answer-none : {A : Type 0} (run : ℕ → Option A) (limit : ℕ) → HasNone run (suc limit) → first_answer run limit ≡ None
first_answer-none run limit none = tells_first-only run limit (first_answer run limit) None (first_answer-tells run limit) none

-- a shift of 1 within the greatest limit is a power of two
pub shift-power : (exponent : ℕ) → exponent ≤ 22 → 1 * 2 ^ exponent % 4294967296 ≡ 2 ^ exponent
shift-power exponent small = (let less : 2 ^ exponent < 2 ^ 32 = pow-lt {i = exponent} {j = 32} (omega arith) in omega arith)

pub shift-room : (exponent limit room : ℕ) → exponent ≤ limit → limit ≤ 22 → 2 ^ limit ≤ room → 1 * 2 ^ exponent % 4294967296 ≤ room
shift-room exponent limit room order small enough = grind (arith, common_steps, shift-power, pow-order)

-- the first horizon at which the run has an answer
pub first-found : {A : Type 0} (run : ℕ → Option A) (limit exponent : ℕ) (a : A) → exponent ≤ limit → limit ≤ 22 → HasNone run exponent
    → Some a ≡ run (1 * 2 ^ exponent % 4294967296) → IsFirst run limit (1 * 2 ^ exponent % 4294967296) a
first-found run limit exponent a order small earlier found = search rules

-- where answers last and a horizon has none, no smaller one has
none-where : {A : Type 0} (run : ℕ → Option A) (t later : ℕ) (o : Option A) → IsLasting run → t ≤ later → run later ≡ None → run t ≡ o → o ≡ None
none-where run t later None lasting order none is = refl
none-where run t later (Some a) lasting order none is = (let found = lasting.each t later a order is in absurd cc)

pub lasting-none : {A : Type 0} (run : ℕ → Option A) (t later : ℕ) → IsLasting run → t ≤ later → run later ≡ None → run t ≡ None
lasting-none run t later lasting order none = none-where run t later (run t) lasting order none refl

pub lasting-has_none : {A : Type 0} (run : ℕ → Option A) (exponent : ℕ) → IsLasting run → run (2 ^ exponent) ≡ None → HasNone run (suc exponent)
lasting-has_none run exponent lasting none = grind (arith, common_steps, lasting-none, pow-order)

-- where answers last, the first answer is above a horizon without one
pub none-lasting : {A : Type 0} (run : ℕ → Option A) (exponent : ℕ) → exponent ≤ 22 → IsLasting run → None ≡ run (1 * 2 ^ exponent % 4294967296)
    → HasNone run (exponent + 1)
none-lasting run exponent small lasting none =
    (let e : suc exponent ≡ exponent + 1 = omega arith in
    subst (λ n. HasNone run n) e (lasting-has_none run exponent lasting (ap run (sym (shift-power exponent small)) ∙ sym none)))
