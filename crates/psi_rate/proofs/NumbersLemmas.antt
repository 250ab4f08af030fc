-- The numbers that are kept are those of the places, and how many there are.
use Rattle.std.specs.Prelude.{◌≡◌, ℕ, zero, suc, ◌-◌, ◌+◌, ◌<◌, ◌≤◌, List, [], ◌∷◌, ◌++◌, length, slice_index, slice_index_or, ◌⊎◌, All, Bool, true, false, nat_lt, if◌then◌else◌}
use Rattle.std.proofs.Common.{rules, inl, inr, ap, ap₂, sym, ◌∙◌, subst, take, arith}
use Rattle.std.proofs.lemmas.Bool.{cases_lt, lt-ltb, le-ltb, ltb-true}
use Rattle.std.proofs.lemmas.List.{length-append, append_assoc, append-nil, take-append-le, get_or_past}
use Rattle.std.proofs.lemmas.List.Elements.{All-nil, All-cons, All-append}
use Rattle.std.proofs.lemmas.Grind.{common_steps}
use Rattle.psi_past.specs.Filled.{AreWordsFrom}
use Rattle.psi_rate.specs.Rates.{event_of}
use Rattle.psi_rate.specs.Composition.{function_at, picked}
use Rattle.psi_rate.specs.declared.numbers.EventNumbers.{EventNumbers}
use Rattle.psi_rate.specs.Numbers.{unless_idle, numbers_below}
use Rattle.psi_rate.specs.Keeping.{KeepsNumbers}

-- there is at most one number for each place
one_if-length : (b : Bool) (n : ℕ) → length (if b then n ∷ [] else []) ≤ 1
one_if-length true n = omega arith
one_if-length false n = omega arith

pub numbers-length : (rates : List ℕ) (words : ℕ → ℕ) (t : ℕ) → length (numbers_below rates words t) ≤ t
numbers-length rates words zero = omega arith
numbers-length rates words (suc t) = grind (arith, common_steps, one_if-length, length-append, (numbers-length rates words t))

-- the numbers of a list of words stand after those of the places before it
numbers-behind : (rates : List ℕ) (words : ℕ → ℕ) (first n : ℕ) (drawn : List ℕ) → ((i : ℕ) → i < n → slice_index drawn i ≡ words (first + i))
    → numbers_below rates words first ++ numbers_below rates (slice_index drawn) n ≡ numbers_below rates words (first + n)
numbers-behind rates words first zero drawn are = search rules
numbers-behind rates words first (suc n) drawn are =
    let e : suc (first + n) ≡ first + suc n = omega arith in
    let last = unless_idle (length rates) (event_of rates (slice_index drawn n)) in
    sym (append_assoc (numbers_below rates words first) (numbers_below rates (slice_index drawn) n) last)
    ∙ ap₂ (λ (ns : List ℕ) w. ns ++ unless_idle (length rates) (event_of rates w))
    (numbers-behind rates words first n drawn (λ i small. are i (omega arith))) (are n (omega arith))
    ∙ ap (numbers_below rates words) e

pub numbers-window : (rates : List ℕ) (words : ℕ → ℕ) (first end count : ℕ) (drawn numbers : List ℕ) → first ≤ end → length drawn ≡ end - first
    → AreWordsFrom words first drawn → take count numbers ≡ numbers_below rates (slice_index drawn) (length drawn)
    → numbers_below rates words first ++ take count numbers ≡ numbers_below rates words end
numbers-window rates words first end count drawn numbers order long are picked = grind (arith, common_steps, numbers-behind)

-- the numbers of a window fit where there is room for those of the places up to its end
pub window-room : (rates : List ℕ) (words : ℕ → ℕ) (first end : ℕ) (list more : List ℕ) → list ≡ numbers_below rates words first
    → numbers_below rates words first ++ more ≡ numbers_below rates words end → length list + length more ≤ end
window-room rates words first end list more kept are =
    let sum = length-append list more in
    let all : length (list ++ more) ≡ length (numbers_below rates words end) = ap (λ (ns : List ℕ). length (ns ++ more)) kept ∙ ap (λ (ns : List ℕ). length ns) are in
    let few = numbers-length rates words end in
    omega arith

-- each number is an event's
one_if-all : (b : Bool) (n count : ℕ) → nat_lt n count ≡ b → All (λ k. k < count) (if b then n ∷ [] else [])
one_if-all true n count is = All-cons (λ k. k < count) n [] (ltb-true n count is) (All-nil (λ k. k < count))
one_if-all false n count is = All-nil (λ k. k < count)

pub numbers-all : (rates : List ℕ) (words : ℕ → ℕ) (t : ℕ) → All (λ k. k < length rates) (numbers_below rates words t)
numbers-all rates words zero = All-nil (λ k. k < length rates)
numbers-all rates words (suc t) = grind (arith, common_steps, All-append, one_if-all, (numbers-all rates words t))

-- the numbers of fewer places are the first of those of more
numbers-more : (rates : List ℕ) (words : ℕ → ℕ) (t more : ℕ) → length (numbers_below rates words t) ≤ length (numbers_below rates words (more + t))
numbers-more rates words t zero = (let e : 0 + t ≡ t = omega arith in subst (λ n. length (numbers_below rates words t) ≤ length (numbers_below rates words n)) (sym e) (omega arith))
numbers-more rates words t (suc more) =
    let e : suc more + t ≡ suc (more + t) = omega arith in
    let rest = numbers-more rates words t more in
    let sum = length-append (numbers_below rates words (more + t)) (unless_idle (length rates) (event_of rates (words (more + t)))) in
    subst (λ n. length (numbers_below rates words t) ≤ length (numbers_below rates words n)) (sym e) (omega arith)

pub numbers-take : (rates : List ℕ) (words : ℕ → ℕ) (t more : ℕ)
    → take (length (numbers_below rates words t)) (numbers_below rates words (more + t)) ≡ numbers_below rates words t
numbers-take rates words t zero = grind (arith, common_steps)
numbers-take rates words t (suc more) =
    let e : suc more + t ≡ suc (more + t) = omega arith in
    let few = numbers-more rates words t more in
    ap (λ n. take (length (numbers_below rates words t)) (numbers_below rates words n)) e
    ∙ take-append-le (length (numbers_below rates words t)) (numbers_below rates words (more + t)) (unless_idle (length rates) (event_of rates (words (more + t)))) few
    ∙ numbers-take rates words t more

pub numbers-prefix : (rates : List ℕ) (words : ℕ → ℕ) (horizon reached count : ℕ) (items : List ℕ) → horizon ≤ reached → items ≡ numbers_below rates words reached
    → count ≡ length (numbers_below rates words horizon) → take count items ≡ numbers_below rates words horizon
numbers-prefix rates words horizon reached count items order kept counted =
    let e : reached ≡ (reached - horizon) + horizon = omega arith in
    ap₂ (λ n (ns : List ℕ). take n ns) counted (kept ∙ ap (numbers_below rates words) e) ∙ numbers-take rates words horizon (reached - horizon)

-- numbers with room for more places have room for fewer
pub keeps-fewer : (rates : List ℕ) (words : ℕ → ℕ) (most few : ℕ) (numbers : EventNumbers) → KeepsNumbers rates words most numbers → few ≤ most → KeepsNumbers rates words few numbers
keeps-fewer rates words most few numbers keeps less = search rules

-- the number of a place stands after those before it, and the function is that of the number; or the place is idle: it has no number, and its function changes nothing
pub numbers-next : (functions : List (List ℕ → List ℕ)) (rates : List ℕ) (words : ℕ → ℕ) (t : ℕ) → length rates ≡ length functions
    → ((numbers_below rates words (suc t) ≡ numbers_below rates words t ++ event_of rates (words t) ∷ [])
    × (function_at functions rates words (suc t) ≡ slice_index_or functions (event_of rates (words t)) (λ x. x)))
    ⊎ ((numbers_below rates words (suc t) ≡ numbers_below rates words t) × (function_at functions rates words (suc t) ≡ (λ x. x)))
numbers-next functions rates words t same =
    let number = event_of rates (words t) in
    let before = numbers_below rates words t in
    let place : suc t - 1 ≡ t = omega arith in
    let now : function_at functions rates words (suc t) ≡ slice_index_or functions number (λ x. x) = ap (λ n. picked functions rates (words n)) place in
    elim (cases_lt number (length rates)) [
      | inl small ↦ inl (ap (λ (b : Bool). before ++ (if b then number ∷ [] else [])) (lt-ltb number (length rates) small), now)
      | inr past ↦ inr (
        ap (λ (b : Bool). before ++ (if b then number ∷ [] else [])) (le-ltb number (length rates) past) ∙ append-nil before,
        now ∙ get_or_past functions number (λ x. x) (omega (arith, same, past)),
      )
    ]
