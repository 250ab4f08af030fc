-- Rows of ranks, one event's after another's.
use Rattle.std.specs.Prelude.{◌≡◌, ℕ, zero, suc, ◌+◌, ◌*◌, ◌<◌, ◌≤◌, List, [], ◌∷◌, ◌++◌, length, map, slice_index, slice_index_or, refl}
use Rattle.std.proofs.Common.{inl, inr, ap, sym, ◌∙◌, arith}
use Rattle.std.proofs.lemmas.Bool.{cases_lt}
use Rattle.std.proofs.lemmas.List.{get_or_append_left, get_or-append-add, length-append}
use Rattle.std.proofs.Math.Nat.{mul-le-mul_right}
use Rattle.psi_state.specs.State.{all_states}
use Rattle.psi_exact.specs.Ranks.{rank_of, state_at}
use Rattle.psi_exact.proofs.WalkLemmas.{IsNext}
use Rattle.psi_path_table.specs.Table.{AreRows}
use Rattle.psi_path_table.specs.Inner.FillingKept.{AreImagesAfter}

-- the rank of one state more
pub images-more : (caps : List ℕ) (f : List ℕ → List ℕ) (count place : ℕ) (x y : List ℕ) (rest : List (List ℕ)) (old new : List ℕ) → IsNext caps count x rest → y ≡ f x
    → place ≡ rank_of caps y → AreImagesAfter caps f count old new → AreImagesAfter caps f (count + 1) old (new ++ place ∷ [])
images-more caps f count place x y rest old new next made is done = record {
  sized = length-append new (place ∷ []) ∙ (let s = done.sized in omega arith);
  kept = λ i small. get_or_append_left new (place ∷ []) 0 i (let s = done.sized in omega arith) ∙ done.kept i small;
  each = λ r small. elim (cases_lt r count) [
    | inl less ↦ get_or_append_left new (place ∷ []) 0 (length old + r) (let s = done.sized in omega arith) ∙ done.each r less
    | inr more ↦ (let same : r ≡ count = omega arith in
        let last : length old + r ≡ length new + 0 = (let s = done.sized in omega arith) in
        ap (λ i. slice_index (new ++ place ∷ []) i) last ∙ get_or-append-add new (place ∷ []) 0 0
        ∙ is ∙ ap (λ (z : List ℕ). rank_of caps z) (made ∙ ap f (sym next.state)) ∙ ap (λ n. rank_of caps (f (state_at caps n))) (sym same))
  ];
}

pub images-none : (caps : List ℕ) (f : List ℕ → List ℕ) (old : List ℕ) → AreImagesAfter caps f 0 old old
images-none caps f old = record { sized = omega arith; kept = λ i small. refl; each = λ r small. absurd (omega arith) }

-- the row of one function more
pub rows-more : (caps : List ℕ) (functions : List (List ℕ → List ℕ)) (f : List ℕ → List ℕ) (count : ℕ) (old new : List ℕ) → f ≡ slice_index_or functions count (λ x. x)
    → AreRows caps functions count old → AreImagesAfter caps f (length (all_states caps)) old new → AreRows caps functions (count + 1) new
rows-more caps functions f count old new is rows images =
    let n = length (all_states caps) in
    let whole = rows.whole in
    record {
      whole = (let s = images.sized in omega arith);
      each = λ e r small within. elim (cases_lt e count) [
        | inl less ↦ (let order : suc e * n ≤ count * n = mul-le-mul_right n (omega arith) in
            images.kept (e * n + r) (omega arith) ∙ rows.each e r less within)
        | inr more ↦ (let same : e ≡ count = omega arith in
            let place : e * n + r ≡ length old + r = (let p : e * n ≡ count * n = ap (λ k. k * n) same in omega arith) in
            ap (λ i. slice_index new i) place ∙ images.each r within
            ∙ ap (λ (g : List ℕ → List ℕ). rank_of caps (g (state_at caps r))) is
            ∙ ap (λ k. rank_of caps (slice_index_or functions k (λ x. x) (state_at caps r))) (sym same))
      ];
    }

-- the function of an event, and that of idle
pub row-function : {E : Type 0} (function : E → List ℕ → List ℕ) (events : List E) (event : E) (k : ℕ) → event ≡ slice_index_or events k event → k < length events
    → function event ≡ slice_index_or (map function events) k (λ x. x)
row-function function [] event k is small = absurd (omega arith)
row-function function (e ∷ events) event zero is small = ap function is
row-function function (e ∷ events) event (suc k) is small = row-function function events event k is (omega arith)

pub last-function : {E : Type 0} (function : E → List ℕ → List ℕ) (events : List E) → (λ x. x) ≡ slice_index_or (map function events) (length events) (λ x. x)
last-function function [] = refl
last-function function (e ∷ events) = last-function function events
