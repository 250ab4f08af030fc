-- State elimination: the weights that it finds balance, and their sum is not 0.
use Rattle.std.specs.Prelude.{◌≡◌, ℕ, zero, suc, ◌+◌, ◌*◌, ◌<◌, ◌≤◌, List, [], ◌∷◌, Bool, false, if◌then◌else◌}
use Rattle.std.specs.List.{sum_by}
use Rattle.std.proofs.Common.{rules, inl, inr, ap, sym, ◌∙◌, subst, arith}
use Rattle.std.proofs.lemmas.Bool.{cases_Bool}
use Rattle.std.proofs.lemmas.List.Sums.{sum_by-cons}
use Rattle.std.proofs.lemmas.Grind.{common_steps}
use Rattle.psi_state.specs.Members.{In}
use Rattle.psi_state.specs.Ascending.{IsDistinct}
use Rattle.psi_state.proofs.StatesLemmas.{same-from_eq}
use Rattle.psi_law.specs.Chains.{is_same}
use Rattle.psi_law.specs.Elimination.{Matrix, outflow, inflow, censored, first_weight, eliminated}
use Rattle.psi_law.proofs.SumsLemmas.{sum-times, sum_by-is, sum_by-same, sum_by-out, sum_by-member}
use Rattle.psi_law.proofs.ChainLemmas.{is_same-itself}

-- weights balance a matrix: each state's inflow is its weight times its outflow
pub record Balances (xs : List (List ℕ)) (q : Matrix) (weight : List ℕ → ℕ) : Type 0 where
  pub each : (y : List ℕ) → In y xs → inflow xs q weight y ≡ weight y * outflow xs q y

is_same-apart : (x y : List ℕ) → (x ≡ y → ⊥) → is_same x y ≡ false
is_same-apart x y apart = elim (cases_Bool (is_same x y)) [ inl so ↦ absurd (apart (same-from_eq x y so)) | inr not_so ↦ not_so ]

-- a state, the others, rates between all of them, weights of the others and one of the state
module _ (a : List ℕ) (rest : List (List ℕ)) (q : Matrix) (w : List ℕ → ℕ) (top : ℕ) where
  -- the weights of all of them: those of the others are multiplied by the outflow of the state
  abbrev restored : List ℕ → ℕ
  restored x = if is_same x a then top else (outflow rest q a * w x)

  restored-first : restored a ≡ top
  restored-first = ap (λ (b : Bool). if b then top else (outflow rest q a * w a)) (is_same-itself a)

  -- the censored rates, summed from and to the others
  censored-inflow : (y : List ℕ) → inflow rest (censored a rest q) w y ≡ outflow rest q a * inflow rest q w y + inflow rest q w a * q a y
  censored-inflow y =
      let out = outflow rest q a in
      let is = sum_by-is rest in
      let each = sum_by-same rest (λ x. w x * (out * q x y + q x a * q a y)) (λ x. out * (w x * q x y) + w x * q x a * q a y) (λ x member. omega arith) in
      let parts = is.more (λ x. out * (w x * q x y)) (λ x. w x * q x a * q a y) in
      let direct = sum-times (λ (g : List ℕ → ℕ). sum_by g rest) is out (λ x. w x * q x y) in
      let through = sum_by-out rest (λ x. w x * q x a) (q a y) in omega arith

  censored-outflow : (y : List ℕ) → outflow rest (censored a rest q) y ≡ outflow rest q a * (q y a + outflow rest q y)
  censored-outflow y =
      let out = outflow rest q a in
      let is = sum_by-is rest in
      let parts = is.more (λ z. out * q y z) (λ z. q y a * q a z) in
      let direct = sum-times (λ (g : List ℕ → ℕ). sum_by g rest) is out (λ z. q y z) in
      let through = sum-times (λ (g : List ℕ → ℕ). sum_by g rest) is (q y a) (λ z. q a z) in omega arith

  -- where the state is not one of the others
  module _ (alone : In a rest → ⊥) where
    restored-rest : (x : List ℕ) → In x rest → restored x ≡ outflow rest q a * w x
    restored-rest x member =
        ap (λ (b : Bool). if b then top else (outflow rest q a * w x)) (is_same-apart x a (λ same. alone (subst (λ (z : List ℕ). In z rest) same member)))

    restored-inflow : (y : List ℕ) → inflow (a ∷ rest) q restored y ≡ top * q a y + outflow rest q a * inflow rest q w y
    restored-inflow y =
        let out = outflow rest q a in
        let others = sum_by-same rest (λ x. restored x * q x y) (λ x. out * (w x * q x y)) (λ x member. rw (restored-rest x member) (omega arith)) in
        let scaled = sum-times (λ (g : List ℕ → ℕ). sum_by g rest) (sum_by-is rest) out (λ x. w x * q x y) in
        rw (sum_by-cons (λ x. restored x * q x y) a rest, restored-first) (omega arith)

    restored-sum : sum_by restored (a ∷ rest) ≡ top + outflow rest q a * sum_by w rest
    restored-sum =
        rw (sum_by-cons restored a rest, restored-first, sum_by-same rest restored (λ x. outflow rest q a * w x) restored-rest)
        (ap (λ n. top + n) (sum-times (λ (g : List ℕ → ℕ). sum_by g rest) (sum_by-is rest) (outflow rest q a) w))

    -- weights that balance the censored rates are restored to weights that balance all rates, if the state's own weight is right wherever it leads
    restored-balances : Balances rest (censored a rest q) w → top * outflow rest q a ≡ inflow rest q w a * outflow rest q a
        → ((y : List ℕ) → In y rest → top * q a y ≡ inflow rest q w a * q a y) → Balances (a ∷ rest) q restored
    restored-balances others own leads = record {
      each = λ y member. elim member [
        | inl here ↦
            (let led = restored-inflow a in
            let row : restored a * outflow (a ∷ rest) q a ≡ top * (q a a + outflow rest q a)
            = ap (λ n. n * outflow (a ∷ rest) q a) restored-first ∙ ap (λ n. top * n) (sum_by-cons (λ z. q a z) a rest) in
            subst (λ (z : List ℕ). inflow (a ∷ rest) q restored z ≡ restored z * outflow (a ∷ rest) q z) (sym here) (omega arith))
        | inr there ↦
            (let led = restored-inflow y in
            let row : restored y * outflow (a ∷ rest) q y ≡ outflow rest q a * w y * (q y a + outflow rest q y)
            = ap (λ n. n * outflow (a ∷ rest) q y) (restored-rest y there) ∙ ap (λ n. outflow rest q a * w y * n) (sum_by-cons (λ z. q y z) a rest) in
            let from = leads y there in
            let balance = others.each y there in
            let censored_in = censored-inflow y in
            let censored_out : w y * outflow rest (censored a rest q) y ≡ w y * (outflow rest q a * (q y a + outflow rest q y)) = ap (λ n. w y * n) (censored-outflow y) in
            omega arith)
      ];
    }

-- the weight of an eliminated state is right wherever it leads: where it has no outflow, it leads nowhere
first-times : (out inward part : ℕ) → part ≤ out → first_weight out inward * part ≡ inward * part
first-times out inward part under = grind (arith, common_steps)

pub eliminated-balances : (xs : List (List ℕ)) (q : Matrix) → IsDistinct xs → Balances xs q (eliminated xs q)
eliminated-balances [] q distinct = record { each = λ y member. absurd member }
eliminated-balances (a ∷ rest) q distinct =
    let w = eliminated rest (censored a rest q) in
    let out = outflow rest q a in
    let inward = inflow rest q w a in
    restored-balances a rest q w (first_weight out inward) distinct.0 (eliminated-balances rest (censored a rest q) distinct.1)
    (first-times out inward out (omega arith)) (λ y member. first-times out inward (q a y) (sum_by-member rest (λ z. q a z) y member))

-- where the others weigh something, so do all
first-some : (out inward sum : ℕ) → 0 < sum → 0 < first_weight out inward + out * sum
first-some zero inward sum some = omega arith
first-some (suc out) inward sum some = omega arith

pub eliminated-some : (a : List ℕ) (rest : List (List ℕ)) (q : Matrix) → IsDistinct (a ∷ rest) → 0 < sum_by (eliminated (a ∷ rest) q) (a ∷ rest)
eliminated-some a [] q distinct = search rules
eliminated-some a (b ∷ more) q distinct =
    let rest = b ∷ more in
    let w = eliminated rest (censored a rest q) in
    let out = outflow rest q a in
    let inward = inflow rest q w a in
    rw (restored-sum a rest q w (first_weight out inward) distinct.0) (first-some out inward (sum_by w rest) (eliminated-some b more (censored a rest q) distinct.1))
