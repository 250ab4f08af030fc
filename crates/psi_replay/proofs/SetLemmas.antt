-- The states of a region that is a set, and the search for one among them.
use Rattle.std.specs.Prelude.{◌≡◌, ℕ, zero, suc, ◌<◌, ◌≤◌, List, [], ◌∷◌, length, true, Option, Some, MatchOption, slice_get}
use Rattle.std.specs.declared.cmp.Ordering.TheVariants.{Less, Equal, Greater}
use Rattle.std.proofs.Common.{inl, inr, ap, sym, ◌∙◌, subst, arith}
use Rattle.std.proofs.lemmas.Bool.{cases_lt}
use Rattle.std.proofs.lemmas.Option.{slice_get_cases}
use Rattle.psi_state.specs.Sets.{state_cmp}
use Rattle.psi_state.proofs.SetsLemmas.{same-from_cmp}
use Rattle.psi_state.specs.Ascending.{IsRising}
use Rattle.psi_state.proofs.AscendingLemmas.{cmp-itself, cmp-never, cmp-back}
use Rattle.psi_log_format.specs.Log.{IsSet}
use Rattle.psi_log.proofs.ToldLemmas.{In-slice_get}
use Rattle.psi_replay.specs.Verdict.{has}
use Rattle.psi_replay.proofs.ListLemmas.{has_at}

-- an earlier state of an ascending list is below a later one
pub rising_places : (xs : List (List ℕ)) (j k : ℕ) (x y : List ℕ) → IsRising xs → slice_get xs j ≡ Some x → slice_get xs k ≡ Some y → j < k → state_cmp x y ≡ Less
rising_places [] j k x y rising first second less = absurd cc
rising_places (z ∷ zs) zero zero x y rising first second less = absurd (omega arith)
rising_places (z ∷ zs) zero (suc k) x y rising first second less =
    let e : z ≡ x = cc in
    subst (λ (w : List ℕ). state_cmp w y ≡ Less) e (rising.0 y (In-slice_get zs k y second))
rising_places (z ∷ zs) (suc j) zero x y rising first second less = absurd (omega arith)
rising_places (z ∷ zs) (suc j) (suc k) x y rising first second less = rising_places zs j k x y rising.1 first second (omega arith)

same_place : (xs : List (List ℕ)) (j k : ℕ) (x y : List ℕ) → slice_get xs j ≡ Some y → slice_get xs k ≡ Some x → k ≡ j → y ≡ x
same_place xs j k x y first second e =
    let there : slice_get xs j ≡ Some x = subst (λ (i : ℕ). slice_get xs i ≡ Some x) e second in
    cc

-- the state at a place is below x: x is after it, if anywhere
pub search_behind : (xs : List (List ℕ)) (j k : ℕ) (x y : List ℕ) → IsRising xs → slice_get xs j ≡ Some y → state_cmp y x ≡ Less → slice_get xs k ≡ Some x → j < k
search_behind xs j k x y rising first less second = elim (cases_lt j k) [
  | inl behind ↦ behind
  | inr past ↦ elim (cases_lt k j) [
    | inl before ↦ absurd (cmp-never y x less (rising_places xs k j x y rising second first before))
    | inr over ↦ (let e : y ≡ x = same_place xs j k x y first second (omega arith) in
        let tied : state_cmp x x ≡ Equal = cmp-itself x in
        let below : state_cmp x x ≡ Less = subst (λ (w : List ℕ). state_cmp w x ≡ Less) e less in
        absurd cc)
  ]
]

-- the state at a place is above x: x is before it, if anywhere
pub search_before : (xs : List (List ℕ)) (j k : ℕ) (x y : List ℕ) → IsRising xs → slice_get xs j ≡ Some y → state_cmp y x ≡ Greater → slice_get xs k ≡ Some x → k < j
search_before xs j k x y rising first greater second = search_behind xs k j y x rising second (cmp-back y x greater) first

-- the state at a place ties with x: it is x
pub search_found : (xs : List (List ℕ)) (j : ℕ) (x y : List ℕ) → slice_get xs j ≡ Some y → state_cmp y x ≡ Equal → has xs x ≡ true
search_found xs j x y first tied = has_at xs x j (first ∙ ap (λ (z : List ℕ). Some z) (same-from_cmp y x tied))

-- each state of a set has as many queues
pub place_long : (queues : ℕ) (xs : List (List ℕ)) (place : ℕ) → IsSet queues xs → place < length xs → MatchOption (slice_get xs place) ⊥ (λ (y : List ℕ). length y ≡ queues)
place_long queues xs place is within = elim (slice_get_cases xs place).1 [
  | inl found ↦ subst (λ (o : Option (List ℕ)). MatchOption o ⊥ (λ (y : List ℕ). length y ≡ queues)) (sym found.2) (is.each found.0 (In-slice_get xs place found.0 found.2)).count
  | inr past ↦ absurd (let over : length xs ≤ place = past.0 in omega arith)
]
