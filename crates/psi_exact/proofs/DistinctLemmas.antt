-- Counting the different ranks of a table counts the states that it sends to.
use Rattle.std.specs.Prelude.{◌≡◌, ℕ, suc, ◌<◌, List, [], ◌∷◌, Bool, true, false, length, map, nat_eq, if◌then◌else◌, ◌||◌, refl}
use Rattle.std.proofs.Common.{inl, inr, ap, sym, ◌∙◌, arith}
use Rattle.std.proofs.lemmas.Bool.{cases_Bool, cases_eq, eq-eqb, eqb-true, false≢true}
use Rattle.std.proofs.lemmas.Grind.{common_steps}
use Rattle.psi_state.specs.State.{all_states}
use Rattle.psi_state.specs.Members.{In}
use Rattle.psi_state.proofs.MembersLemmas.{In-map, In-of_map}
use Rattle.psi_state.specs.Sets.{ascending, insert_state}
use Rattle.psi_state.proofs.SetsLemmas.{In-insert_state, In-of_insert_state, In-ascending, In-of_ascending}
use Rattle.psi_state.specs.Ascending.{IsRising}
use Rattle.psi_state.proofs.AscendingLemmas.{ascending-rising, insert_state-rising, rising-same, length-insert_state}
use Rattle.psi_exact.specs.Ranks.{state_at}
use Rattle.psi_exact.proofs.PlacesLemmas.{In-place, state_at-apart}
use Rattle.psi_exact.specs.Inner.RankTableKept.{AreRanks}
use Rattle.psi_exact.specs.Distinct.{stands, distinct_count}

-- a state that is there is none more
insert_state-there : (x : List ℕ) (ys : List (List ℕ)) → IsRising ys → In x ys → insert_state x ys ≡ ys
insert_state-there x ys rising member = grind (arith, common_steps, rising-same, insert_state-rising, In-of_insert_state, In-insert_state)

stands-In : (n : ℕ) (xs : List ℕ) → stands n xs ≡ true → In n xs
stands-In n [] is = absurd (false≢true is)
stands-In n (x ∷ xs) is =
    elim (cases_eq n x) [
      | inl e ↦ inl e
      | inr ne ↦ inr (stands-In n xs (rest (nat_eq n x) refl ne is))
    ]
  where
    rest : (b : Bool) → b ≡ nat_eq n x → (n ≡ x → ⊥) → (b || stands n xs) ≡ true → stands n xs ≡ true
    rest true same ne found = absurd (ne (eqb-true n x (sym same)))
    rest false same ne found = found

In-stands : (n : ℕ) (xs : List ℕ) → In n xs → stands n xs ≡ true
In-stands n [] member = absurd member
In-stands n (x ∷ xs) member =
    elim member [
      | inl e ↦ ap (λ b. b || stands n xs) (eq-eqb n x e)
      | inr rest ↦ last (nat_eq n x) (In-stands n xs rest)
    ]
  where
    last : (b : Bool) → stands n xs ≡ true → (b || stands n xs) ≡ true
    last true found = refl
    last false found = found

-- a rank that doesn't stand in the list has a state that none of the list has
state-away : (caps xs : List ℕ) (x : ℕ) → ((r : ℕ) → In r (x ∷ xs) → r < length (all_states caps)) → stands x xs ≡ false
    → In (state_at caps x) (map (state_at caps) xs) → ⊥
state-away caps xs x small absent member = grind (arith, common_steps, In-of_map, state_at-apart, In-stands, false≢true)

-- as many states as different ranks
pub length-distinct : (caps xs : List ℕ) → ((r : ℕ) → In r xs → r < length (all_states caps)) → length (ascending (map (state_at caps) xs)) ≡ distinct_count xs
length-distinct caps [] small = refl
length-distinct caps (x ∷ xs) small =
    let rest : length (ascending (map (state_at caps) xs)) ≡ distinct_count xs = length-distinct caps xs (λ r member. small r (inr member)) in
    elim (cases_Bool (stands x xs)) [
      | inl there ↦ ap (λ (ys : List (List ℕ)). length ys) (insert_state-there (state_at caps x) (ascending (map (state_at caps) xs)) (ascending-rising (map (state_at caps) xs))
          (In-ascending (state_at caps x) (map (state_at caps) xs) (In-map (state_at caps) x xs (stands-In x xs there))))
          ∙ (rest ∙ sym (ap (λ b. if b then distinct_count xs else suc (distinct_count xs)) there))
      | inr absent ↦ length-insert_state (state_at caps x) (ascending (map (state_at caps) xs))
          (λ found. state-away caps xs x small absent (In-of_ascending (state_at caps x) (map (state_at caps) xs) found))
          ∙ (ap suc rest ∙ sym (ap (λ b. if b then distinct_count xs else suc (distinct_count xs)) absent))
    ]

-- so is it for a table
pub length-ranks : (caps ranks : List ℕ) → AreRanks caps ranks → length (ascending (map (state_at caps) ranks)) ≡ distinct_count ranks
length-ranks caps ranks are =
    length-distinct caps ranks (λ r member.
    (let found = In-place r ranks 0 member in
    let whole = are.whole in
    let within = found.1 in
    let is = found.2 in
    let small = are.each found.0 (omega arith) in
    omega arith))
