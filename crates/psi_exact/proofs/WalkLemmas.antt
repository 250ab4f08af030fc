-- The states of the capacities one after another, with the ranks of what a function makes of them.
use Rattle.std.specs.Prelude.{◌≡◌, ℕ, suc, ◌+◌, ◌-◌, ◌<◌, ◌≤◌, List, [], ◌∷◌, length, drop, slice_get, slice_index, slice_index_or, slice_set, Some}
use Rattle.std.proofs.Common.{inl, inr, ap, sym, ◌∙◌, subst, arith}
use Rattle.std.proofs.lemmas.Bool.{cases_lt}
use Rattle.std.proofs.lemmas.List.{get_or-set_same, get_or-set_other, length-drop}
use Rattle.std.proofs.Math.Seq.{drop-cons}
use Rattle.std.proofs.Math.ListN.{drop_of_length-le}
use Rattle.std.proofs.lemmas.Grind.{common_steps}
use Rattle.psi_state.specs.State.{Corners, IsBelow, zeros, box, all_states}
use Rattle.psi_state.specs.Members.{In}
use Rattle.psi_state.proofs.BoxesLemmas.{In-all_states}
use Rattle.psi_exact.specs.Ranks.{rank_of, state_at}
use Rattle.psi_exact.proofs.PlacesLemmas.{state_at-below, IsRank, is_rank-from_get}

-- the box of all states
abbrev pub whole : List ℕ → Corners
whole caps = record { lo = zeros caps; hi = caps }

-- a state within the capacities is in the box of all states
pub In-whole : (caps own x : List ℕ) (b : Corners) → b ≡ whole own → own ≡ caps → IsBelow x caps → In x (box b.lo b.hi)
In-whole caps own x b is same within =
    subst (λ (c : Corners). In x (box c.lo c.hi)) (sym (is ∙ ap (λ (ys : List ℕ). whole ys) same)) (In-all_states caps x within)

-- a place in that box is a rank
pub rank-whole : (caps own x : List ℕ) (b : Corners) (r : ℕ) → b ≡ whole own → own ≡ caps → slice_get (box b.lo b.hi) r ≡ Some x → IsRank caps x r
rank-whole caps own x b r is same place =
    is_rank-from_get caps x r (subst (λ (c : Corners). slice_get (box c.lo c.hi) r ≡ Some x) (is ∙ ap (λ (ys : List ℕ). whole ys) same) place)

-- the state of a rank comes next, and the others after it
pub record IsNext (caps : List ℕ) (r : ℕ) (x : List ℕ) (rest : List (List ℕ)) : Type 0 where
  pub small : r < length (all_states caps)
  pub state : state_at caps r ≡ x
  pub within : IsBelow x caps
  pub left : rest ≡ drop (r + 1) (all_states caps)

pub next-left : (caps : List ℕ) (r : ℕ) (x : List ℕ) (whole rest : List (List ℕ)) → whole ≡ drop r (all_states caps) → whole ≡ x ∷ rest → IsNext caps r x rest
unfolding state_at
next-left caps r x whole rest is step =
    elim (cases_lt r (length (all_states caps))) [
      | inl small ↦ (let cons : drop r (all_states caps) ≡ slice_index_or (all_states caps) r [] ∷ drop (suc r) (all_states caps) = drop-cons (all_states caps) r [] small in
          let state : state_at caps r ≡ x = cc in
          let next : suc r ≡ r + 1 = omega arith in
          let tail : rest ≡ drop (suc r) (all_states caps) = cc in
          record {
            small = small;
            state = state;
            within = subst (λ (y : List ℕ). IsBelow y caps) state (state_at-below caps r small);
            left = tail ∙ ap (λ n. drop n (all_states caps)) next;
          })
      | inr past ↦ (let none : drop r (all_states caps) ≡ [] = drop_of_length-le (all_states caps) past in absurd cc)
    ]

-- no state is left
pub none-left : (caps : List ℕ) (r : ℕ) (whole : List (List ℕ)) → whole ≡ drop r (all_states caps) → whole ≡ [] → length (all_states caps) ≤ r
none-left caps r whole is none =
    let count : length (drop r (all_states caps)) ≡ length (all_states caps) - r = length-drop r (all_states caps) in
    let empty : length (drop r (all_states caps)) ≡ 0 = ap (λ (xs : List (List ℕ)). length xs) (sym is ∙ none) in
    omega arith

-- the ranks of the images go on with that of the next state
pub images-next : (caps : List ℕ) (f : List ℕ → List ℕ) (ranks : List ℕ) (r place : ℕ) (x y : List ℕ) (rest : List (List ℕ)) → IsNext caps r x rest → y ≡ f x
    → place ≡ rank_of caps y → length ranks ≡ length (all_states caps) → ((k : ℕ) → k < r → slice_index ranks k ≡ rank_of caps (f (state_at caps k)))
    → (k : ℕ) → k < r + 1 → slice_index (slice_set ranks r place) k ≡ rank_of caps (f (state_at caps k))
images-next caps f ranks r place x y rest next made is room done k small = grind (arith, common_steps, get_or-set_other, get_or-set_same)
