-- A run over the numbers of the events, without those that are idle, is the closed run over all places.
use Rattle.std.specs.Prelude.{◌≡◌, ℕ, zero, suc, ◌-◌, ◌≤◌, ◌<◌, List, [], ◌∷◌, ◌++◌, length, slice_index, slice_index_or, map, refl}
use Rattle.std.proofs.Common.{inl, inr, ap, sym, ◌∙◌, take, arith}
use Rattle.std.proofs.Math.Seq.{take-suc}
use Rattle.std.proofs.lemmas.Grind.{common_steps}
use Rattle.psi_state.specs.Sets.{image, single}
use Rattle.psi_kinds.specs.declared.moves.Move.{Move}
use Rattle.psi_kinds.specs.Moves.{moved}
use Rattle.psi_rate.specs.Rates.{event_of}
use Rattle.psi_rate.specs.Composition.{function_at}
use Rattle.psi_rate.specs.Numbers.{numbers_below}
use Rattle.psi_rate.proofs.NumbersLemmas.{numbers-next}
use Rattle.psi_closed.specs.Closed.{total_states, arc_hull, IsHull, closed_after, closed_ending, follow_closed}
use Rattle.psi_closed.proofs.HullLemmas.{total-hull, hull-hull, hull-rests}
use Rattle.psi_closed.proofs.RunsLemmas.{run-begins}

module _ (caps : List ℕ) (k : ℕ) (functions : List (List ℕ → List ℕ)) where
  follow_closed-append : (ns ms : List ℕ) (xs : List (List ℕ)) → follow_closed caps k functions (ns ++ ms) xs ≡ follow_closed caps k functions ns (follow_closed caps k functions ms xs)
  follow_closed-append [] ms xs = refl
  follow_closed-append (n ∷ ns) ms xs = grind (arith, common_steps, (follow_closed-append ns ms xs))

  -- the step of one number takes it off the end
  pub follow_closed-take : (numbers : List ℕ) (i : ℕ) (old new end : List (List ℕ)) → 1 ≤ i → i ≤ length numbers
      → new ≡ arc_hull caps k (image (slice_index_or functions (slice_index numbers (i - 1)) (λ x. x)) old) → follow_closed caps k functions (take i numbers) old ≡ end
      → follow_closed caps k functions (take (i - 1) numbers) new ≡ end
  follow_closed-take numbers i old new end some within stepped is = grind (arith, common_steps, take-suc, follow_closed-append)

  -- an idle step changes nothing
  numbers-after : (rates : List ℕ) (words : ℕ → ℕ) (t : ℕ) (xs : List (List ℕ)) → length rates ≡ length functions → IsHull caps k xs
      → follow_closed caps k functions (numbers_below rates words t) xs ≡ closed_after caps k (function_at functions rates words) t xs
  numbers-after rates words zero xs same hull = refl
  numbers-after rates words (suc t) xs same hull =
      let f = function_at functions rates words in
      let before = numbers_below rates words t in
      elim (numbers-next functions rates words t same) [
        | inl taken ↦ ap (λ (ns : List ℕ). follow_closed caps k functions ns xs) taken.0
            ∙ follow_closed-append before (event_of rates (words t) ∷ []) xs
            ∙ ap (λ (g : List ℕ → List ℕ). follow_closed caps k functions before (arc_hull caps k (image g xs))) (sym taken.1)
            ∙ numbers-after rates words t (arc_hull caps k (image (f (suc t)) xs)) same (hull-hull caps k (image (f (suc t)) xs))
        | inr idle ↦ ap (λ (ns : List ℕ). follow_closed caps k functions ns xs) idle.0
            ∙ numbers-after rates words t xs same hull
            ∙ ap (λ (ys : List (List ℕ)). closed_after caps k f t ys) (sym (ap (λ (g : List ℕ → List ℕ). arc_hull caps k (image g xs)) idle.1 ∙ hull-rests caps k xs hull))
      ]

  -- so it ends with one state exactly where that run does
  pub numbers-ending : (rates : List ℕ) (words : ℕ → ℕ) (t : ℕ) (numbers : List ℕ) → length rates ≡ length functions → numbers ≡ numbers_below rates words t
      → single (follow_closed caps k functions numbers (total_states caps k)) ≡ closed_ending caps k (function_at functions rates words) t
  numbers-ending rates words t numbers same is = grind (arith, common_steps, numbers-after, total-hull, run-begins)

-- a step by a move is one by the function of its number
pub step-is : (caps room : List ℕ) (k total : ℕ) (moves : List Move) (n : ℕ) (d : Move) (old new : List (List ℕ)) → n < length moves → room ≡ caps → total ≡ k
    → new ≡ arc_hull room total (image (moved room (slice_index_or moves n d)) old)
    → new ≡ arc_hull caps k (image (slice_index_or (map (λ m. moved caps m) moves) n (λ x. x)) old)
step-is caps room k total moves n d old new small first second stepped = grind (arith, common_steps)
