-- The sizes of images, one after another.
use Rattle.std.specs.Prelude.{◌≡◌, ℕ, zero, suc, ◌+◌, ◌^◌, List, [], ◌∷◌, ◌++◌, length, refl}
use Rattle.std.proofs.Common.{ap, ◌∙◌, arith}
use Rattle.std.proofs.lemmas.List.{map-append, length-map}
use Rattle.std.proofs.lemmas.Grind.{common_steps}
use Rattle.psi_state.specs.State.{numbers_from}
use Rattle.psi_rate.specs.Composition.{image_at}
use Rattle.psi_exact.specs.Sizes.{sizes_before}

numbers_from-more : (first n : ℕ) → numbers_from first (suc n) ≡ numbers_from first n ++ (first + n) ∷ []
numbers_from-more first zero = (let e : first ≡ first + 0 = omega arith in ap (λ k. k ∷ []) e)
numbers_from-more first (suc n) =
    let e : suc first + n ≡ first + suc n = omega arith in
    ap (λ (xs : List ℕ). first ∷ xs) (numbers_from-more (suc first) n ∙ ap (λ k. numbers_from (suc first) n ++ k ∷ []) e)

length-numbers_from : (first n : ℕ) → length (numbers_from first n) ≡ n
length-numbers_from first zero = refl
length-numbers_from first (suc n) = ap suc (length-numbers_from (suc first) n)

-- the sizes go on with that of the next power of two
pub sizes-next : (f : ℕ → List ℕ → List ℕ) (caps : List ℕ) (n size : ℕ) → size ≡ length (image_at f caps (2 ^ n))
    → sizes_before f caps n ++ size ∷ [] ≡ sizes_before f caps (n + 1)
sizes-next f caps n size is = grind (arith, common_steps, numbers_from-more, map-append)

pub length-sizes : (f : ℕ → List ℕ → List ℕ) (caps : List ℕ) (n : ℕ) → length (sizes_before f caps n) ≡ n
length-sizes f caps n = length-map (numbers_from 0 n) (λ k. length (image_at f caps (2 ^ k))) ∙ length-numbers_from 0 n
