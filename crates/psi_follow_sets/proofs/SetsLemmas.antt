-- A region whose states are few ends with the image of its states.
use Rattle.std.specs.Prelude.{◌≡◌, ℕ, ◌<◌, ◌≤◌, List, [], ◌∷◌, length, slice_index_or, true, Option, Some, None, refl}
use Rattle.std.proofs.Common.{ap, sym, ◌∙◌, subst, take, arith}
use Rattle.std.specs.Option.{MatchOption}
use Rattle.std.proofs.lemmas.Bool.{le-leb, lt-leb}
use Rattle.psi_state.specs.State.{Corners, box, zeros}
use Rattle.psi_state.specs.Sets.{image, single}
use Rattle.psi_state.specs.Hull.{corners, hull}
use Rattle.psi_state.specs.Ascending.{IsRising}
use Rattle.psi_state.proofs.AscendingLemmas.{box-rising, image-identity, image-image, image-agree}
use Rattle.psi_event.specs.Law.{Function}
use Rattle.psi_event.specs.Numbers.{follow_numbers}
use Rattle.psi_region.specs.Region.{Area, start, splits, step}
use Rattle.psi_region.proofs.RegionLemmas.{step-split, step-box}
use Rattle.psi_region.specs.Followed.{follow_areas, unsplit}

-- what is said of a value, where there is one
pub some-left : (o : Option ℕ) (n : ℕ) (P : Type 0) (Q : ℕ → Type 0) → o ≡ Some n → MatchOption o P Q → Q n
some-left o n P Q some is = subst (λ (p : Option ℕ). MatchOption p P Q) some is

-- a box of many states becomes the tight box around its image
pub step-unsplit : (split : ℕ) (f : Function) (b made : Corners) → split < length (box b.lo b.hi) → made ≡ corners (image f (box b.lo b.hi))
    → unsplit made ≡ step split f (unsplit b)
unfolding hull
step-unsplit split f b made many envelope =
    ap (λ (c : Corners). unsplit c) envelope ∙ sym (step-box split f (unsplit b) (lt-leb (length (box b.lo b.hi)) split many))

-- what is split or has few states stays split, and is the image
pub record IsImage (most : ℕ) (functions : List Function) (numbers : List ℕ) (a : Area) : Type 0 where
  pub split : splits most (follow_areas most functions numbers a) ≡ true
  pub states : (follow_areas most functions numbers a).states ≡ image (follow_numbers functions numbers) a.states

pub follow_areas-image : (split : ℕ) (functions : List Function) (numbers : List ℕ) (a : Area) → splits split a ≡ true → IsRising a.states
    → IsImage split functions numbers a
follow_areas-image split functions [] a few rising = record {
  split = few;
  states = sym (image-agree (follow_numbers functions []) (λ x. x) a.states (λ x member. refl) ∙ image-identity a.states rising);
}
follow_areas-image split functions (n ∷ numbers) a few rising =
    let rest = follow_areas-image split functions numbers a few rising in
    let f : Function = slice_index_or functions n (λ x. x) in
    let stepped = step-split split f (follow_areas split functions numbers a) rest.split in
    record {
      split = ap (λ (c : Area). splits split c) stepped;
      states = ap (λ (c : Area). c.states) stepped ∙ ap (λ (xs : List (List ℕ)). image f xs) rest.states
          ∙ image-image f (follow_numbers functions numbers) a.states
          ∙ image-agree (λ x. f (follow_numbers functions numbers x)) (follow_numbers functions (n ∷ numbers)) a.states (λ x member. refl);
    }

-- where the box that is left has few states, the run ends with what the numbers that are left make of them
pub few-ending : (split : ℕ) (functions : List Function) (numbers : List ℕ) (left : ℕ) (b whole : Corners) (caps : List ℕ) (o : Option (List ℕ))
    → whole ≡ record { lo = zeros caps; hi = caps } → length (box b.lo b.hi) ≤ split
    → follow_areas split functions (take left numbers) (unsplit b) ≡ follow_areas split functions numbers (unsplit whole)
    → o ≡ single (image (follow_numbers functions (take left numbers)) (box b.lo b.hi))
    → o ≡ single (follow_areas split functions numbers (start caps)).states
few-ending split functions numbers left b whole caps o begun few same one =
    let image = follow_areas-image split functions (take left numbers) (unsplit b) (le-leb (length (box b.lo b.hi)) split few) (box-rising b.lo b.hi) in
    one ∙ ap (λ (xs : List (List ℕ)). single xs) (sym image.states)
    ∙ ap (λ (a : Area). single a.states) (same ∙ ap (λ (c : Corners). follow_areas split functions numbers (unsplit c)) begun)

-- where the box that is left has many states, so does the region with which the run ends
pub many-ending : (split : ℕ) (functions : List Function) (numbers : List ℕ) (left : ℕ) (b : Corners) (caps : List ℕ) → 1 ≤ split → left ≡ 0 → split < length (box b.lo b.hi)
    → follow_areas split functions (take left numbers) (unsplit b) ≡ follow_areas split functions numbers (unsplit (record { lo = zeros caps; hi = caps }))
    → None ≡ single (follow_areas split functions numbers (start caps)).states
many-ending split functions numbers left b caps some none many same =
    let last : unsplit b ≡ follow_areas split functions numbers (start caps) = ap (λ n. follow_areas split functions (take n numbers) (unsplit b)) (sym none) ∙ same in
    sym (ap (λ (a : Area). single a.states) (sym last) ∙ single-many (box b.lo b.hi) (omega (arith, some, many)))
  where
    single-many : (xs : List (List ℕ)) → 1 < length xs → single xs ≡ None
    single-many [] many = absurd (omega arith)
    single-many (x ∷ []) many = absurd (omega arith)
    single-many (x ∷ y ∷ xs) many = refl
