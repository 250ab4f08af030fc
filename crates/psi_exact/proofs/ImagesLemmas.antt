-- The ranks of images that are learned one event after another.
use Rattle.std.specs.Prelude.{◌≡◌, ℕ, ◌+◌, ◌-◌, ◌*◌, ◌<◌, ◌≤◌, List, ◌++◌, length, map, take, drop, slice_get, slice_range, slice_index_or, Option, Some}
use Rattle.std.proofs.Common.{inl, inr, ap, sym, ◌∙◌, subst, arith}
use Rattle.std.specs.Option.{option_map}
use Rattle.std.proofs.lemmas.Bool.{cases_lt}
use Rattle.std.proofs.lemmas.Option.{get_or_from_slice_get, slice_get-map}
use Rattle.std.proofs.lemmas.List.{drop-append-le, take-append-le, length-drop}
use Rattle.std.proofs.Math.Seq.{drop-append_seam, take-length}
use Rattle.std.proofs.Math.Nat.{mul-le-mul_right}
use Rattle.std.proofs.lemmas.Grind.{common_steps}
use Rattle.psi_state.specs.State.{all_states}
use Rattle.psi_exact.specs.Ranks.{AreRanksOf}
use Rattle.psi_exact.specs.declared.learned.LearnedImages.{LearnedImages}
use Rattle.psi_exact.specs.Inner.ImagesKept.{images_at, AreImages, AreLearned, IsSameImages, IsOneMore}

-- a stretch of a list is the same where more comes after the list
range-front : (xs ys : List ℕ) (a n : ℕ) → a + n ≤ length xs → slice_range (xs ++ ys) a (a + n) ≡ slice_range xs a (a + n)
range-front xs ys a n within =
    ap (λ (zs : List ℕ). take (a + n - a) zs) (drop-append-le a xs ys (omega arith))
    ∙ take-append-le (a + n - a) (drop a xs) ys (let long : length (drop a xs) ≡ length xs - a = length-drop a xs in omega arith)

-- and what comes after is the stretch from its end on
range-behind : (xs ys : List ℕ) (a n : ℕ) → a ≡ length xs → n ≡ length ys → slice_range (xs ++ ys) a (a + n) ≡ ys
range-behind xs ys a n first last = grind (arith, common_steps, drop-append_seam, take-length)

-- the ranks of a known event are the same where one more is known
images-front : (caps : List ℕ) (f : List ℕ → List ℕ) (m n : LearnedImages) (count k : ℕ) → AreImages count m → AreImages count n → IsOneMore caps f m n → k < m.known
    → images_at n k ≡ images_at m k
images-front caps f m n count k old new more small =
    let same : n.size ≡ m.size = new.same ∙ sym old.same in
    let whole = old.whole in
    let order : (k + 1) * m.size ≤ m.known * m.size = mul-le-mul_right m.size (omega arith) in
    ap (λ s. slice_range n.ranks.items (k * s) (k * s + s)) same
    ∙ (ap (λ (xs : List ℕ). slice_range xs (k * m.size) (k * m.size + m.size)) more.ranks
    ∙ range-front m.ranks.items more.images (k * m.size) m.size (omega arith))

-- and those of the new one stand after them
images-behind : (caps : List ℕ) (f : List ℕ → List ℕ) (m n : LearnedImages) → AreImages (length (all_states caps)) m → AreImages (length (all_states caps)) n
    → (more : IsOneMore caps f m n) → images_at n m.known ≡ more.images
images-behind caps f m n old new more = grind (arith, common_steps, range-behind)

pub learned-none : (caps : List ℕ) (functions : List (List ℕ → List ℕ)) (m : LearnedImages) → m.known ≡ 0 → AreLearned caps functions m
learned-none caps functions m none = record { each = λ k small. absurd (omega arith) }

pub learned-same : (caps : List ℕ) (functions : List (List ℕ → List ℕ)) (m n : LearnedImages) (count : ℕ) → AreImages count m → AreImages count n → IsSameImages m n
    → AreLearned caps functions m → AreLearned caps functions n
learned-same caps functions m n count old new same learned = grind (arith, common_steps)

-- one event more is known
pub learned-next : {E : Type 0} (caps : List ℕ) (function : E → List ℕ → List ℕ) (events : List E) (e : E) (m n : LearnedImages) → slice_get events m.known ≡ Some e
    → AreImages (length (all_states caps)) m → AreImages (length (all_states caps)) n → IsOneMore caps (function e) m n → AreLearned caps (map function events) m
    → AreLearned caps (map function events) n
learned-next {E = E} caps function events e m n is old new more learned = record {
  each = λ k small. elim (cases_lt k m.known) [
    | inl less ↦ subst (λ (xs : List ℕ). AreRanksOf caps (slice_index_or (map function events) k (λ x. x)) xs)
        (sym (images-front caps (function e) m n (length (all_states caps)) k old new more less)) (learned.each k less)
    | inr past ↦ (let known = more.known in
        let same : k ≡ m.known = omega arith in
        subst (λ j. AreRanksOf caps (slice_index_or (map function events) j (λ x. x)) (images_at n j)) (sym same)
        (subst (λ (f : List ℕ → List ℕ). AreRanksOf caps f (images_at n m.known)) (sym own)
        (subst (λ (xs : List ℕ). AreRanksOf caps (function e) xs) (sym (images-behind caps (function e) m n old new more)) more.are)))
  ];
}
  where
    own : slice_index_or (map function events) m.known (λ x. x) ≡ function e
    own = get_or_from_slice_get (map function events) m.known (function e) (λ x. x)
        (slice_get-map function events m.known ∙ ap (λ (o : Option E). option_map function o) is)
