-- Lists while they are filled.
use Rattle.std.specs.Prelude.{◌≡◌, ℕ, ◌+◌, ◌<◌, ℤ, pos, List, [], ◌∷◌, ◌++◌, length, map, get_or, slice_index_or, All, refl}
use Rattle.std.proofs.Common.{inl, inr, ap, sym, ◌∙◌, subst, below_more, arith}
use Rattle.std.proofs.lemmas.Bool.{cases_lt}
use Rattle.std.proofs.lemmas.List.{length-map, get_or_append_left, get_or_push, map_push, length_push}
use Rattle.psi_event.specs.Law.{Function}
use Rattle.psi_event.specs.Idle.{unchanged}
use Rattle.psi_follow_packed.specs.Packed.{Packing, IsPacking}
use Rattle.psi_follow_packed.specs.Moves.{Moving, no_move}
use Rattle.psi_follow_packed.specs.Programs.{Prepares, IsMoveFor}
use Rattle.psi_follow_packed.specs.Views.{low_word, moving_by}
use Rattle.psi_follow_packed.specs.declared.moves.PackedEvent.{PackedEvent}
use Rattle.psi_path_packed.specs.Inner.RisesKept.{IsLonger}
use Rattle.psi_path_packed.proofs.StepLemmas.{idle-read}

-- what holds of each holds of one more
pub all-more : {A : Type 0} (P : A → Type 0) (xs new : List A) (x : A) → new ≡ xs ++ x ∷ [] → All P xs → P x → All P new
all-more {A} P xs new x pushed each own k d small = subst (λ (ys : List A). P (get_or ys k d)) (sym pushed) (elim (cases_lt k (length xs)) [
  | inl less ↦ subst P (sym (get_or_append_left xs (x ∷ []) d k less)) (each k d less)
  | inr past ↦ (let long : length new ≡ length (xs ++ x ∷ []) = ap (λ (ys : List A). length ys) pushed in
      let e : length xs ≡ k = omega (arith, small, past, long, length_push xs x) in subst P (sym (get_or_push xs x d k e)) own)
])

-- one more move is that of the next function
pub moves-more : {K : ℕ} (p : Packing) (functions : List Function) (moves new : List (PackedEvent K)) (m : PackedEvent K) (k : ℕ) → length moves ≡ k → new ≡ moves ++ m ∷ []
    → ((i : ℕ) → i < k → IsMoveFor K p (slice_index_or functions i (λ x. x)) (slice_index_or (map (moving_by low_word) moves) i no_move))
    → IsMoveFor K p (slice_index_or functions k (λ x. x)) (moving_by low_word m)
    → (i : ℕ) → i < k + 1 → IsMoveFor K p (slice_index_or functions i (λ x. x)) (slice_index_or (map (moving_by low_word) new) i no_move)
moves-more {K} p functions moves new m k long pushed each own =
    let low = λ (e : PackedEvent K). moving_by low_word e in
    let mapped : map low new ≡ map low moves ++ low m ∷ [] = ap (map low) pushed ∙ map_push low moves m in
    let size : length (map low moves) ≡ k = length-map moves low ∙ long in
    subst (λ (ms : List Moving). (i : ℕ) → i < k + 1 → IsMoveFor K p (slice_index_or functions i (λ x. x)) (slice_index_or ms i no_move)) (sym mapped)
    (below_more (λ i. IsMoveFor K p (slice_index_or functions i (λ x. x)) (slice_index_or (map low moves ++ low m ∷ []) i no_move)) k
    (λ i under. subst (λ (n : Moving). IsMoveFor K p (slice_index_or functions i (λ x. x)) n) (sym (get_or_append_left (map low moves) (low m ∷ []) no_move i (omega (arith, size, under)))) (each i under))
    (subst (λ (n : Moving). IsMoveFor K p (slice_index_or functions k (λ x. x)) n) (sym (get_or_push (map low moves) (low m) no_move k size)) own))

-- the moves of all, and of idle as the last
pub prepared-all : {K : ℕ} (p : Packing) (functions : List Function) (moves new : List (PackedEvent K)) (m : PackedEvent K) → IsPacking K p → length moves ≡ length functions → new ≡ moves ++ m ∷ []
    → ((i : ℕ) → i < length functions → IsMoveFor K p (slice_index_or functions i (λ x. x)) (slice_index_or (map (moving_by low_word) moves) i no_move))
    → IsMoveFor K p unchanged (moving_by low_word m)
    → Prepares K p.caps (functions ++ unchanged ∷ []) (record { packing = p; moves = map (moving_by low_word) new })
prepared-all {K} p functions moves new m is long pushed each own = record {
  packing = is;
  same_caps = refl;
  same_count = length-map new (λ (e : PackedEvent K). moving_by low_word e) ∙ ap (λ (es : List (PackedEvent K)). length es) pushed ∙ length_push moves m ∙ ap (λ n. n + 1) long ∙ sym (length_push functions unchanged);
  each = λ i small. moves-more p (functions ++ unchanged ∷ []) moves new m (length functions) long pushed
      (λ j under. subst (λ (f : Function). IsMoveFor K p f (slice_index_or (map (moving_by low_word) moves) j no_move)) (sym (idle-read functions j)) (each j under))
      (subst (λ (f : Function). IsMoveFor K p f (moving_by low_word m)) (sym (get_or_push functions unchanged (λ x. x) (length functions) refl)) own) i (omega (arith, small, length_push functions unchanged));
}

-- one number more stands after those that were there
pub longer-more : (old mid new : List ℤ) (count : ℕ) (more : ℕ → ℤ) (x : ℤ) → IsLonger old count more mid → new ≡ mid ++ x ∷ [] → x ≡ more count → IsLonger old (count + 1) more new
longer-more old mid new count more x longer pushed own = record {
  long = ap (λ (zs : List ℤ). length zs) pushed ∙ length_push mid x ∙ (let e = longer.long in omega arith);
  kept = λ i small. ap (λ (zs : List ℤ). slice_index_or zs i (pos 0)) pushed ∙ get_or_append_left mid (x ∷ []) (pos 0) i (let e = longer.long in omega arith) ∙ longer.kept i small;
  each = below_more (λ i. slice_index_or new (length old + i) (pos 0) ≡ more i) count
      (λ i under. ap (λ (zs : List ℤ). slice_index_or zs (length old + i) (pos 0)) pushed ∙ get_or_append_left mid (x ∷ []) (pos 0) (length old + i) (let e = longer.long in omega arith) ∙ longer.each i under)
      (ap (λ (zs : List ℤ). slice_index_or zs (length old + count) (pos 0)) pushed ∙ get_or_push mid x (pos 0) (length old + count) longer.long ∙ own);
}
