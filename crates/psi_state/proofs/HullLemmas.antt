-- Lemmas. The hull of a list of states: the box from its componentwise least to its componentwise greatest values.
use Rattle.std.specs.Prelude.{◌≡◌, ℕ, zero, suc, ◌<◌, ◌≤◌, List, [], ◌∷◌, ◌⊎◌, length, slice_index, refl, min, max}
use Rattle.std.proofs.Common.{inl, inr, ap, sym, ◌∙◌, subst, arith}
use Rattle.std.proofs.lemmas.Bool.{cases_lt}
use Rattle.std.proofs.lemmas.List.{ext_get_or}
use Rattle.psi_state.specs.Members.{In}
use Rattle.psi_state.specs.Hull.{join_by, lows, highs, corners, HaveLength, IsTight}

length-join_by : (f : ℕ → ℕ → ℕ) (x y : List ℕ) → length x ≡ length y → length (join_by f x y) ≡ length x
length-join_by f [] y same = refl
length-join_by f (v ∷ x) [] same = absurd (omega arith)
length-join_by f (v ∷ x) (w ∷ y) same =
    let rest : length x ≡ length y = omega arith in
    ap suc (length-join_by f x y rest)

slice_index-join_by : (f : ℕ → ℕ → ℕ) (x y : List ℕ) (i : ℕ) → length x ≡ length y → i < length x
    → slice_index (join_by f x y) i ≡ f (slice_index x i) (slice_index y i)
slice_index-join_by f [] y i same small = absurd (omega arith)
slice_index-join_by f (v ∷ x) [] i same small = absurd (omega arith)
slice_index-join_by f (v ∷ x) (w ∷ y) zero same small = refl
slice_index-join_by f (v ∷ x) (w ∷ y) (suc i) same small =
    slice_index-join_by f x y i (omega arith) (omega arith)

-- an end of states with so many places: at each place it is on one side of all their values, and is one of them
record IsEnd (R : ℕ → ℕ → Type 0) (n : ℕ) (xs : List (List ℕ)) (l : List ℕ) : Type 0 where
  same_length : length l ≡ n
  beside : (x : List ℕ) → In x xs → (i : ℕ) → i < n → R (slice_index l i) (slice_index x i)
  reached : (i : ℕ) → i < n → (x : List ℕ) × In x xs × (slice_index x i ≡ slice_index l i)

-- states have one end on each side
ends-same : (R : ℕ → ℕ → Type 0) → ((a b : ℕ) → R a b → R b a → a ≡ b) → (n : ℕ) (xs : List (List ℕ)) (l m : List ℕ) → IsEnd R n xs l → IsEnd R n xs m → l ≡ m
ends-same R both n xs l m first second =
    ext_get_or 0 l m (first.same_length ∙ sym second.same_length)
    (λ i small. (let within : i < n = omega (arith, first.same_length) in
    let own = first.reached i within in
    let other = second.reached i within in
    both (slice_index l i) (slice_index m i) (subst (λ v. R (slice_index l i) v) other.2 (first.beside other.0 other.1 i within))
    (subst (λ v. R (slice_index m i) v) own.2 (second.beside own.0 own.1 i within))))

-- the list that takes from states, place by place, the one that a choice between two values leaves on one side
module _ (f : ℕ → ℕ → ℕ) (ends : List (List ℕ) → List ℕ) (one : (x : List ℕ) → ends (x ∷ []) ≡ x)
    (more : (x y : List ℕ) (ys : List (List ℕ)) → ends (x ∷ y ∷ ys) ≡ join_by f x (ends (y ∷ ys)))
    (R : ℕ → ℕ → Type 0) (itself : (a : ℕ) → R a a) (left : (a b : ℕ) → R (f a b) a) (right : (a b c : ℕ) → R b c → R (f a b) c)
    (either : (a b : ℕ) → (f a b ≡ a) ⊎ (f a b ≡ b)) where
  end-of_ends : (n : ℕ) (x : List ℕ) (xs : List (List ℕ)) → HaveLength n (x ∷ xs) → IsEnd R n (x ∷ xs) (ends (x ∷ xs))
  end-of_ends n x [] h =
      subst (λ (l : List ℕ). IsEnd R n (x ∷ []) l) (sym (one x))
      (record {
        same_length = h.each x (inl refl);
        beside = λ z member i small. elim member [
          | inl e ↦ subst (λ (y : List ℕ). R (slice_index x i) (slice_index y i)) (sym e) (itself (slice_index x i))
          | inr none ↦ absurd none
        ];
        reached = λ i small. (x, inl refl, refl);
      })
  end-of_ends n x (y ∷ ys) h =
      let rest = end-of_ends n y ys (record { each = λ z member. h.each z (inr member) }) in
      let own : length x ≡ n = h.each x (inl refl) in
      let same : length x ≡ length (ends (y ∷ ys)) = own ∙ sym rest.same_length in
      let at : (i : ℕ) → i < n → slice_index (join_by f x (ends (y ∷ ys))) i ≡ f (slice_index x i) (slice_index (ends (y ∷ ys)) i) =
      λ i small. slice_index-join_by f x (ends (y ∷ ys)) i same (omega arith) in
      subst (λ (l : List ℕ). IsEnd R n (x ∷ y ∷ ys) l) (sym (more x y ys))
      (record {
        same_length = length-join_by f x (ends (y ∷ ys)) same ∙ own;
        beside = λ z member i small. rw (at i small) (elim member [
          | inl e ↦ subst (λ (w : List ℕ). R (f (slice_index x i) (slice_index (ends (y ∷ ys)) i)) (slice_index w i)) (sym e) (left (slice_index x i) (slice_index (ends (y ∷ ys)) i))
          | inr t ↦ right (slice_index x i) (slice_index (ends (y ∷ ys)) i) (slice_index z i) (rest.beside z t i small)
        ]);
        reached = λ i small. elim (either (slice_index x i) (slice_index (ends (y ∷ ys)) i)) [
          | inl e ↦ (x, inl refl, sym (at i small ∙ e))
          | inr e ↦ (let found = rest.reached i small in (found.0, inr found.1, found.2 ∙ sym (at i small ∙ e)))
        ];
      })

either-min : (a b : ℕ) → (min a b ≡ a) ⊎ (min a b ≡ b)
either-min a b = elim (cases_lt a b) [ inl less ↦ inl (omega arith) | inr more ↦ inr (omega arith) ]

either-max : (a b : ℕ) → (max a b ≡ a) ⊎ (max a b ≡ b)
either-max a b = elim (cases_lt a b) [ inl less ↦ inr (omega arith) | inr more ↦ inl (omega arith) ]

end-lows : (n : ℕ) (x : List ℕ) (xs : List (List ℕ)) → HaveLength n (x ∷ xs) → IsEnd (λ a b. a ≤ b) n (x ∷ xs) (lows (x ∷ xs))
end-lows =
    end-of_ends min lows (λ x. refl) (λ x y ys. refl) (λ a b. a ≤ b) (λ a. omega arith) (λ a b. omega arith) (λ a b c below. omega arith) either-min

end-highs : (n : ℕ) (x : List ℕ) (xs : List (List ℕ)) → HaveLength n (x ∷ xs) → IsEnd (λ a b. b ≤ a) n (x ∷ xs) (highs (x ∷ xs))
end-highs =
    end-of_ends max highs (λ x. refl) (λ x y ys. refl) (λ a b. b ≤ a) (λ a. omega arith) (λ a b. omega arith) (λ a b c above. omega arith) either-max

-- the corners of the hull are tight around the list
pub corners-tight : (n : ℕ) (z : List ℕ) (xs : List (List ℕ)) → HaveLength n xs → In z xs → IsTight xs (lows xs) (highs xs)
corners-tight n z [] h member = absurd member
corners-tight n z (x ∷ xs) h member =
    let low = end-lows n x xs h in
    let high = end-highs n x xs h in
    record {
      inside = λ y found. record {
        low = record { same_length = low.same_length ∙ sym (h.each y found); each = λ i small. low.beside y found i (omega (arith, low.same_length)) };
        high = record { same_length = h.each y found ∙ sym high.same_length; each = λ i small. high.beside y found i (omega (arith, h.each y found)) };
      };
      low = λ i small. low.reached i (omega (arith, low.same_length));
      high = λ i small. high.reached i (omega (arith, high.same_length));
    }

-- and no other corners are
pub corners-from_tight : (z : List ℕ) (xs : List (List ℕ)) (l h : List ℕ) → In z xs → IsTight xs l h → corners xs ≡ record { lo = l; hi = h }
corners-from_tight z [] l h member tight = absurd member
corners-from_tight z (x ∷ xs) l h member tight =
    let lengths : HaveLength (length l) (x ∷ xs) = record { each = λ y found. sym ((tight.inside y found).low.same_length) } in
    let same : length l ≡ length h = (tight.inside z member).low.same_length ∙ (tight.inside z member).high.same_length in
    let first : lows (x ∷ xs) ≡ l =
    ends-same (λ a b. a ≤ b) (λ a b below above. omega arith) (length l) (x ∷ xs) (lows (x ∷ xs)) l (end-lows (length l) x xs lengths)
    (record { same_length = refl; beside = λ y found. (tight.inside y found).low.each; reached = tight.low }) in
    let second : highs (x ∷ xs) ≡ h =
    ends-same (λ a b. b ≤ a) (λ a b above below. omega arith) (length l) (x ∷ xs) (highs (x ∷ xs)) h (end-highs (length l) x xs lengths)
    (record {
      same_length = sym same;
      beside = λ y found i small. (tight.inside y found).high.each i (omega (arith, lengths.each y found));
      reached = λ i small. tight.high i (omega (arith, same));
    }) in
    rw (first, second) refl
