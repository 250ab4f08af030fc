-- Walks over a list up to the first element that is wrong: two lists that are alike up to the first wrong one of the one are both wrong.
use Rattle.std.specs.Prelude.{◌≡◌, ℕ, zero, suc, ◌+◌, ◌-◌, ◌<◌, ◌≤◌, List, [], ◌∷◌, length, Bool, false, cond, Option, Some, None}
use Rattle.std.specs.List.{slice_get}
use Rattle.std.proofs.Common.{sym, ◌∙◌, arith}

-- two lists are alike in their first elements
abbrev pub Alike : {A : Type 0} → ℕ → List A → List A → Type 0
Alike m xs ys = (j : ℕ) → j < m → slice_get xs j ≡ slice_get ys j

pub alike-fewer : {A : Type 0} (k m : ℕ) (xs ys : List A) → k ≤ m → Alike m xs ys → Alike k xs ys
alike-fewer k m xs ys few alike j less = alike j (omega arith)

-- a walk: whether an element may stand there, by what came before it and the elements after it; what came before the next one; whether the list may end
-- there; whether a wrong element is told, or is the end of the walk; and how many elements after it judge one
pub record Walk (S A : Type 0) : Type 0 where
  pub may : S → A → List A → Bool
  pub next : S → A → S
  pub ends : S → Bool
  pub told : A → Bool
  pub seen : A → ℕ

-- of two walks one stops at an element where it is told, and the other doesn't
both-stop : (a b told : Bool) (k p : ℕ) (u v : Option ℕ) → cond {A = Option ℕ} a u (cond {A = Option ℕ} told (Some k) None) ≡ Some p
    → cond {A = Option ℕ} b v (cond {A = Option ℕ} told (Some k) None) ≡ None → (told ≡ false → a ≡ b) → (u ≡ Some p → v ≡ None → ⊥) → ((a ≡ b → ⊥) → k ≡ p → ⊥) → ⊥
both-stop a b told k p u v one two alone rest apart = grind arith

module _ {S A : Type 0} (w : Walk S A) where
  -- the first place of an element that is wrong, from k on
  abbrev pub walked : ℕ → S → List A → Option ℕ
  walked k s [] = cond {A = Option ℕ} (w.ends s) None (Some k)
  walked k s (x ∷ xs) = cond {A = Option ℕ} (w.may s x xs) (walked (k + 1) (w.next s x) xs) (cond {A = Option ℕ} (w.told x) (Some k) None)

  -- by how many elements the one at a place is judged
  abbrev pub judged : ℕ → List A → ℕ
  judged i [] = suc i
  judged zero (x ∷ xs) = suc (w.seen x)
  judged (suc i) (x ∷ xs) = suc (judged i xs)

  -- where no elements after it judge one, it is judged by those up to it
  pub judged-own : ((x : A) → w.seen x ≡ 0) → (i : ℕ) (xs : List A) → judged i xs ≤ suc i
  judged-own none i [] = omega arith
  judged-own none zero (x ∷ xs) = rw (none x) (omega arith)
  judged-own none (suc i) (x ∷ xs) = omega (arith, judged-own none i xs)

  pub walked-range : (k : ℕ) (s : S) (xs : List A) (p : ℕ) → walked k s xs ≡ Some p → (k ≤ p) × (p ≤ k + length xs)
  walked-range k s [] p is = grind arith
  walked-range k s (x ∷ xs) p is = grind (arith, walked-range (k + 1) (w.next s x) xs p)

  -- what an element is judged by; one that isn't told is judged by itself alone
  pub record IsLocal : Type 0 where
    pub near : (s : S) (x : A) (xs ys : List A) → Alike (w.seen x) xs ys → w.may s x xs ≡ w.may s x ys
    pub alone : (s : S) (x : A) (xs ys : List A) → w.told x ≡ false → w.may s x xs ≡ w.may s x ys

  pub walked-wrong : IsLocal → (xs ys : List A) (k i p m : ℕ) (s : S) → walked k s xs ≡ Some p → p ≡ k + i → walked k s ys ≡ None → judged i xs ≤ m → Alike m xs ys → ⊥
  walked-wrong is [] [] k i p m s wrong at right few alike = (let e : ◌≡◌ {A = Option ℕ} (Some p) None = sym wrong ∙ right in absurd cc)
  walked-wrong is [] (y ∷ ys) k i p m s wrong at right few alike = (let e = alike 0 (omega arith) in absurd cc)
  walked-wrong is (x ∷ xs) [] k zero p m s wrong at right few alike = (let e = alike 0 (omega arith) in absurd cc)
  walked-wrong is (x ∷ xs) [] k (suc i) p m s wrong at right few alike = (let e = alike 0 (omega arith) in absurd cc)
  walked-wrong is (x ∷ xs) (y ∷ ys) k zero p m s wrong at right few alike =
      let same : x ≡ y = (let e = alike 0 (omega arith) in cc) in
      let own : walked k s (x ∷ ys) ≡ None = rw same right in
      let near = is.near s x xs ys (λ j less. alike (suc j) (omega arith)) in
      both-stop (w.may s x xs) (w.may s x ys) (w.told x) k p (walked (k + 1) (w.next s x) xs) (walked (k + 1) (w.next s x) ys) wrong own (λ none. near)
      (λ one two. (let low = (walked-range (k + 1) (w.next s x) xs p one).0 in omega arith)) (λ apart e. apart near)
  walked-wrong is (x ∷ xs) (y ∷ ys) k (suc i) p m s wrong at right few alike =
      let same : x ≡ y = (let e = alike 0 (omega arith) in cc) in
      let own : walked k s (x ∷ ys) ≡ None = rw same right in
      both-stop (w.may s x xs) (w.may s x ys) (w.told x) k p (walked (k + 1) (w.next s x) xs) (walked (k + 1) (w.next s x) ys) wrong own (is.alone s x xs ys)
      (λ one two. walked-wrong is xs ys (k + 1) i p (m - 1) (w.next s x) one (omega arith) two (omega arith) (λ j less. alike (suc j) (omega arith))) (λ apart e. omega arith)
