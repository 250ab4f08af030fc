-- Laws. The parts of a guarded event by their queues.
use Rattle.std.specs.Prelude.{◌≡◌, ℕ, zero, suc, ◌+◌, ◌<◌, ◌≤◌, pos, negsuc, ℤ, true, false, cond, ◌⊎◌, nat_le, List, [], ◌∷◌, length, slice_index, refl}
use Rattle.std.proofs.Common.{inl, inr, ap, sym, ◌∙◌, subst, arith}
use Rattle.std.proofs.lemmas.Bool.{cases_eq, eq-eqb, ne_eqb, and_parts, and_cases, leb-true, leb-false}
use Rattle.psi_guard.specs.declared.parts.Part.{Part}
use Rattle.psi_guard.specs.Guarding.{shifted, moved, allows, all_allow, next, map_places, free_part, part_of}
use Rattle.psi_guard.specs.Refusals.{AreApart, at}
use Rattle.psi_guard.specs.Places.{IsNamed, IsFree}

pub apart-tail : (part : Part) (parts : List Part) → AreApart (part ∷ parts) → AreApart parts
apart-tail part parts apart = record {
  each = λ i j first second same. (let e : suc i ≡ suc j = apart.each (suc i) (suc j) (omega arith) (omega arith) same in omega arith);
}

part_of-here : (caps : List ℕ) (part : Part) (parts : List Part) (q : ℕ) → part.queue ≡ q → part_of caps (part ∷ parts) q ≡ part
part_of-here caps part parts q same = ap (λ b. cond b part (part_of caps parts q)) (eq-eqb part.queue q same)

part_of-there : (caps : List ℕ) (part : Part) (parts : List Part) (q : ℕ) → (part.queue ≡ q → ⊥) → part_of caps (part ∷ parts) q ≡ part_of caps parts q
part_of-there caps part parts q other = ap (λ b. cond b part (part_of caps parts q)) (ne_eqb part.queue q other)

-- the part of a queue that a part names is that part
pub part_of-at : (caps : List ℕ) (parts : List Part) (i : ℕ) → AreApart parts → i < length parts → part_of caps parts (at parts i).queue ≡ at parts i
part_of-at caps [] i apart small = absurd (omega arith)
part_of-at caps (part ∷ parts) zero apart small = part_of-here caps part parts part.queue refl
part_of-at caps (part ∷ parts) (suc i) apart small =
    part_of-there caps part parts (at parts i).queue (λ same. (let e : 0 ≡ suc i = apart.each 0 (suc i) (omega arith) small same in omega arith))
    ∙ part_of-at caps parts i (apart-tail part parts apart) (omega arith)

pub part_of-named : (caps : List ℕ) (parts : List Part) (i : ℕ) (part : Part) (q : ℕ) → AreApart parts → i < length parts → part ≡ at parts i → part.queue ≡ q → part ≡ part_of caps parts q
part_of-named caps parts i part q apart small is names =
    is ∙ (sym (part_of-at caps parts i apart small) ∙ ap (λ p. part_of caps parts p) (sym (ap (λ (p : Part). p.queue) is) ∙ names))

pub named_or_free : (caps : List ℕ) (parts : List Part) (q : ℕ) → IsNamed caps parts q ⊎ IsFree caps parts q
named_or_free caps [] q = inr (record { other = λ i small same. omega arith; part = refl })
named_or_free caps (part ∷ parts) q =
    elim (cases_eq part.queue q) [
      | inl same ↦ inl (record { place = 0; small = omega arith; queue = same; part = part_of-here caps part parts q same })
      | inr other ↦ elim (named_or_free caps parts q) [
        | inl named ↦ (let small : named.place < length parts = named.small in
            inl (record { place = suc named.place; small = omega arith; queue = named.queue; part = part_of-there caps part parts q other ∙ named.part }))
        | inr free ↦ inr (record { other = others part parts q other free.other; part = part_of-there caps part parts q other ∙ free.part })
      ]
    ]
  where
    others : (part : Part) (parts : List Part) (q : ℕ) → (part.queue ≡ q → ⊥) → ((i : ℕ) → i < length parts → (at parts i).queue ≡ q → ⊥)
        → (i : ℕ) → i < length (part ∷ parts) → (at (part ∷ parts) i).queue ≡ q → ⊥
    others part parts q here there zero small same = here same
    others part parts q here there (suc i) small same = there i (omega arith) same

-- what is so of each part at its queue, and of the part of a queue that none names, is so of the part of every queue
pub part_of-each : (caps : List ℕ) (parts : List Part) (P : ℕ → Part → Type 0) (q : ℕ) → ((i : ℕ) → i < length parts → P (at parts i).queue (at parts i))
    → P q (free_part (slice_index caps q) q) → P q (part_of caps parts q)
part_of-each caps parts P q each free =
    elim (named_or_free caps parts q) [
      | inl is ↦ subst (λ (part : Part). P q part) (sym is.part) (subst (λ p. P p (at parts is.place)) is.queue (each is.place is.small))
      | inr is ↦ subst (λ (part : Part). P q part) (sym is.part) free
    ]

-- what becomes of a number is what its queue's part makes of it
pub next-part_of : (caps : List ℕ) (parts : List Part) (q v : ℕ) → v ≤ slice_index caps q → next parts q v ≡ moved (part_of caps parts q) v
next-part_of caps [] q v small = omega arith
next-part_of caps (part ∷ parts) q v small =
    elim (cases_eq part.queue q) [
      | inl same ↦ ap (λ b. cond b (moved part v) (next parts q v)) (eq-eqb part.queue q same) ∙ ap (λ p. moved p v) (sym (part_of-here caps part parts q same))
      | inr other ↦ ap (λ b. cond b (moved part v) (next parts q v)) (ne_eqb part.queue q other)
          ∙ (next-part_of caps parts q v small ∙ ap (λ p. moved p v) (sym (part_of-there caps part parts q other)))
    ]

-- all allow a state, or one doesn't
pub all_allow-true : (parts : List Part) (x : List ℕ) → all_allow parts x ≡ true → (i : ℕ) → i < length parts
    → ((at parts i).least ≤ slice_index x (at parts i).queue) × (slice_index x (at parts i).queue ≤ (at parts i).most)
all_allow-true [] x is i small = absurd (omega arith)
all_allow-true (part ∷ parts) x is zero small =
    let both = and_parts (allows part (slice_index x part.queue)) (all_allow parts x) is in
    let ends = and_parts (nat_le part.least (slice_index x part.queue)) (nat_le (slice_index x part.queue) part.most) both.0 in
    (leb-true part.least (slice_index x part.queue) ends.0, leb-true (slice_index x part.queue) part.most ends.1)
all_allow-true (part ∷ parts) x is (suc i) small =
    all_allow-true parts x (and_parts (allows part (slice_index x part.queue)) (all_allow parts x) is).1 i (omega arith)

pub all_allow-false : (parts : List Part) (x : List ℕ) → all_allow parts x ≡ false
    → (i : ℕ) × (i < length parts) × ((slice_index x (at parts i).queue < (at parts i).least) ⊎ ((at parts i).most < slice_index x (at parts i).queue))
all_allow-false [] x is = absurd cc
all_allow-false (part ∷ parts) x is =
    elim (and_cases (allows part (slice_index x part.queue)) (all_allow parts x) is) [
      | inl here ↦ (
        0,
        omega arith,
        elim (and_cases (nat_le part.least (slice_index x part.queue)) (nat_le (slice_index x part.queue) part.most) here) [
          | inl low ↦ inl (leb-false part.least (slice_index x part.queue) low)
          | inr high ↦ inr (leb-false (slice_index x part.queue) part.most high)
        ],
      )
      | inr there ↦ (let found = all_allow-false parts x there in let small : found.0 < length parts = found.1 in (suc found.0, omega arith, found.2))
    ]

pub length-map_places : (f : ℕ → ℕ → ℕ) (first : ℕ) (x : List ℕ) → length (map_places f first x) ≡ length x
length-map_places f first [] = refl
length-map_places f first (v ∷ x) = ap suc (length-map_places f (suc first) x)

pub slice_index-map_places : (f : ℕ → ℕ → ℕ) (first : ℕ) (x : List ℕ) (i : ℕ) → i < length x
    → slice_index (map_places f first x) i ≡ f (first + i) (slice_index x i)
slice_index-map_places f first [] i small = absurd (omega arith)
slice_index-map_places f first (v ∷ x) zero small = (let e : first ≡ first + 0 = omega arith in ap (λ q. f q v) e)
slice_index-map_places f first (v ∷ x) (suc i) small =
    (let e : suc first + i ≡ first + suc i = omega arith in
    slice_index-map_places f (suc first) x i (omega arith) ∙ ap (λ q. f q (slice_index x i)) e)

-- what a shift makes of a number rises with the number, and by no more than it
pub shifted-rises : (shift : ℤ) (v d : ℕ) → shifted shift v ≤ shifted shift (v + d)
shifted-rises (pos n) v d = omega arith
shifted-rises (negsuc n) v d = omega arith

pub shifted-slow : (shift : ℤ) (v d : ℕ) → shifted shift (v + d) ≤ shifted shift v + d
shifted-slow (pos n) v d = omega arith
shifted-slow (negsuc n) v d = omega arith
