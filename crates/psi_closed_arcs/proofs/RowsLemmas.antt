-- Arcs by their rows.
use Rattle.std.proofs.Common.{rules, ◌≡◌, ◌⊎◌, ◌↔◌, ℕ, zero, suc, ◌+◌, ◌*◌, ◌%◌, ◌<◌, ◌≤◌, Bool, true, false, cond, List, [], ◌∷◌, ◌++◌, length, get_or, take, drop, slice_set, inl, inr, ap, sym, ◌∙◌, subst, arith, refl, get_or-set_same, get_or-set_other}
use Rattle.std.proofs.lemmas.List.{get_or_default}
use Rattle.std.proofs.lemmas.Bool.{cases_eq, false≢true, and_parts, and_from, le-leb, leb-true}
use Rattle.std.proofs.lemmas.Grind.{common_steps}
use Rattle.psi_state.specs.Members.{In}
use Rattle.psi_state.specs.Ascending.{IsDistinct}
use Rattle.psi_closed_arcs.specs.declared.ends.Arc.{Arc}
use Rattle.psi_closed_arcs.specs.declared.sums.Sums.{Sums}
use Rattle.psi_closed_arcs.specs.Sums.{has, Leads}
use Rattle.psi_closed_arcs.specs.Held.{ArcList, Listed, AreRanged}
use Rattle.psi_closed_arcs.specs.Inner.RowsKept.{sums_at, row_of, arc_number, keeps, arcs_below, arcs_of, AreRows, AreEmpty}

-- an arc of these numbers
abbrev pub arc_of : ℕ → ℕ → ℕ → Arc
arc_of l s v = record { level = l; before = s; value = v }

pub arc-same : (a b : Arc) → a.level ≡ b.level → a.before ≡ b.before → a.value ≡ b.value → a ≡ b
arc-same a b l s v = search rules

number-is : (l s v : ℕ) → s ≤ 256 → v ≤ 256 → arc_number (l * 66049 + (s * 257 + v)) ≡ arc_of l s v
number-is l s v small few = arc-same (arc_number (l * 66049 + (s * 257 + v))) (arc_of l s v) (omega arith) (omega arith) (omega arith)

number-same : (n m : ℕ) → arc_number n ≡ arc_number m → n ≡ m
number-same n m e = search rules

pub In-cond : {A : Type 0} (b : Bool) (x y : A) (rest : List A) → ((x ≡ y) × (b ≡ true)) ⊎ In x rest → In x (cond b (y ∷ rest) rest)
In-cond true x y rest h = elim h [ inl e ↦ inl e.0 | inr t ↦ inr t ]
In-cond false x y rest h = elim h [ inl e ↦ absurd (false≢true e.1) | inr t ↦ t ]

pub In-of_cond : {A : Type 0} (b : Bool) (x y : A) (rest : List A) → In x (cond b (y ∷ rest) rest) → ((x ≡ y) × (b ≡ true)) ⊎ In x rest
In-of_cond true x y rest member = elim member [ inl e ↦ inl (e, refl) | inr t ↦ inr t ]
In-of_cond false x y rest member = inr member

distinct-cond : (b : Bool) (y : Arc) (rest : List Arc) → (In y rest → ⊥) → IsDistinct rest → IsDistinct (cond b (y ∷ rest) rest)
distinct-cond true y rest fresh distinct = (fresh, distinct)
distinct-cond false y rest fresh distinct = distinct

-- the arc has a number below n, and the rows have it
record IsNumbered (rows : List Sums) (total n : ℕ) (a : Arc) : Type 0 where
  pub number : ℕ
  pub less : number < n
  pub is : a ≡ arc_number number
  pub kept : keeps rows total a ≡ true

below-numbered : (rows : List Sums) (total n : ℕ) (a : Arc) → In a (arcs_below rows total n) → IsNumbered rows total n a
below-numbered rows total zero a member = absurd member
below-numbered rows total (suc n) a member =
    elim (In-of_cond (keeps rows total (arc_number n)) a (arc_number n) (arcs_below rows total n) member) [
      | inl e ↦ record { number = n; less = omega arith; is = e.0; kept = subst (λ (b : Arc). keeps rows total b ≡ true) (sym e.0) e.1 }
      | inr t ↦ (let found = below-numbered rows total n a t in let less = found.less in record { number = found.number; less = omega arith; is = found.is; kept = found.kept })
    ]

numbered-below : (rows : List Sums) (total n p : ℕ) → p < n → keeps rows total (arc_number p) ≡ true → In (arc_number p) (arcs_below rows total n)
numbered-below rows total zero p less kept = absurd (omega arith)
numbered-below rows total (suc n) p less kept =
    In-cond (keeps rows total (arc_number n)) (arc_number p) (arc_number n) (arcs_below rows total n) (elim (cases_eq p n) [
      | inl e ↦ inl (ap arc_number e, subst (λ k. keeps rows total (arc_number k) ≡ true) e kept)
      | inr other ↦ inr (numbered-below rows total n p (omega arith) kept)
    ])

below-distinct : (rows : List Sums) (total n : ℕ) → IsDistinct (arcs_below rows total n)
below-distinct rows total zero = tt
below-distinct rows total (suc n) =
    distinct-cond (keeps rows total (arc_number n)) (arc_number n) (arcs_below rows total n)
    (λ member. (let found = below-numbered rows total n (arc_number n) member in
    let same = number-same n found.number found.is in
    let less = found.less in absurd (omega arith)))
    (below-distinct rows total n)

-- the rows have the arc, and it is in range
pub record IsKept (rows : List Sums) (levels total l s v : ℕ) : Type 0 where
  pub place : l < levels
  pub sum : s + v ≤ total
  pub there : has (row_of rows l s) (s + v) ≡ true

pub listed-kept : (rows : List Sums) (levels total l s v : ℕ) → Listed (arcs_of rows levels total) l s v → IsKept rows levels total l s v
unfolding arcs_of
listed-kept rows levels total l s v member = grind (arith, common_steps, below-numbered, and_parts, leb-true)

pub kept-listed : (rows : List Sums) (levels total l s v : ℕ) → total ≤ 256 → IsKept rows levels total l s v → Listed (arcs_of rows levels total) l s v
unfolding arcs_of
kept-listed rows levels total l s v small kept =
    let place = kept.place in
    let sum = kept.sum in
    let is = number-is l s v (omega arith) (omega arith) in
    subst (λ (a : Arc). In a (arcs_below rows total (levels * 66049))) is
    (numbered-below rows total (levels * 66049) (l * 66049 + (s * 257 + v)) (omega arith)
    (subst (λ (a : Arc). keeps rows total a ≡ true) (sym is) (and_from _ (has (row_of rows l s) (s + v)) (le-leb (s + v) total sum) kept.there)))

-- a set of arcs, as it is seen
module _ (rows : List Sums) (levels total : ℕ) (a : ArcList) (keep : AreRows rows levels total) (is : record { levels = levels; total = total; arcs = arcs_of rows levels total } ≡ a) where
  pub seen-levels : levels ≡ a.levels
  seen-levels = ap (λ (b : ArcList). b.levels) is

  pub seen-total : total ≡ a.total
  seen-total = ap (λ (b : ArcList). b.total) is

  pub seen-arcs : arcs_of rows levels total ≡ a.arcs
  seen-arcs = ap (λ (b : ArcList). b.arcs) is

  pub seen-kept : (l s v : ℕ) → Listed a.arcs l s v → IsKept rows levels total l s v
  seen-kept l s v member = listed-kept rows levels total l s v (subst (λ (xs : List Arc). Listed xs l s v) (sym seen-arcs) member)

  pub kept-seen : (l s v : ℕ) → IsKept rows levels total l s v → Listed a.arcs l s v
  kept-seen l s v kept = subst (λ (xs : List Arc). Listed xs l s v) seen-arcs (kept-listed rows levels total l s v keep.small kept)

  own-ranged : AreRanged levels total (arcs_of rows levels total)
  own-ranged arc member = (let kept = listed-kept rows levels total arc.level arc.before arc.value member in record { place = kept.place; sum = kept.sum })

  pub seen-ranged : AreRanged a.levels a.total a.arcs
  seen-ranged = subst (λ (b : ArcList). AreRanged b.levels b.total b.arcs) is own-ranged

  own-distinct : IsDistinct (arcs_of rows levels total)
  unfolding arcs_of
  own-distinct = below-distinct rows total (levels * 66049)

  pub seen-distinct : IsDistinct a.arcs
  seen-distinct = subst (λ (xs : List Arc). IsDistinct xs) seen-arcs own-distinct

  own-length : length (arcs_below rows total (levels * 66049)) ≡ length (arcs_of rows levels total)
  unfolding arcs_of
  own-length = refl

  pub seen-length : (n : ℕ) → n ≡ length (arcs_below rows total (levels * 66049)) → n ≡ length a.arcs
  seen-length n count = count ∙ (own-length ∙ ap (λ (xs : List Arc). length xs) seen-arcs)

  -- the place of an end
  pub seen-end : (l s : ℕ) → l < a.levels → s ≤ a.total → l * 257 + s < length rows
  seen-end l s level before = (let fits = keep.small in let count = keep.count in omega (arith, seen-levels, seen-total))

  -- the row of an end
  pub seen-row : (l s : ℕ) (row : Sums) → l < a.levels → s ≤ a.total → row ≡ row_of rows l s → (v : ℕ) → Leads row s v ↔ Listed a.arcs l s v
  seen-row l s row level before read v =
      let levels_are = seen-levels in
      let total_is = seen-total in
      let fits = keep.small in
      let place : (l * 257 + s) % 257 ≡ s = omega arith in (
        λ leads. (let there = subst (λ (x : Sums). has x (s + v) ≡ true) read leads.there in
            let range = keep.ranged (l * 257 + s) (s + v) (omega arith) leads.small there in
            kept-seen l s v (record { place = omega arith; sum = range.1; there = there })),
        λ member. (let kept = seen-kept l s v member in
            let sum = kept.sum in
            record { small = omega arith; there = subst (λ (x : Sums). has x (s + v) ≡ true) (sym read) kept.there }),
      )

  pub seen-range : (l s : ℕ) (row : Sums) → l < a.levels → s ≤ a.total → row ≡ row_of rows l s → (t : ℕ) → t < 320 → has row t ≡ true → (s ≤ t) × (t ≤ a.total)
  seen-range l s row level before read t small given = search rules

abbrev pub none : Sums
none = record { words = 0 ∷ 0 ∷ 0 ∷ 0 ∷ 0 ∷ [] }

pub read-own : (rows : List Sums) (e : ℕ) (row : Sums) → e < length rows → sums_at (slice_set rows e row) e ≡ row
read-own rows e row within = get_or-set_same rows e row none within

pub read-other : (rows : List Sums) (e f : ℕ) (row : Sums) → (f ≡ e → ⊥) → sums_at (slice_set rows e row) f ≡ sums_at rows f
read-other rows e f row other = get_or-set_other rows e f row none other

-- a row is written
module _ (rows : List Sums) (levels total : ℕ) (a : ArcList) (keep : AreRows rows levels total) (is : record { levels = levels; total = total; arcs = arcs_of rows levels total } ≡ a)
    (l s e : ℕ) (row : Sums) (level : l < a.levels) (before : s ≤ a.total) (at : e ≡ l * 257 + s) (ranged : (t : ℕ) → t < 320 → has row t ≡ true → (s ≤ t) × (t ≤ a.total)) where
  written-place : l < levels
  written-place = omega (arith, seen-levels rows levels total a keep is)

  written-inside : e < length rows
  written-inside = omega (arith, seen-end rows levels total a keep is l s level before)

  pub written-rows : AreRows (slice_set rows e row) levels total
  written-rows = search rules

  pub written-own : (v : ℕ) → Listed (arcs_of (slice_set rows e row) levels total) l s v ↔ Leads row s v
  written-own v = grind (arith, common_steps, seen-total, slice_set, read-own, written-inside, listed-kept, true, kept-listed, written-place)

  pub written-others : (i r v : ℕ) → (i ≡ l → r ≡ s → ⊥) → Listed (arcs_of (slice_set rows e row) levels total) i r v ↔ Listed a.arcs i r v
  written-others i r v other =
      let total_is = seen-total rows levels total a keep is in
      let small = keep.small in
      let read : r + v ≤ total → row_of (slice_set rows e row) i r ≡ row_of rows i r =
      λ sum. read-other rows e (i * 257 + r) row (λ same. other (omega arith) (omega arith)) in (
        λ member. (let kept = listed-kept (slice_set rows e row) levels total i r v member in
            kept-seen rows levels total a keep is i r v (record { place = kept.place; sum = kept.sum; there = subst (λ (x : Sums). has x (r + v) ≡ true) (read kept.sum) kept.there })),
        λ member. (let kept = seen-kept rows levels total a keep is i r v member in
            kept-listed (slice_set rows e row) levels total i r v keep.small (record { place = kept.place; sum = kept.sum; there = subst (λ (x : Sums). has x (r + v) ≡ true) (sym (read kept.sum)) kept.there })),
      )

-- rows without a sum
empty-below : (rows : List Sums) (total n : ℕ) → total ≤ 256 → n ≤ length rows * 257 → AreEmpty rows → (a : Arc) → In a (arcs_below rows total n) → ⊥
empty-below rows total n small within empty a member = grind (arith, common_steps, below-numbered, and_parts, leb-true, false≢true)

no-members : (xs : List Arc) → ((a : Arc) → In a xs → ⊥) → xs ≡ []
no-members [] none_in = refl
no-members (x ∷ xs) none_in = absurd (none_in x (inl refl))

pub empty-arcs : (rows : List Sums) (levels total : ℕ) → total ≤ 256 → length rows ≡ levels * 257 → AreEmpty rows → arcs_of rows levels total ≡ []
unfolding arcs_of
empty-arcs rows levels total small count empty =
    no-members (arcs_below rows total (levels * 66049)) (empty-below rows total (levels * 66049) small (omega arith) empty)

-- a row that is read
pub read-row : (rows : List Sums) (i : ℕ) (w : Sums) → i < length rows → w ≡ get_or rows i w → w ≡ sums_at rows i
read-row rows i w within read = read ∙ get_or_default rows i w none within

pub empty-more : (rows : List Sums) (n : ℕ) (row : Sums) → n < length rows → ((t : ℕ) → t < 320 → has row t ≡ false) → ((e t : ℕ) → e < n → t < 320 → has (sums_at rows e) t ≡ false)
    → (e t : ℕ) → e < n + 1 → t < 320 → has (sums_at (slice_set rows n row) e) t ≡ false
empty-more rows n row within bare before e t less small = search rules

-- what a vector holds once its slice was written
pub written : {A : Type 0} (old new : List A) (n : ℕ) → length new ≡ n → take n (new ++ drop (length new) old) ≡ new
written old new n count = grind (arith, common_steps)

pub read-default : (rows : List Sums) (i : ℕ) (d : Sums) → i < length rows → get_or rows i d ≡ sums_at rows i
read-default rows i d within = get_or_default rows i d none within
