-- Boxes by what changed: the changes from one box to another, made in the one, give the other.
use Rattle.std.specs.Prelude.{◌≡◌, ℕ, zero, suc, ◌+◌, ◌<◌, ◌≤◌, List, [], ◌∷◌, length, map, filter, slice_index, slice_set, Bool, true, false, not, ◌&&◌, ◌==◌, nat_lt, nat_le, refl}
use Rattle.std.specs.List.{list_all}
use Rattle.std.proofs.Common.{get_or, set, ap, sym, ◌∙◌, subst, arith, inl, inr}
use Rattle.std.proofs.lemmas.Bool.{and_parts, and_from, le-leb, lt-ltb, ltb-true, eq-eqb, eqb-true, not-false, cases_Bool, cases_eq}
use Rattle.std.proofs.lemmas.List.{length-set, get_or-set_same, get_or-set_other, ext_get_or}
use Rattle.psi_state.specs.State.{Corners, numbers_from}
use Rattle.psi_state.specs.Members.{In}
use Rattle.psi_state.proofs.MembersLemmas.{In-of_map, In-of_numbers_from}
use Rattle.psi_log_format.specs.Text.{Change, differs, change_to, changes}
use Rattle.psi_log_words.proofs.NumberLemmas.{all_from}
use Rattle.psi_log_words.specs.Regions.{queues_ascend, is_change, changed}

-- each queue is at least this one, where the queues ascend
abbrev pub AtLeast : ℕ → List Change → Type 0
AtLeast s [] = Unit {0}
AtLeast s (c ∷ cs) = s ≤ c.queue

-- the queues that differ from the first on, as they are in the other box
abbrev pub listed : Corners → Corners → ℕ → ℕ → List Change
listed from to s n = map (change_to to) (filter (differs from to) (numbers_from s n))

-- two boxes have a queue in common
pub record Agree (a b : Corners) (q : ℕ) : Type 0 where
  pub lo : slice_index a.lo q ≡ slice_index b.lo q
  pub hi : slice_index a.hi q ≡ slice_index b.hi q

-- a box with one queue changed
abbrev with_change : Corners → Change → Corners
with_change b c = record { lo = slice_set b.lo c.queue c.least; hi = slice_set b.hi c.queue c.greatest }

ascend_rest : (c : Change) (cs : List Change) → queues_ascend (c ∷ cs) ≡ true → AtLeast (suc c.queue) cs × (queues_ascend cs ≡ true)
ascend_rest c [] h = (tt, refl)
ascend_rest c (d ∷ ds) h =
    let parts = and_parts (nat_lt c.queue d.queue) (queues_ascend (d ∷ ds)) h in
    let less : c.queue < d.queue = ltb-true c.queue d.queue parts.0 in
    (omega arith, parts.1)

ascend_more : (c : Change) (cs : List Change) → AtLeast (suc c.queue) cs → queues_ascend cs ≡ true → queues_ascend (c ∷ cs) ≡ true
ascend_more c [] above h = refl
ascend_more c (d ∷ ds) above h = (let less : c.queue < d.queue = omega arith in and_from (nat_lt c.queue d.queue) (queues_ascend (d ∷ ds)) (lt-ltb c.queue d.queue less) h)

at_least_below : (s t : ℕ) (cs : List Change) → t ≤ s → AtLeast s cs → AtLeast t cs
at_least_below s t [] less above = tt
at_least_below s t (c ∷ cs) less above = omega arith

agree_other : (b : Corners) (c : Change) (q : ℕ) → (q ≡ c.queue → ⊥) → Agree (with_change b c) b q
agree_other b c q other = record { lo = get_or-set_other b.lo c.queue q c.least 0 other; hi = get_or-set_other b.hi c.queue q c.greatest 0 other }

agree_then : (a b c : Corners) (q : ℕ) → Agree a b q → Agree b c q → Agree a c q
agree_then a b c q first second = record { lo = first.lo ∙ second.lo; hi = first.hi ∙ second.hi }

agree_back : (a b : Corners) (q : ℕ) → Agree a b q → Agree b a q
agree_back a b q h = record { lo = sym h.lo; hi = sym h.hi }

-- a queue below all that change stays as it is
changed_below : (b : Corners) (cs : List Change) (q s : ℕ) → q < s → AtLeast s cs → queues_ascend cs ≡ true → Agree (changed b cs) b q
changed_below b [] q s small above ascend = record { lo = refl; hi = refl }
changed_below b (c ∷ cs) q s small above ascend =
    let rest = ascend_rest c cs ascend in
    agree_then (changed (with_change b c) cs) (with_change b c) b q
    (changed_below (with_change b c) cs q (suc c.queue) (omega arith) rest.0 rest.1)
    (agree_other b c q (λ is. omega arith))

-- the test of a queue, by what is known of it
same_false : (from to : Corners) (q : ℕ) → Agree from to q → differs from to q ≡ false
same_false from to q h =
    ap not (and_from (slice_index from.lo q == slice_index to.lo q) (slice_index from.hi q == slice_index to.hi q) (eq-eqb _ _ h.lo) (eq-eqb _ _ h.hi))

false_same : (from to : Corners) (q : ℕ) → differs from to q ≡ false → Agree from to q
false_same from to q h =
    let parts = and_parts (slice_index from.lo q == slice_index to.lo q) (slice_index from.hi q == slice_index to.hi q)
    (not-false (slice_index from.lo q == slice_index to.lo q && slice_index from.hi q == slice_index to.hi q) h) in
    record { lo = eqb-true _ _ parts.0; hi = eqb-true _ _ parts.1 }

change_same : (c d : Change) → c.queue ≡ d.queue → c.least ≡ d.least → c.greatest ≡ d.greatest → c ≡ d
change_same c d e f g = λ i. record { queue = e i; least = f i; greatest = g i }

-- a queue that changed first is as its change has it
first_changed : (b : Corners) (c : Change) (cs : List Change) (s : ℕ) → queues_ascend (c ∷ cs) ≡ true → s ≡ c.queue → s < length b.lo → s < length b.hi
    → (slice_index (changed b (c ∷ cs)).lo s ≡ c.least) × (slice_index (changed b (c ∷ cs)).hi s ≡ c.greatest)
first_changed b c cs s ascend here lo hi =
    let rest = ascend_rest c cs ascend in
    let stays : Agree (changed (with_change b c) cs) (with_change b c) s = changed_below (with_change b c) cs s (suc c.queue) (omega arith) rest.0 rest.1 in (
      stays.lo ∙ ap (λ (k : ℕ). get_or (set b.lo k c.least) s 0) (sym here) ∙ get_or-set_same b.lo s c.least 0 lo,
      stays.hi ∙ ap (λ (k : ℕ). get_or (set b.hi k c.greatest) s 0) (sym here) ∙ get_or-set_same b.hi s c.greatest 0 hi,
    )

-- and differs from what it was
first_differs : (from to : Corners) (c : Change) (s : ℕ) → is_change from c ≡ true → s ≡ c.queue → slice_index to.lo s ≡ c.least → slice_index to.hi s ≡ c.greatest
    → differs from to s ≡ true
first_differs from to c s is here lo hi =
    let other : not (slice_index from.lo c.queue == c.least && slice_index from.hi c.queue == c.greatest) ≡ true =
    (and_parts (nat_le c.least c.greatest) (not (slice_index from.lo c.queue == c.least && slice_index from.hi c.queue == c.greatest)) is).1 in
    rw (lo, hi, here) other

-- changes in order, each of which is one, made in a box, are what changed from it
scan : (from : Corners) (n : ℕ) (b : Corners) (cs : List Change) (s : ℕ) → ((q : ℕ) → s ≤ q → Agree b from q) → AtLeast s cs → queues_ascend cs ≡ true
    → list_all (is_change from) cs ≡ true → ((c : Change) → In c cs → c.queue < s + n) → s + n ≤ length b.lo → s + n ≤ length b.hi
    → listed from (changed b cs) s n ≡ cs
scan from zero b [] s agree above ascend are small lo hi = refl
scan from zero b (c ∷ cs) s agree above ascend are small lo hi = (let less : c.queue < s + zero = small c (inl refl) in absurd (omega arith))
scan from (suc n) b [] s agree above ascend are small lo hi =
    rw (same_false from b s (agree_back b from s (agree s (omega arith)))) (scan from n b [] (suc s) (λ q more. agree q (omega arith)) tt refl refl (λ c there. absurd there) (omega arith) (omega arith))
scan from (suc n) b (c ∷ cs) s agree above ascend are small lo hi = elim (cases_eq s c.queue) [
  | inl here ↦ (let value = first_changed b c cs s ascend here (omega arith) (omega arith) in
      let parts = and_parts (is_change from c) (list_all (is_change from) cs) are in
      let differ : differs from (changed b (c ∷ cs)) s ≡ true = first_differs from (changed b (c ∷ cs)) c s parts.0 here value.0 value.1 in
      let rest = ascend_rest c cs ascend in
      let more : listed from (changed (with_change b c) cs) (suc s) n ≡ cs =
      scan from n (with_change b c) cs (suc s) (λ q more. agree_then (with_change b c) b from q (agree_other b c q (λ is. omega arith)) (agree q (omega arith)))
      (at_least_below (suc c.queue) (suc s) cs (omega arith) rest.0) rest.1 parts.1
      (λ d there. (let less : d.queue < s + suc n = small d (inr there) in omega arith))
      (omega (arith, length-set b.lo c.queue c.least)) (omega (arith, length-set b.hi c.queue c.greatest)) in
      rw differ (cc (change_same (change_to (changed b (c ∷ cs)) s) c here value.0 value.1, more)))
  | inr other ↦ (let less : s < c.queue = omega arith in
      let stays : Agree (changed b (c ∷ cs)) b s = changed_below b (c ∷ cs) s c.queue less (omega arith) ascend in
      rw (same_false from (changed b (c ∷ cs)) s (agree_back (changed b (c ∷ cs)) from s (agree_then (changed b (c ∷ cs)) b from s stays (agree s (omega arith)))))
      (scan from n b (c ∷ cs) (suc s) (λ q more. agree q (omega arith)) (omega arith) ascend are (λ d there. (let below : d.queue < s + suc n = small d there in omega arith))
      (omega arith) (omega arith)))
]

at_least_none : (cs : List Change) → AtLeast 0 cs
at_least_none [] = tt
at_least_none (c ∷ cs) = omega arith

pub changes_found : (from : Corners) (cs : List Change) → length from.lo ≡ length from.hi → queues_ascend cs ≡ true → list_all (is_change from) cs ≡ true
    → ((c : Change) → In c cs → c.queue < length from.lo) → changes from (changed from cs) ≡ cs
unfolding changes
changes_found from cs same ascend are small =
    scan from (length from.lo) from cs 0 (λ q more. record { lo = refl; hi = refl }) (at_least_none cs) ascend are
    (λ c there. (let less : c.queue < length from.lo = small c there in omega arith)) (omega arith) (omega arith)

-- a box that has what it is to have below a queue, and what it had from there on, is made by the changes from there on
reach : (from to : Corners) (n : ℕ) (b : Corners) (s : ℕ) → ((q : ℕ) → q < s → Agree b to q) → ((q : ℕ) → s ≤ q → Agree b from q)
    → length b.lo ≡ s + n → length b.hi ≡ s + n → length to.lo ≡ s + n → length to.hi ≡ s + n → changed b (listed from to s n) ≡ to
reach from to zero b s low high lo hi to_lo to_hi =
    corners_same b to (ext_get_or 0 b.lo to.lo (omega arith) (λ i small. (low i (omega arith)).lo)) (ext_get_or 0 b.hi to.hi (omega arith) (λ i small. (low i (omega arith)).hi))
  where
    corners_same : (a b : Corners) → a.lo ≡ b.lo → a.hi ≡ b.hi → a ≡ b
    corners_same a b e f = λ i. record { lo = e i; hi = f i }
reach from to (suc n) b s low high lo hi to_lo to_hi = elim (cases_Bool (differs from to s)) [
  | inl differ ↦ (let c = change_to to s in
      rw differ (reach from to n (with_change b (change_to to s)) (suc s)
      (λ q less. elim (cases_eq q s) [
        | inl here ↦ record {
          lo = ap (λ (k : ℕ). get_or (set b.lo s (slice_index to.lo s)) k 0) here ∙ get_or-set_same b.lo s (slice_index to.lo s) 0 (omega arith) ∙ ap (slice_index to.lo) (sym here);
          hi = ap (λ (k : ℕ). get_or (set b.hi s (slice_index to.hi s)) k 0) here ∙ get_or-set_same b.hi s (slice_index to.hi s) 0 (omega arith) ∙ ap (slice_index to.hi) (sym here);
        }
        | inr other ↦ agree_then (with_change b (change_to to s)) b to q (agree_other b (change_to to s) q other) (low q (omega arith))
      ])
      (λ q more. agree_then (with_change b (change_to to s)) b from q (agree_other b (change_to to s) q (λ is. omega arith)) (high q (omega arith)))
      (omega (arith, length-set b.lo s (slice_index to.lo s))) (omega (arith, length-set b.hi s (slice_index to.hi s))) (omega arith) (omega arith)))
  | inr same ↦ (let here : Agree from to s = false_same from to s same in
      rw same (reach from to n b (suc s)
      (λ q less. elim (cases_eq q s) [
        | inl is ↦ subst (λ (k : ℕ). Agree b to k) (sym is) (agree_then b from to s (high s (omega arith)) here)
        | inr other ↦ low q (omega arith)
      ])
      (λ q more. high q (omega arith)) (omega arith) (omega arith) (omega arith) (omega arith)))
]

pub changes_again : (from to : Corners) → length from.lo ≡ length from.hi → length to.lo ≡ length from.lo → length to.hi ≡ length from.lo
    → changed from (changes from to) ≡ to
unfolding changes
changes_again from to same lo hi =
    reach from to (length from.lo) from 0 (λ q less. absurd (omega arith)) (λ q more. record { lo = refl; hi = refl }) (omega arith) (omega arith) (omega arith) (omega arith)

-- what changed comes from a queue that differs
in_filter : {A : Type 0} (p : A → Bool) (x : A) (xs : List A) → In x (filter p xs) → In x xs × (p x ≡ true)
in_filter p x [] there = absurd there
in_filter p x (y ∷ ys) there = elim (cases_Bool (p y)) [
  | inl passes ↦ elim (rw passes at there) [ inl e ↦ (inl e, ap p e ∙ passes) | inr t ↦ (let rest = in_filter p x ys t in (inr rest.0, rest.1)) ]
  | inr fails ↦ (let rest = in_filter p x ys (rw fails at there) in (inr rest.0, rest.1))
]

listed_in : (from to : Corners) (s n : ℕ) (c : Change) → In c (listed from to s n) → (q : ℕ) × (s ≤ q) × (q < s + n) × (differs from to q ≡ true) × (c ≡ change_to to q)
listed_in from to s n c there =
    let made = In-of_map (change_to to) c (filter (differs from to) (numbers_from s n)) there in
    let kept = in_filter (differs from to) made.0 (numbers_from s n) made.1 in
    let range = In-of_numbers_from made.0 s n kept.0 in
    (made.0, range.0, range.1, kept.1, made.2)

pub changes_in : (from to : Corners) (c : Change) → In c (changes from to) → (q : ℕ) × (q < length from.lo) × (c ≡ change_to to q)
unfolding changes
changes_in from to c there = (let found = listed_in from to 0 (length from.lo) c there in (found.0, omega arith, found.4))

-- it is in order
listed_above : (from to : Corners) (s n : ℕ) (cs : List Change) → listed from to s n ≡ cs → AtLeast s cs
listed_above from to s n [] is = tt
listed_above from to s n (c ∷ cs) is =
    let found = listed_in from to s n c (subst (λ (ds : List Change). In c ds) (sym is) (inl refl)) in
    let queue : c.queue ≡ found.0 = ap (λ (d : Change). d.queue) found.4 in
    omega arith

listed_ascend : (from to : Corners) (n s : ℕ) → queues_ascend (listed from to s n) ≡ true
listed_ascend from to zero s = refl
listed_ascend from to (suc n) s = elim (cases_Bool (differs from to s)) [
  | inl differ ↦ rw differ (ascend_more (change_to to s) (listed from to (suc s) n) (listed_above from to (suc s) n _ refl) (listed_ascend from to n (suc s)))
  | inr same ↦ rw same (listed_ascend from to n (suc s))
]

pub changes_ascend : (from to : Corners) → queues_ascend (changes from to) ≡ true
unfolding changes
changes_ascend from to = listed_ascend from to (length from.lo) 0

-- each of it is a change
pub changes_are : (from to : Corners) → ((q : ℕ) → q < length from.lo → slice_index to.lo q ≤ slice_index to.hi q) → list_all (is_change from) (changes from to) ≡ true
unfolding changes
changes_are from to below = all_from (is_change from) (listed from to 0 (length from.lo)) (λ c there.
    (let found = listed_in from to 0 (length from.lo) c there in
    subst (λ (d : Change). is_change from d ≡ true) (sym found.4)
    (and_from (nat_le (slice_index to.lo found.0) (slice_index to.hi found.0)) (differs from to found.0) (le-leb _ _ (below found.0 (omega arith))) found.3)))

-- and it is no more than the queues
listed_count : (from to : Corners) (n s : ℕ) → length (listed from to s n) ≤ n
listed_count from to zero s = omega arith
listed_count from to (suc n) s = (let rest = listed_count from to n (suc s) in elim (cases_Bool (differs from to s)) [ inl differ ↦ rw differ (omega arith) | inr same ↦ rw same (omega arith) ])

pub changes_count : (from to : Corners) → length (changes from to) ≤ length from.lo
unfolding changes
changes_count from to = listed_count from to (length from.lo) 0
