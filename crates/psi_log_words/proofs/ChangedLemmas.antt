-- A box with changes is a box.
use Rattle.std.specs.Prelude.{◌≡◌, ℕ, ◌<◌, ◌≤◌, ◌^◌, List, [], ◌∷◌, slice_index, slice_set, true, not, ◌&&◌, ◌==◌, nat_le, refl}
use Rattle.std.specs.List.{list_all}
use Rattle.std.proofs.Common.{get_or, set, ap, sym, ◌∙◌, arith, inl, inr}
use Rattle.std.proofs.lemmas.Bool.{and_parts, leb-true, cases_eq}
use Rattle.std.proofs.lemmas.List.{length-set, get_or-set_same, get_or-set_other}
use Rattle.psi_state.specs.State.{Corners}
use Rattle.psi_state.specs.Members.{In}
use Rattle.psi_log_format.specs.Log.{IsState, IsBox}
use Rattle.psi_log_format.specs.Text.{Change}
use Rattle.psi_log_words.specs.Regions.{is_change, changed}
use Rattle.psi_log_words.proofs.NumberLemmas.{all_each}
use Rattle.psi_log_words.proofs.RegionLemmas.{IsChange}

set_state : (queues : ℕ) (x : List ℕ) (q v : ℕ) → IsState queues x → q < queues → v < 2 ^ 16 → IsState queues (set x q v)
set_state queues x q v is small fits = record {
  count = length-set x q v ∙ is.count;
  each = λ i. elim (cases_eq i q) [
    | inl e ↦ (let same : slice_index (set x q v) i ≡ v =
        ap (λ (k : ℕ). get_or (set x q v) k 0) e ∙ get_or-set_same x q v 0 (let count = is.count in omega arith) in omega arith)
    | inr ne ↦ (let same : slice_index (set x q v) i ≡ slice_index x i = get_or-set_other x q i v 0 ne in let old = is.each i in omega arith)
  ];
}

one_changed : (queues : ℕ) (b : Corners) (c : Change) → IsBox queues b → c.least ≤ c.greatest → IsChange queues c
    → IsBox queues (record { lo = slice_set b.lo c.queue c.least; hi = slice_set b.hi c.queue c.greatest })
one_changed queues b c is order change = record {
  lo = set_state queues b.lo c.queue c.least is.lo change.queue change.least;
  hi = set_state queues b.hi c.queue c.greatest is.hi change.queue change.greatest;
  below = record {
    same_length = length-set b.lo c.queue c.least ∙ is.below.same_length ∙ sym (length-set b.hi c.queue c.greatest);
    each = λ i small. elim (cases_eq i c.queue) [
      | inl e ↦ (let low : slice_index (set b.lo c.queue c.least) i ≡ c.least =
          ap (λ (k : ℕ). get_or (set b.lo c.queue c.least) k 0) e ∙ get_or-set_same b.lo c.queue c.least 0 (let q = change.queue in let count = is.lo.count in omega arith) in
          let high : slice_index (set b.hi c.queue c.greatest) i ≡ c.greatest =
          ap (λ (k : ℕ). get_or (set b.hi c.queue c.greatest) k 0) e ∙ get_or-set_same b.hi c.queue c.greatest 0 (let q = change.queue in let count = is.hi.count in omega arith) in
          omega arith)
      | inr ne ↦ (let low : slice_index (set b.lo c.queue c.least) i ≡ slice_index b.lo i = get_or-set_other b.lo c.queue i c.least 0 ne in
          let high : slice_index (set b.hi c.queue c.greatest) i ≡ slice_index b.hi i = get_or-set_other b.hi c.queue i c.greatest 0 ne in
          let old = is.below.each i (omega (arith, length-set b.lo c.queue c.least)) in omega arith)
    ];
  };
}

pub changed_box : (queues : ℕ) (b : Corners) (cs : List Change) → IsBox queues b → ((c : Change) → In c cs → c.least ≤ c.greatest) → ((c : Change) → In c cs → IsChange queues c)
    → IsBox queues (changed b cs)
changed_box queues b [] is order all = is
changed_box queues b (c ∷ cs) is order all =
    changed_box queues (record { lo = slice_set b.lo c.queue c.least; hi = slice_set b.hi c.queue c.greatest }) cs
    (one_changed queues b c is (order c (inl refl)) (all c (inl refl))) (λ d there. order d (inr there)) (λ d there. all d (inr there))

pub changes_ordered : (from : Corners) (cs : List Change) → list_all (is_change from) cs ≡ true → (c : Change) → In c cs → c.least ≤ c.greatest
changes_ordered from cs are c there =
    leb-true c.least c.greatest (and_parts (nat_le c.least c.greatest) (not (slice_index from.lo c.queue == c.least && slice_index from.hi c.queue == c.greatest))
    (all_each (is_change from) cs c are there)).0
