-- Figures, one after another as a loop takes them.
use Rattle.std.specs.Prelude.{◌≡◌, ℕ, zero, suc, ◌+◌, ◌<◌, ◌≤◌, ◌⊎◌, List, [], ◌∷◌, length, take, drop, min, true, false, Some, refl}
use Rattle.std.proofs.Common.{get_or, ap, sym, ◌∙◌, inl, inr, arith}
use Rattle.std.proofs.lemmas.Bool.{cases_lt}
use Rattle.std.proofs.lemmas.List.{drop_more, drop_all, get_or_default}
use Rattle.psi_report.specs.Joined.{paired}
use Rattle.psi_report.proofs.PairLemmas.{paired_all, length_paired, get_or-paired}
use Rattle.psi_report.specs.declared.figure.Figure.{Figure}
use Rattle.psi_report_reader.specs.Merging.{difference, joined_value, joined_figure, is_value, large_figure}
use Rattle.psi_report_reader.proofs.JudgeLemmas.{none}
use Rattle.psi_report_reader.proofs.OrderLemmas.{by_order}

get_or-joined : (fs gs : List Figure) (i : ℕ) (d : Figure) → i < length fs → i < length gs
    → get_or (paired joined_figure fs gs) i d ≡ joined_figure (get_or fs i d) (get_or gs i d)
get_or-joined [] gs i d one two = absurd (omega arith)
get_or-joined (f ∷ fs) [] i d one two = absurd (omega arith)
get_or-joined (f ∷ fs) (g ∷ gs) zero d one two = refl
get_or-joined (f ∷ fs) (g ∷ gs) (suc i) d one two = get_or-joined fs gs i d (omega arith) (omega arith)

module _ (fs hs gs : List Figure) (i : ℕ) (f g : Figure) (one : i < length fs) (two : i < length gs) (is : hs ≡ paired joined_figure fs (take i gs)) (first : f ≡ get_or hs i f)
    (second : g ≡ get_or gs i g) where
  joined-at : get_or (paired joined_figure fs gs) i f ≡ joined_figure f g
  joined-at =
      let read : f ≡ get_or fs i f = first ∙ ap (λ xs. get_or xs i f) is ∙ get_or-paired joined_figure fs gs i f in
      let other : g ≡ get_or gs i f = second ∙ get_or_default gs i g f two in
      get_or-joined fs gs i f one two ∙ ap (λ x. joined_figure x (get_or gs i f)) (sym read) ∙ ap (joined_figure f) (sym other)

  -- what two figures come to fits, or is the first that doesn't
  pub paired-fits : is_value (joined_value f.item f.value g.value) ≡ true
      → large_figure (i + 1) (drop (i + 1) (paired joined_figure fs gs)) ≡ large_figure i (drop i (paired joined_figure fs gs))
  paired-fits fits = rw (drop_more (paired joined_figure fs gs) i f (rw (length_paired joined_figure fs gs) one), joined-at, fits) refl

  pub paired-large : is_value (joined_value f.item f.value g.value) ≡ false → large_figure i (drop i (paired joined_figure fs gs)) ≡ Some i
  paired-large large = rw (drop_more (paired joined_figure fs gs) i f (rw (length_paired joined_figure fs gs) one), joined-at, large) refl

-- all places are joined where one of the lists ends
pub paired-end : (fs hs gs : List Figure) (i : ℕ) → (length fs ≤ i) ⊎ (length gs ≤ i) → hs ≡ paired joined_figure fs (take i gs) → hs ≡ paired joined_figure fs gs
paired-end fs hs gs i (inr past) is = is ∙ paired_all joined_figure fs gs i past
paired-end fs hs gs i (inl past) is = is ∙ short fs gs i past
  where
    short : (fs gs : List Figure) (i : ℕ) → length fs ≤ i → paired joined_figure fs (take i gs) ≡ paired joined_figure fs gs
    short [] gs i past = refl
    short (f ∷ fs) [] zero past = refl
    short (f ∷ fs) [] (suc i) past = refl
    short (f ∷ fs) (g ∷ gs) zero past = absurd (omega arith)
    short (f ∷ fs) (g ∷ gs) (suc i) past = ap (λ xs. joined_figure f g ∷ xs) (short fs gs i (omega arith))

-- after both lists' common length the shorter one has ended
pub difference-at-end : (fs gs : List Figure) (i both : ℕ) → i ≡ both → (length fs ≡ length gs → ⊥) → both ≡ min (length fs) (length gs)
    → Some both ≡ difference i (drop i fs) (drop i gs)
difference-at-end fs gs i both at other least = by_order (length fs) (length gs)
    (λ same. absurd (other same))
    (λ less. rw (drop_all i fs (omega arith), drop_more gs i none (omega arith)) (ap Some (sym at)))
    (λ more. rw (drop_more fs i none (omega arith), drop_all i gs (omega arith)) (ap Some (sym at)))

-- after both lists' common length one of them has ended
pub one-ends : (m n i : ℕ) → min m n ≤ i → (m ≤ i) ⊎ (n ≤ i)
one-ends m n i past = elim (cases_lt i m) [ inl less ↦ inr (omega arith) | inr most ↦ inl most ]
