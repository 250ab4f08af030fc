-- The judgements of a report as walks over its horizons, its figures and its sums.
use Rattle.std.specs.Prelude.{◌≡◌, ℕ, zero, suc, ◌+◌, ◌-◌, ◌≤◌, List, [], ◌∷◌, ◌++◌, length, Bool, true, false, not, ◌&&◌, ◌==◌, nat_lt, cond, Option, Some, None, refl}
use Rattle.std.proofs.Common.{ap, sym, ◌∙◌, inl, inr, ◌⊎◌, arith}
use Rattle.std.proofs.lemmas.Bool.{cases_Bool}
use Rattle.std.proofs.lemmas.List.{length-append}
use Rattle.psi_report.specs.declared.figure.Item.{Item}
use Rattle.psi_report.specs.declared.figure.Item.TheVariants.{RewardGreatest}
use Rattle.psi_report.specs.declared.figure.HorizonCount.{HorizonCount}
use Rattle.psi_report.specs.declared.figure.Figure.{Figure}
use Rattle.psi_report_reader.specs.Sound.{is_next, horizons_flaw, is_sum, is_alike, agrees_behind, may_begin, sum_stands, may_stand, may_end, flaw_behind, figures_flaw, varies, varying_behind, varying_reward, first_of, first_flaw}
use Rattle.psi_report_reader.specs.Merging.{difference}
use Rattle.psi_report_reader.proofs.GroupLemmas.{begin-sum}
use Rattle.psi_report_reader.proofs.RightLemmas.{none-first}
use Rattle.psi_report_reader.proofs.WalkLemmas.{Alike, Walk, walked, judged, judged-own, walked-range, walked-wrong}

-- ---- horizons

-- by the horizon before it and how many samples are left
abbrev horizon_walk : Walk (Option ℕ × ℕ) HorizonCount
horizon_walk = record { may = λ s c cs. is_next s.0 s.1 c; next = λ s c. (Some c.horizon, s.1 - c.count); ends = λ s. s.1 == 0; told = λ c. true; seen = λ c. 0 }

horizons-walked : (k : ℕ) (last : Option ℕ) (left : ℕ) (cs : List HorizonCount) → horizons_flaw k last left cs ≡ walked horizon_walk k (last, left) cs
horizons-walked k last left [] = refl
horizons-walked k last left (c ∷ cs) =
    ap (λ (o : Option ℕ). cond {A = Option ℕ} (is_next last left c) o (Some k)) (horizons-walked (k + 1) (Some c.horizon) (left - c.count) cs)

pub horizons-range : (left p : ℕ) (cs : List HorizonCount) → horizons_flaw 0 None left cs ≡ Some p → p ≤ length cs
horizons-range left p cs is = (let most = (walked-range horizon_walk 0 (None, left) cs p (sym (horizons-walked 0 None left cs) ∙ is)).1 in omega arith)

pub horizons-wrong : (left i : ℕ) (cs ds : List HorizonCount) → horizons_flaw 0 None left cs ≡ Some i → horizons_flaw 0 None left ds ≡ None → Alike (suc i) cs ds → ⊥
horizons-wrong left i cs ds wrong right alike =
    walked-wrong horizon_walk (record { near = λ s c xs ys same. refl; alone = λ s c xs ys none. refl }) cs ds 0 i i (suc i) (None, left)
    (sym (horizons-walked 0 None left cs) ∙ wrong) (omega arith) (sym (horizons-walked 0 None left ds) ∙ right) (judged-own horizon_walk (λ c. refl) i cs) alike

-- ---- figures

-- by the figures before it, of which this is the last, if there is one
abbrev figure_may : ℕ → List Figure → Option Figure → Figure → List Figure → Bool
figure_may n before None f fs = may_begin f.item && sum_stands n before f fs
figure_may n before (Some e) f fs = may_stand n before e f fs

abbrev figure_ends : ℕ → Option Figure → Bool
figure_ends n None = false
figure_ends n (Some e) = may_end (nat_lt 0 n) e.item

-- a sum is judged by two more figures, which may be its extremes
abbrev pub figure_walk : ℕ → Walk (List Figure × Option Figure) Figure
figure_walk n = record {
  may = λ s f fs. figure_may n s.0 s.1 f fs;
  next = λ s f. (s.0 ++ f ∷ [], Some f);
  ends = λ s. figure_ends n s.1;
  told = λ f. true;
  seen = λ f. cond {A = ℕ} (is_sum f.item) 2 0;
}

behind-walked : (n : ℕ) (before : List Figure) (e : Figure) (fs : List Figure) → flaw_behind n before e fs ≡ walked (figure_walk n) (length before) (before, Some e) fs
behind-walked n before e [] = refl
behind-walked n before e (f ∷ fs) =
    ap (λ (o : Option ℕ). cond {A = Option ℕ} (may_stand n before e f fs) o (Some (length before)))
    (behind-walked n (before ++ f ∷ []) f fs ∙ ap (λ (k : ℕ). walked (figure_walk n) k (before ++ f ∷ [], Some f) fs) (length-append before (f ∷ [])))

figures-walked : (n : ℕ) (fs : List Figure) → figures_flaw n fs ≡ walked (figure_walk n) 0 ([], None) fs
figures-walked n [] = refl
figures-walked n (f ∷ fs) = ap (λ (o : Option ℕ). cond {A = Option ℕ} (may_begin f.item && sum_stands n [] f fs) o (Some 0)) (behind-walked n (f ∷ []) f fs)

agrees-same : (n : ℕ) (f : Figure) (fs gs : List Figure) → Alike 2 fs gs → agrees_behind n f fs ≡ agrees_behind n f gs
agrees-same n f fs gs alike = grind (arith, alike 0 (omega arith), alike 1 (omega arith))

figures-near : (n : ℕ) (before : List Figure) (last : Option Figure) (f : Figure) (fs gs : List Figure) → Alike (cond {A = ℕ} (is_sum f.item) 2 0) fs gs
    → figure_may n before last f fs ≡ figure_may n before last f gs
figures-near n before last f fs gs alike = elim (cases_Bool (is_sum f.item)) [
  | inl sum ↦ grind (arith, agrees-same n f fs gs (rw sum at alike))
  | inr isnt ↦ grind (arith, begin-sum f.item)
]

-- ---- rewards where no queue varies

abbrev is_reward : Item → Bool
is_reward RewardGreatest = true
is_reward _ = false

-- by the figure before it, if there is one
abbrev steady : Option Figure → Figure → Bool
steady None f = true
steady (Some e) f = not (varies e f)

abbrev varying_walk : Walk (Option Figure) Figure
varying_walk = record { may = λ s f fs. steady s f; next = λ s f. Some f; ends = λ s. true; told = λ f. is_reward f.item; seen = λ f. 0 }

varying-walked : (k : ℕ) (e : Figure) (fs : List Figure) → varying_behind k e fs ≡ walked varying_walk k (Some e) fs
varying-walked k e [] = refl
varying-walked k e (f ∷ fs) = grind (arith, varying-walked (k + 1) f fs)

reward-walked : (fs : List Figure) → varying_reward fs ≡ walked varying_walk 0 None fs
reward-walked [] = refl
reward-walked (f ∷ fs) = varying-walked 1 f fs

-- ---- both

first-is : (j k : Option ℕ) (p : ℕ) → first_of j k ≡ Some p → (j ≡ Some p) ⊎ (k ≡ Some p)
first-is j k p is = grind arith

pub first-range : (n : ℕ) (fs : List Figure) (p : ℕ) → first_flaw n fs ≡ Some p → p ≤ length fs
first-range n fs p is = elim (first-is (figures_flaw n fs) (varying_reward fs) p is) [
  | inl stands ↦ (let most = (walked-range (figure_walk n) 0 ([], None) fs p (sym (figures-walked n fs) ∙ stands)).1 in omega arith)
  | inr varying ↦ (let most = (walked-range varying_walk 0 None fs p (sym (reward-walked fs) ∙ varying)).1 in omega arith)
]

pub first-wrong : (n i : ℕ) (fs gs : List Figure) → first_flaw n fs ≡ Some i → first_flaw n gs ≡ None → Alike (judged (figure_walk n) i fs) fs gs → ⊥
first-wrong n i fs gs wrong right alike =
    let none = none-first (figures_flaw n gs) (varying_reward gs) right in
    elim (first-is (figures_flaw n fs) (varying_reward fs) i wrong) [
      | inl stands ↦ walked-wrong (figure_walk n) (record { near = λ s f xs ys same. figures-near n s.0 s.1 f xs ys same; alone = λ s f xs ys none. absurd cc }) fs gs 0 i i
          (judged (figure_walk n) i fs) ([], None) (sym (figures-walked n fs) ∙ stands) (omega arith) (sym (figures-walked n gs) ∙ none.0) (omega arith) alike
      | inr varying ↦ walked-wrong varying_walk (record { near = λ s f xs ys same. refl; alone = λ s f xs ys none. refl }) fs gs 0 i i
          (judged (figure_walk n) i fs) None (sym (reward-walked fs) ∙ varying) (omega arith) (sym (reward-walked gs) ∙ none.1) (fewer fs i) alike
    ]
  where
    fewer : (fs : List Figure) (i : ℕ) → judged varying_walk i fs ≤ judged (figure_walk n) i fs
    fewer [] i = omega arith
    fewer (f ∷ fs) zero = omega arith
    fewer (f ∷ fs) (suc i) = (let rest = fewer fs i in omega arith)

-- ---- sums of another network

-- by the sums that are left of the first report
abbrev alike_next : List Figure → Figure → Bool
alike_next [] g = false
alike_next (f ∷ fs) g = is_alike f g

abbrev behind_next : List Figure → List Figure
behind_next [] = []
behind_next (f ∷ fs) = fs

abbrev none_left : List Figure → Bool
none_left [] = true
none_left (f ∷ fs) = false

abbrev sum_walk : Walk (List Figure) Figure
sum_walk = record { may = λ s g gs. alike_next s g; next = λ s g. behind_next s; ends = none_left; told = λ g. true; seen = λ g. 0 }

difference-walked : (k : ℕ) (fs gs : List Figure) → difference k fs gs ≡ walked sum_walk k fs gs
difference-walked k [] [] = refl
difference-walked k [] (g ∷ gs) = refl
difference-walked k (f ∷ fs) [] = refl
difference-walked k (f ∷ fs) (g ∷ gs) = ap (λ (o : Option ℕ). cond {A = Option ℕ} (is_alike f g) o (Some k)) (difference-walked (k + 1) fs gs)

pub difference-range : (p : ℕ) (fs gs : List Figure) → difference 0 fs gs ≡ Some p → p ≤ length gs
difference-range p fs gs is = (let most = (walked-range sum_walk 0 fs gs p (sym (difference-walked 0 fs gs) ∙ is)).1 in omega arith)

pub difference-wrong : (i : ℕ) (fs gs hs : List Figure) → difference 0 fs gs ≡ Some i → difference 0 fs hs ≡ None → Alike (suc i) gs hs → ⊥
difference-wrong i fs gs hs wrong right alike =
    walked-wrong sum_walk (record { near = λ s g xs ys same. refl; alone = λ s g xs ys none. refl }) gs hs 0 i i (suc i) fs
    (sym (difference-walked 0 fs gs) ∙ wrong) (omega arith) (sym (difference-walked 0 fs hs) ∙ right) (judged-own sum_walk (λ g. refl) i gs) alike
