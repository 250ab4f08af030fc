-- Reports are of other networks exactly where they show other queues or rewards, and no samples have a report with the lines up to such a one.
use Rattle.std.specs.Prelude.{◌≡◌, ℕ, suc, ◌+◌, ◌*◌, ◌≤◌, List, [], ◌∷◌, map, length, All, true, ◌==◌, Option, Some, None, Err, refl}
use Rattle.std.proofs.Common.{sym, ◌∙◌, subst, arith}
use Rattle.std.proofs.lemmas.Bool.{cond_both}
use Rattle.std.proofs.lemmas.List.Elements.{All-head, All-tail, filter_passes}
use Rattle.std.proofs.lemmas.List.Sums.{length-filter, count_by-le-length}
use Rattle.std.proofs.lemmas.Slice.Eq.{bytes_eq-Decides}
use Rattle.psi_report.specs.Samples.{met_states}
use Rattle.psi_report.specs.declared.figure.Figure.{Figure}
use Rattle.psi_report_reader.specs.declared.error.MergeError.TheVariants.{OtherNetwork}
use Rattle.psi_report.specs.Contents.{Contents}
use Rattle.psi_report.specs.Report.{contents_of}
use Rattle.psi_report_reader.specs.Reading.{IsReport}
use Rattle.psi_report_reader.specs.Sound.{is_sum, is_alike, line_at, flaw_of}
use Rattle.psi_report_reader.specs.Merging.{sums_of, difference, line_of_sum, merged_unless, merged}
use Rattle.psi_report_reader.specs.Lines.{IsNumbered, shown, NetworksAreTold, OtherLinesAreNone}
use Rattle.psi_report_reader.proofs.SampleLemmas.{samples-fit}
use Rattle.psi_report_reader.proofs.SoundLemmas.{report_sound}
use Rattle.psi_report_reader.proofs.FiguresJoinedLemmas.{difference-none}
use Rattle.psi_report_reader.proofs.FieldLemmas.{rows-alike, lines-few}
use Rattle.psi_report_reader.proofs.GroupLemmas.{rows_before, sum-place}
use Rattle.psi_report_reader.proofs.RightLemmas.{right-parts}
use Rattle.psi_report_reader.proofs.ShownLemmas.{shown_by}
use Rattle.psi_report_reader.proofs.SumNamesLemmas.{same-sums}
use Rattle.psi_report_reader.proofs.WalkLemmas.{Alike}
use Rattle.psi_report_reader.proofs.WrongLinesLemmas.{difference-range, difference-wrong}
use Rattle.psi_report_reader.proofs.WrongLemmas.{TellAlike, tell-alike}

-- ---- what sums show

shown-alike : (f g : Figure) → is_sum f.item ≡ true → shown_by f ≡ shown_by g → is_alike f g ≡ true
shown-alike f g is same = grind (arith, (bytes_eq-Decides f.name g.name).1)

none-shown : (k : ℕ) (fs gs : List Figure) → difference k fs gs ≡ None → map shown_by fs ≡ map shown_by gs
none-shown k [] [] is = refl
none-shown k [] (g ∷ gs) is = absurd cc
none-shown k (f ∷ fs) [] is = absurd cc
none-shown k (f ∷ fs) (g ∷ gs) is = grind (arith, same-sums f.item g.item, (bytes_eq-Decides f.name g.name).0, none-shown (k + 1) fs gs)

abbrev IsSum : Figure → Type 0
IsSum f = is_sum f.item ≡ true

shown-none : (k : ℕ) (fs gs : List Figure) → All IsSum fs → map shown_by fs ≡ map shown_by gs → difference k fs gs ≡ None
shown-none k [] [] are same = refl
shown-none k [] (g ∷ gs) are same = absurd cc
shown-none k (f ∷ fs) [] are same = absurd cc
shown-none k (f ∷ fs) (g ∷ gs) are same = rw (shown-alike f g (All-head IsSum f fs are) cc) (shown-none (k + 1) fs gs (All-tail IsSum f fs are) cc)

pub shown-same : (a b : Contents) → shown a ≡ shown b → difference 0 (sums_of a.figures) (sums_of b.figures) ≡ None
shown-same a b same = shown-none 0 (sums_of a.figures) (sums_of b.figures) (filter_passes (λ (f : Figure). is_sum f.item) a.figures) same

pub networks_told : NetworksAreTold
unfolding merged
networks_told a b = grind (arith, none-shown 0 (sums_of a.figures) (sums_of b.figures), shown-same a b)

-- ---- the line of another network

-- the sums of two reports are alike where the figures are
sums-alike : (n k : ℕ) (b d : Contents) → flaw_of b ≡ None → flaw_of d ≡ None → b.met ≡ d.met → b.met ≡ n → Alike (suc (rows_before n k)) b.figures d.figures
    → Alike (suc k) (sums_of b.figures) (sums_of d.figures)
sums-alike n k b d right other same met alike j less =
    sum-place n b.figures (rw met at (right-parts b right).figures) j
    ∙ alike (rows_before n j) (grind arith)
    ∙ sym (sum-place n d.figures (rw (← same, met) at (right-parts d other).figures) j)

module _ (a b d : Contents) (numbered : IsNumbered b) (right : flaw_of b ≡ None) (is : IsReport d) (other : flaw_of d ≡ None) (none : difference 0 (sums_of a.figures) (sums_of d.figures) ≡ None) where
  sum-wrong : (k : ℕ) → difference 0 (sums_of a.figures) (sums_of b.figures) ≡ Some k → (3 ≤ line_of_sum b k → TellAlike (line_of_sum b k) b d) → ⊥
  sum-wrong k wrong tell =
      let most = difference-range k (sums_of a.figures) (sums_of b.figures) wrong in
      let count = length-filter (λ (f : Figure). is_sum f.item) b.figures in
      let sums = count_by-le-length (λ (f : Figure). is_sum f.item) b.figures in
      let small = lines-few b numbered in
      let few : rows_before b.met k ≤ 3 * k = cond_both (b.met == 0) k (3 * k) (λ m. m ≤ 3 * k) (λ e. omega arith) (λ e. omega arith) in
      let place : line_of_sum b k ≡ line_at ((5 + length b.horizons) + rows_before b.met k) = refl in
      let same = tell (omega arith) in
      difference-wrong k (sums_of a.figures) (sums_of b.figures) (sums_of d.figures) wrong none
      (sums-alike b.met k b d right other same.met refl (λ j less. same.figures j (omega arith)))

pub other_lines : OtherLinesAreNone
unfolding merged contents_of
other_lines a b line numbered right is net outcomes others are own few same alike = go (difference 0 (sums_of a.figures) (sums_of b.figures)) refl is
  where
    go : (o : Option ℕ) → difference 0 (sums_of a.figures) (sums_of b.figures) ≡ o → merged_unless o a b ≡ Err (OtherNetwork line) → ⊥
    go None at is = grind arith
    go (Some k) at is =
        let place : line_of_sum b k ≡ line = cc in
        let other = samples-fit net others own few in
        let rows = rows-alike line b (contents_of net others) numbered.report other alike in
        sum-wrong a b (contents_of net others) numbered right other (report_sound net others own)
        (subst (λ (c : Contents). difference 0 (sums_of c.figures) (sums_of (contents_of net others).figures) ≡ None) same (difference-none net (met_states outcomes) (met_states others))) k at
        (λ least. rw place (tell-alike line b (contents_of net others) numbered.report other (rw place at least) rows))
