-- No samples have a report with the lines by which a line of another is wrong.
use Rattle.std.specs.Prelude.{◌≡◌, ℕ, zero, suc, ◌+◌, ◌-◌, ◌≤◌, List, [], ◌∷◌, ◌++◌, map, length, drop, codes, decimal, All, nat_lt, cond, Option, Some, None, refl}
use Rattle.std.specs.List.{slice_get}
use Rattle.std.proofs.Common.{ap, sym, ◌∙◌, append_assoc, inl, inr, arith}
use Rattle.std.proofs.lemmas.Bool.{cases_Bool}
use Rattle.std.proofs.lemmas.List.{length-map}
use Rattle.std.proofs.lemmas.List.Elements.{All-head, All-tail}
use Rattle.std.proofs.Math.Seq.{drop-append-add}
use Rattle.psi_report.specs.Text.{number_rows, figure_row, count_row, contents_rows}
use Rattle.psi_report.specs.declared.figure.HorizonCount.{HorizonCount}
use Rattle.psi_report.specs.declared.figure.Figure.{Figure}
use Rattle.psi_report.specs.Contents.{Contents}
use Rattle.psi_report.specs.Report.{contents_of}
use Rattle.psi_report_reader.specs.Reading.{IsReport}
use Rattle.psi_report_reader.specs.Sound.{horizons_flaw, first_flaw, line_at, figures_line, rows_line, flaw_of}
use Rattle.psi_report_reader.specs.Lines.{IsNumbered, begins_with_sum, lines_judged, WrongLinesAreNone}
use Rattle.psi_report_reader.proofs.SampleLemmas.{samples-fit}
use Rattle.psi_report_reader.proofs.SoundLemmas.{report_sound}
use Rattle.psi_report_reader.proofs.FieldLemmas.{FitsCount, FitsFigure, last_line, rows-alike, lines-few, number-same, count-same, figure-same, count-figure, count-last, figure-last}
use Rattle.psi_report_reader.proofs.RightLemmas.{right-parts}
use Rattle.psi_report_reader.proofs.WalkLemmas.{Alike, alike-fewer, judged}
use Rattle.psi_report_reader.proofs.WrongLinesLemmas.{figure_walk, horizons-range, horizons-wrong, first-range, first-wrong}

-- ---- what rows that are alike tell

abbrev Rows : Type 0
Rows = List (List (List ℕ))

-- the rows after those of the horizons, and after the first four
abbrev behind : List Figure → Rows
behind fs = map figure_row fs ++ last_line

abbrev tail_rows : List HorizonCount → List Figure → Rows
tail_rows cs fs = map count_row cs ++ behind fs

figures-alike : (m : ℕ) (fs gs : List Figure) → All FitsFigure fs → All FitsFigure gs → Alike m (behind fs) (behind gs) → Alike m fs gs
figures-alike m [] [] first second alike j less = refl
figures-alike m [] (g ∷ gs) first second alike j less = (let e = alike 0 (omega arith) in let row : figure_row g ≡ [] ∷ [] = cc in absurd (figure-last g row))
figures-alike m (f ∷ fs) [] first second alike j less = (let e = alike 0 (omega arith) in let row : figure_row f ≡ [] ∷ [] = cc in absurd (figure-last f row))
figures-alike m (f ∷ fs) (g ∷ gs) first second alike zero less =
    ap Some (figure-same f g (All-head FitsFigure f fs first) (All-head FitsFigure g gs second) (let e = alike 0 less in cc))
figures-alike m (f ∷ fs) (g ∷ gs) first second alike (suc j) less =
    figures-alike (m - 1) fs gs (All-tail FitsFigure f fs first) (All-tail FitsFigure g gs second) (λ i small. alike (suc i) (omega arith)) j (omega arith)

-- no horizon stands there
no-count : (h : HorizonCount) (fs : List Figure) → slice_get (behind fs) 0 ≡ Some (count_row h) → ⊥
no-count h [] same = (let row : count_row h ≡ [] ∷ [] = cc in count-last h row)
no-count h (f ∷ fs) same = (let row : count_row h ≡ figure_row f = cc in count-figure h f row)

-- the same horizons, and after them the same figures
record AreAlike (m : ℕ) (cs ds : List HorizonCount) (fs gs : List Figure) : Type 0 where
  horizons : Alike m cs ds
  figures : Alike (m - length cs) fs gs

tails-alike : (m : ℕ) (cs ds : List HorizonCount) (fs gs : List Figure) → All FitsCount cs → All FitsCount ds → All FitsFigure fs → All FitsFigure gs
    → Alike m (tail_rows cs fs) (tail_rows ds gs) → AreAlike m cs ds fs gs
tails-alike zero cs ds fs gs first second own other alike = record { horizons = λ j less. absurd (omega arith); figures = λ j less. absurd (omega arith) }
tails-alike (suc m) [] [] fs gs first second own other alike = record { horizons = λ j less. refl; figures = λ j less. figures-alike (suc m) fs gs own other alike j (omega arith) }
tails-alike (suc m) [] (d ∷ ds) fs gs first second own other alike = absurd (no-count d fs (alike 0 (omega arith)))
tails-alike (suc m) (c ∷ cs) [] fs gs first second own other alike = absurd (no-count c gs (sym (alike 0 (omega arith))))
tails-alike (suc m) (c ∷ cs) (d ∷ ds) fs gs first second own other alike =
    let rest = tails-alike m cs ds fs gs (All-tail FitsCount c cs first) (All-tail FitsCount d ds second) own other (λ j less. alike (suc j) (omega arith)) in
    record { horizons = each rest.horizons; figures = λ j less. rest.figures j (omega arith) }
  where
    each : Alike m cs ds → Alike (suc m) (c ∷ cs) (d ∷ ds)
    each rest zero less = ap Some (count-same c d (All-head FitsCount c cs first) (All-head FitsCount d ds second) (let e = alike 0 less in cc))
    each rest (suc j) less = rest j (omega arith)

all-rows : (c : Contents) → contents_rows c ++ last_line ≡ (codes "item" ∷ codes "name" ∷ codes "value" ∷ []) ∷ (number_rows c.samples c.met ++ tail_rows c.horizons c.figures)
unfolding contents_rows number_rows
all-rows c = ap (λ (rows : Rows). (codes "item" ∷ codes "name" ∷ codes "value" ∷ []) ∷ (number_rows c.samples c.met ++ rows))
    (append_assoc (map count_row c.horizons) (map figure_row c.figures) last_line)

-- two reports with the same first rows, three or more
pub record TellAlike (n : ℕ) (c d : Contents) : Type 0 where
  pub samples : c.samples ≡ d.samples
  pub met : c.met ≡ d.met
  pub horizons : Alike (n - 4) c.horizons d.horizons
  pub figures : Alike (n - 4 - length c.horizons) c.figures d.figures

pub tell-alike : (n : ℕ) (c d : Contents) → IsReport c → IsReport d → 3 ≤ n → Alike n (contents_rows c ++ last_line) (contents_rows d ++ last_line) → TellAlike n c d
unfolding number_rows
tell-alike n c d is other least alike =
    let rows = rw (all-rows c, all-rows d) at alike in
    let first = rows 1 (omega arith) in
    let second = rows 2 (omega arith) in
    let one : codes "samples" ∷ codes "-" ∷ decimal c.samples ∷ [] ≡ codes "samples" ∷ codes "-" ∷ decimal d.samples ∷ [] = cc in
    let two : codes "met" ∷ codes "-" ∷ decimal c.met ∷ [] ≡ codes "met" ∷ codes "-" ∷ decimal d.met ∷ [] = cc in
    let both = tails-alike (n - 4) c.horizons d.horizons c.figures d.figures is.horizons other.horizons is.figures other.figures (λ j less. rows (suc (suc (suc (suc j)))) (omega arith)) in
    record {
      samples = number-same c.samples d.samples (codes "samples") is.samples other.samples one;
      met = number-same c.met d.met (codes "met") is.met other.met two;
      horizons = both.horizons;
      figures = both.figures;
    }

-- ---- by how many lines a line is judged

-- a figure is judged by itself, and a sum by two more
figure-lines : (n : ℕ) (fs : List Figure) (i : ℕ) → judged (figure_walk n) i fs ≡ suc i + cond {A = ℕ} (begins_with_sum (drop i (map figure_row fs))) 2 0
unfolding figure_row
figure-lines n [] zero = refl
figure-lines n [] (suc i) = omega arith
figure-lines n (f ∷ fs) zero = grind arith
figure-lines n (f ∷ fs) (suc i) = (let rest = figure-lines n fs i in omega arith)

judged-least : (c : Contents) (line : ℕ) → line ≤ lines_judged c line
unfolding lines_judged
judged-least c line = elim (cases_Bool (begins_with_sum (drop (line - 1) (contents_rows c)))) [ inl is ↦ rw is (omega arith) | inr is ↦ rw is (omega arith) ]

judged-figure : (c : Contents) (n i : ℕ) → lines_judged c (5 + length c.horizons + i) ≡ 4 + (length c.horizons + judged (figure_walk n) i c.figures)
unfolding lines_judged contents_rows number_rows
judged-figure c n i =
    let counts : length (map count_row c.horizons) ≡ length c.horizons = length-map c.horizons count_row in
    let at : 5 + length c.horizons + i - 1 ≡ suc (suc (suc (suc (length (map count_row c.horizons) + i)))) = omega arith in
    rw (at, drop-append-add (map count_row c.horizons) (map figure_row c.figures) i) (grind (arith, figure-lines n c.figures i))

-- ---- two reports

module _ (c d : Contents) (numbered : IsNumbered c) (other : IsReport d) (right : flaw_of d ≡ None) (line : ℕ) (tell : 3 ≤ line → TellAlike (lines_judged c line) c d) where
  -- a wrong horizon, or a wrong figure
  rows-wrong : (o : Option ℕ) → horizons_flaw 0 None c.met c.horizons ≡ o → rows_line c o ≡ Some line → ⊥
  rows-wrong (Some k) wrong is =
      let at : line_at (5 + k) ≡ line = cc in
      let range = horizons-range c.met k c.horizons wrong in
      let small = lines-few c numbered in
      let least = judged-least c line in
      let same = tell (omega arith) in
      horizons-wrong c.met k c.horizons d.horizons wrong (rw (← same.met) at (right-parts d right).horizons) (alike-fewer (suc k) (lines_judged c line - 4) c.horizons d.horizons (omega arith) same.horizons)
  rows-wrong None wrong is = figure-wrong (first_flaw c.met c.figures) refl is
    where
      figure-wrong : (o : Option ℕ) → first_flaw c.met c.figures ≡ o → figures_line c o ≡ Some line → ⊥
      figure-wrong None wrong is = absurd cc
      figure-wrong (Some i) wrong is =
          let at : line_at (5 + length c.horizons + i) ≡ line = cc in
          let range = first-range c.met c.figures i wrong in
          let small = lines-few c numbered in
          let whole : line ≡ 5 + length c.horizons + i = omega arith in
          let lines : lines_judged c line ≡ 4 + (length c.horizons + judged (figure_walk c.met) i c.figures) = ap (lines_judged c) whole ∙ judged-figure c c.met i in
          let same = tell (omega arith) in
          first-wrong c.met i c.figures d.figures wrong (rw (← same.met) at (right-parts d right).first)
          (alike-fewer (judged (figure_walk c.met) i c.figures) (lines_judged c line - 4 - length c.horizons) c.figures d.figures (omega arith) same.figures)

  lines-wrong : flaw_of c ≡ Some line → ⊥
  unfolding flaw_of
  lines-wrong is = elim (cases_Bool (nat_lt c.samples c.met)) [
    | inl more ↦ (
        let at : ◌≡◌ {A = Option ℕ} (Some 3) (Some line) = rw more at is in
        let three : 3 ≡ line = cc in
        let same = tell (omega arith) in
        let whole = rw (← same.samples, ← same.met, more) at right in
        absurd cc)
    | inr few ↦ rows-wrong (horizons_flaw 0 None c.met c.horizons) refl (rw few at is)
  ]

pub wrong_lines : WrongLinesAreNone
wrong_lines c line numbered wrong net outcomes are few alike =
    let other = samples-fit net outcomes are few in
    let least = judged-least c line in
    lines-wrong c (contents_of net outcomes) numbered other (report_sound net outcomes are) line
    (λ three. tell-alike (lines_judged c line) c (contents_of net outcomes) numbered.report other (omega arith) (rows-alike (lines_judged c line) c (contents_of net outcomes) numbered.report other alike)) wrong
