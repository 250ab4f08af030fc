-- Each horizon, each figure and each sum stands on the line that is told of it.
use Rattle.std.specs.Prelude.{◌≡◌, ℕ, zero, suc, ◌+◌, ◌-◌, List, [], ◌∷◌, ◌++◌, map, length, Some, option_map, refl}
use Rattle.std.specs.List.{slice_get}
use Rattle.std.proofs.Common.{ap, sym, ◌∙◌, arith}
use Rattle.std.proofs.lemmas.List.{length-map}
use Rattle.std.proofs.lemmas.Option.{slice_get-map, slice_get_within}
use Rattle.psi_report.specs.Text.{number_rows, figure_row, count_row, contents_rows}
use Rattle.psi_report.specs.declared.figure.HorizonCount.{HorizonCount}
use Rattle.psi_report.specs.declared.figure.Figure.{Figure}
use Rattle.psi_report.specs.Contents.{Contents}
use Rattle.psi_report_reader.specs.Sound.{horizon_line, figure_line}
use Rattle.psi_report_reader.specs.Lines.{IsNumbered, row_on, RowsStandOnLines}
use Rattle.psi_report_reader.proofs.FieldLemmas.{lines-few}
use Rattle.psi_report_reader.proofs.GroupLemmas.{rows_before, sum-place}
use Rattle.psi_report_reader.proofs.RightLemmas.{right-parts}

get-front : {A : Type 0} (xs ys : List A) (k : ℕ) (x : A) → slice_get xs k ≡ Some x → slice_get (xs ++ ys) k ≡ Some x
get-front [] ys k x is = absurd cc
get-front (y ∷ xs) ys zero x is = is
get-front (y ∷ xs) ys (suc k) x is = get-front xs ys k x is

get-behind : {A : Type 0} (xs ys : List A) (k m : ℕ) → m ≡ length xs + k → slice_get (xs ++ ys) m ≡ slice_get ys k
get-behind [] ys k m at = ap (slice_get ys) (let all : m ≡ k = omega arith in all)
get-behind (x ∷ xs) ys k zero at = absurd (omega arith)
get-behind (x ∷ xs) ys k (suc m) at = get-behind xs ys k m (omega arith)

module _ (c : Contents) (numbered : IsNumbered c) where
  horizon-on : (k : ℕ) (h : HorizonCount) → slice_get c.horizons k ≡ Some h → row_on c (horizon_line k) ≡ Some (count_row h)
  unfolding contents_rows number_rows
  horizon-on k h is =
      let small = slice_get_within c.horizons k h is in
      let fit = lines-few c numbered in
      let place : horizon_line k - 1 ≡ suc (suc (suc (suc k))) = omega arith in
      rw place (get-front (map count_row c.horizons) (map figure_row c.figures) k (count_row h) (slice_get-map count_row c.horizons k ∙ ap (option_map count_row) is))

  figure-on : (k : ℕ) (f : Figure) → slice_get c.figures k ≡ Some f → row_on c (figure_line c k) ≡ Some (figure_row f)
  unfolding contents_rows number_rows
  figure-on k f is =
      let small = slice_get_within c.figures k f is in
      let fit = lines-few c numbered in
      let counts : length (map count_row c.horizons) ≡ length c.horizons = length-map c.horizons count_row in
      let place : figure_line c k - 1 ≡ suc (suc (suc (suc (length (map count_row c.horizons) + k)))) = omega arith in
      rw place (get-behind (map count_row c.horizons) (map figure_row c.figures) k (length (map count_row c.horizons) + k) refl ∙ slice_get-map figure_row c.figures k ∙ ap (option_map figure_row) is)

pub rows_stand : RowsStandOnLines
rows_stand c numbered = record {
  horizons = horizon-on c numbered;
  figures = figure-on c numbered;
  sums = λ right k f is. figure-on c numbered (rows_before c.met k) f (sym (sum-place c.met c.figures (right-parts c right).figures k) ∙ is);
}
