-- One more row after those of the elements before it.
use Rattle.std.specs.Prelude.{◌≡◌, ℕ, ◌+◌, ◌<◌, List, [], ◌∷◌, ◌++◌, length, map, take}
use Rattle.std.proofs.Common.{get_or, ap, sym, ◌∙◌, append_assoc}
use Rattle.std.proofs.lemmas.List.{map_more, append-nil}
use Rattle.psi_report.specs.declared.figure.HorizonCount.{HorizonCount}
use Rattle.psi_report.specs.declared.figure.Figure.{Figure}
use Rattle.psi_report.specs.Contents.{Contents}
use Rattle.psi_report.specs.Text.{number_rows, figure_row, count_row, heading, contents_rows}

pub rows_none : {A R : Type 0} (f : A → R) (rows : List R) (xs : List A) → rows ≡ rows ++ map f (take 0 xs)
rows_none f rows xs = sym (append-nil rows)

pub rows_more : {A R : Type 0} (f : A → R) (rows : List R) (xs : List A) (i : ℕ) (x : A) → i < length xs → x ≡ get_or xs i x
    → (rows ++ map f (take i xs)) ++ f x ∷ [] ≡ rows ++ map f (take (i + 1) xs)
rows_more f rows xs i x small is =
    append_assoc rows (map f (take i xs)) (f x ∷ [])
    ∙ ap (λ (y : _). rows ++ (map f (take i xs) ++ f y ∷ [])) is
    ∙ ap (λ (more : List _). rows ++ more) (sym (map_more f xs i x small))

pub rows_next : {A R : Type 0} (f : A → R) (rows : List R) (xs : List A) (i : ℕ) (e : A) → i < length xs
    → (rows ++ map f (take i xs)) ++ f (get_or xs i e) ∷ [] ≡ rows ++ map f (take (i + 1) xs)
rows_next f rows xs i e small =
    append_assoc rows (map f (take i xs)) (f (get_or xs i e) ∷ []) ∙ ap (λ (more : List _). rows ++ more) (sym (map_more f xs i e small))

-- the rows that are written one kind after another are all rows
pub rows_whole : (c : Contents) (s m : ℕ) (hs counts : List HorizonCount) (fs figures : List Figure) → counts ≡ hs → figures ≡ fs
    → record { samples = s; met = m; horizons = hs; figures = fs } ≡ c
    → (((heading ∷ []) ++ number_rows s m) ++ map count_row counts) ++ map figure_row figures ≡ contents_rows c
unfolding contents_rows
rows_whole c s m hs counts fs figures same_counts same_figures is =
    rw (same_counts, same_figures, ← is) (ap (λ (rows : List (List (List ℕ))). heading ∷ rows) (append_assoc (number_rows s m) (map count_row hs) (map figure_row fs)))
