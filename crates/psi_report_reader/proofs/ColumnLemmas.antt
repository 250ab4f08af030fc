-- Rows of numbers whose columns are given.
use Rattle.std.specs.Prelude.{◌≡◌, ℕ, zero, suc, ◌<◌, ◌≤◌, ℤ, pos, List, [], ◌∷◌, length, map, replicate, slice_index, All, refl}
use Rattle.std.proofs.Common.{ap, sym, ◌∙◌, arith}
use Rattle.std.proofs.lemmas.List.{length-replicate}
use Rattle.std.proofs.lemmas.List.Elements.{All-nil, All-cons, All-head, All-tail, All-replicate}
use Rattle.psi_state.specs.State.{IsBelow}

-- numbers, each in front of the row at its place
abbrev pub in_front : List ℕ → List (List ℕ) → List (List ℕ)
in_front [] rows = []
in_front (v ∷ vs) [] = []
in_front (v ∷ vs) (row ∷ rows) = (v ∷ row) ∷ in_front vs rows

-- n rows whose columns are these
abbrev pub rows_of : ℕ → List (List ℕ) → List (List ℕ)
rows_of n [] = replicate n []
rows_of n (vs ∷ columns) = in_front vs (rows_of n columns)

length-in_front : (vs : List ℕ) (rows : List (List ℕ)) → length vs ≡ length rows → length (in_front vs rows) ≡ length rows
length-in_front [] rows same = same
length-in_front (v ∷ vs) [] same = refl
length-in_front (v ∷ vs) (row ∷ rows) same = ap suc (length-in_front vs rows (omega arith))

pub length-rows : (n : ℕ) (columns : List (List ℕ)) → All (λ vs. length vs ≡ n) columns → length (rows_of n columns) ≡ n
length-rows n [] all = length-replicate n []
length-rows n (vs ∷ columns) all =
    let own : length vs ≡ n = All-head (λ vs. length vs ≡ n) vs columns all in
    let rest = length-rows n columns (All-tail (λ vs. length vs ≡ n) vs columns all) in
    length-in_front vs (rows_of n columns) (own ∙ sym rest) ∙ rest

-- the numbers at a place of rows
abbrev pub column : ℕ → List (List ℕ) → List ℤ
column i rows = map (λ row. pos (slice_index row i)) rows

column-first : (vs : List ℕ) (rows : List (List ℕ)) → length vs ≡ length rows → column 0 (in_front vs rows) ≡ map pos vs
column-first [] rows same = refl
column-first (v ∷ vs) [] same = absurd (omega arith)
column-first (v ∷ vs) (row ∷ rows) same = ap (λ zs. pos v ∷ zs) (column-first vs rows (omega arith))

column-behind : (i : ℕ) (vs : List ℕ) (rows : List (List ℕ)) → length vs ≡ length rows → column (suc i) (in_front vs rows) ≡ column i rows
column-behind i [] [] same = refl
column-behind i [] (row ∷ rows) same = absurd (omega arith)
column-behind i (v ∷ vs) [] same = absurd (omega arith)
column-behind i (v ∷ vs) (row ∷ rows) same = ap (λ zs. pos (slice_index row i) ∷ zs) (column-behind i vs rows (omega arith))

-- rows have these columns, the first of which has this place
abbrev pub HaveColumns : ℕ → List (List ℕ) → List (List ℕ) → Type 0
HaveColumns i rows [] = Unit {0}
HaveColumns i rows (vs ∷ columns) = (column i rows ≡ map pos vs) × HaveColumns (suc i) rows columns

columns-behind : (i : ℕ) (vs : List ℕ) (rows columns : List (List ℕ)) → length vs ≡ length rows → HaveColumns i rows columns → HaveColumns (suc i) (in_front vs rows) columns
columns-behind i vs rows [] same have = tt
columns-behind i vs rows (us ∷ columns) same have = (column-behind i vs rows same ∙ have.0, columns-behind (suc i) vs rows columns same have.1)

pub have-columns : (n : ℕ) (columns : List (List ℕ)) → All (λ vs. length vs ≡ n) columns → HaveColumns 0 (rows_of n columns) columns
have-columns n [] all = tt
have-columns n (vs ∷ columns) all =
    let own : length vs ≡ n = All-head (λ vs. length vs ≡ n) vs columns all in
    let rest = All-tail (λ vs. length vs ≡ n) vs columns all in
    let same : length vs ≡ length (rows_of n columns) = own ∙ sym (length-rows n columns rest) in
    (column-first vs (rows_of n columns) same, columns-behind 0 vs (rows_of n columns) columns same (have-columns n columns rest))

-- ---- rows within bounds

below-front : (v cap : ℕ) (row caps : List ℕ) → v ≤ cap → IsBelow row caps → IsBelow (v ∷ row) (cap ∷ caps)
below-front v cap row caps most below = record { same_length = ap suc below.same_length; each = each }
  where
    each : (i : ℕ) → i < suc (length row) → slice_index (v ∷ row) i ≤ slice_index (cap ∷ caps) i
    each zero less = most
    each (suc i) less = below.each i (omega arith)

below-fronts : (cap : ℕ) (caps : List ℕ) (vs : List ℕ) (rows : List (List ℕ)) → All (λ v. v ≤ cap) vs → All (λ row. IsBelow row caps) rows → All (λ row. IsBelow row (cap ∷ caps)) (in_front vs rows)
below-fronts cap caps [] rows most all = All-nil (λ row. IsBelow row (cap ∷ caps))
below-fronts cap caps (v ∷ vs) [] most all = All-nil (λ row. IsBelow row (cap ∷ caps))
below-fronts cap caps (v ∷ vs) (row ∷ rows) most all =
    All-cons (λ row. IsBelow row (cap ∷ caps)) (v ∷ row) (in_front vs rows)
    (below-front v cap row caps (All-head (λ v. v ≤ cap) v vs most) (All-head (λ row. IsBelow row caps) row rows all))
    (below-fronts cap caps vs rows (All-tail (λ v. v ≤ cap) v vs most) (All-tail (λ row. IsBelow row caps) row rows all))

pub rows-below : (cap n : ℕ) (columns : List (List ℕ)) → All (All (λ v. v ≤ cap)) columns → All (λ row. IsBelow row (replicate (length columns) cap)) (rows_of n columns)
rows-below cap n [] all = All-replicate (λ row. IsBelow row []) n [] (record { same_length = refl; each = λ i less. absurd (omega arith) })
rows-below cap n (vs ∷ columns) all =
    below-fronts cap (replicate (length columns) cap) vs (rows_of n columns) (All-head (All (λ v. v ≤ cap)) vs columns all) (rows-below cap n columns (All-tail (All (λ v. v ≤ cap)) vs columns all))
