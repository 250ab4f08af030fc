-- Tables of paths, row by row; and tables of either kind.
use Rattle.std.specs.Prelude.{◌≡◌, ℕ, suc, ◌+◌, List, [], ◌∷◌, ◌++◌, length, Option, Some, None}
use Rattle.std.proofs.Common.{sym, ◌∙◌, ap, append-nil, arith}
use Rattle.csv.specs.Writing.{row_text, default_writer}
use Rattle.psi_state.specs.declared.Outcome.{Outcome}
use Rattle.psi_net_model.specs.Network.{Network}
use Rattle.psi_report.specs.Text.{rows_text}
use Rattle.psi_table.specs.Table.{stream_rows}
use Rattle.psi_table.specs.Paths.{paths_header, path_row, path_rows, paths_text, text_of_kind}
use Rattle.psi_table.specs.PathLines.{paths_header_line, path_line, header_of_kind, line_of_kind}
use Rattle.psi_table.proofs.TableLemmas.{rows_text-append, table_joined, table_none, table_more}

module _ (net : Network) (seed steps : ℕ) where
  -- the rows of streams in two parts
  path-rows-append : (first : ℕ) (xs ys : List Outcome) → path_rows net seed steps first (xs ++ ys) ≡ path_rows net seed steps first xs ++ path_rows net seed steps (first + length xs) ys
  unfolding path_rows
  path-rows-append first [] ys = let same : first ≡ first + 0 = omega arith in ap (λ n. path_rows net seed steps n ys) same
  path-rows-append first (x ∷ xs) ys =
      let same : suc first + length xs ≡ first + suc (length xs) = omega arith in
      ap (λ (rows : List (List (List ℕ))). path_row net seed steps first x ∷ rows)
      (path-rows-append (suc first) xs ys ∙ ap (λ n. path_rows net seed steps (suc first) xs ++ path_rows net seed steps n ys) same)

  -- a table of streams in two parts is the table of the first part, and behind it the rows of the second
  pub paths_joined : (first : ℕ) (xs ys : List Outcome)
      → paths_text net seed steps first (xs ++ ys) ≡ paths_text net seed steps first xs ++ rows_text (path_rows net seed steps (first + length xs) ys)
  unfolding paths_text
  paths_joined first xs ys =
      ap (λ (rows : List (List (List ℕ))). rows_text (paths_header net ∷ rows)) (path-rows-append first xs ys)
      ∙ rows_text-append (paths_header net ∷ path_rows net seed steps first xs) (path_rows net seed steps (first + length xs) ys)

  paths-none : (first : ℕ) → paths_header_line net ≡ paths_text net seed steps first []
  unfolding paths_text path_rows paths_header_line rows_text
  paths-none first = sym (append-nil (row_text default_writer (paths_header net)))

  one-path : (stream : ℕ) (outcome : Outcome) → rows_text (path_rows net seed steps stream (outcome ∷ [])) ≡ path_line net seed steps stream outcome
  unfolding path_rows path_line rows_text
  one-path stream outcome = append-nil (row_text default_writer (path_row net seed steps stream outcome))

  paths-more : (first : ℕ) (outcomes : List Outcome) (outcome : Outcome)
      → paths_text net seed steps first (outcomes ++ outcome ∷ []) ≡ paths_text net seed steps first outcomes ++ path_line net seed steps (first + length outcomes) outcome
  paths-more first outcomes outcome =
      paths_joined first outcomes (outcome ∷ []) ∙ ap (λ (text : List ℕ). paths_text net seed steps first outcomes ++ text) (one-path (first + length outcomes) outcome)

-- ---- tables of either kind

-- a table of no stream is its header
pub kind_none : (steps : Option ℕ) (net : Network) (seed first : ℕ) → header_of_kind steps net ≡ text_of_kind steps net seed first []
kind_none None net seed first = table_none net first
kind_none (Some steps) net seed first = paths-none net seed steps first

-- a table with one stream more
pub kind_more : (steps : Option ℕ) (net : Network) (seed first : ℕ) (outcomes : List Outcome) (outcome : Outcome)
    → text_of_kind steps net seed first (outcomes ++ outcome ∷ []) ≡ text_of_kind steps net seed first outcomes ++ line_of_kind steps net seed (first + length outcomes) outcome
kind_more None net seed first outcomes outcome = table_more net first outcomes outcome
kind_more (Some steps) net seed first outcomes outcome = paths-more net seed steps first outcomes outcome

-- a table of streams in two parts begins with that of the first part
pub kind_begins : (steps : Option ℕ) (net : Network) (seed first : ℕ) (xs ys : List Outcome)
    → (rest : List ℕ) × (text_of_kind steps net seed first xs ++ rest ≡ text_of_kind steps net seed first (xs ++ ys))
kind_begins None net seed first xs ys = (rows_text (stream_rows net (first + length xs) ys), sym (table_joined net first xs ys))
kind_begins (Some steps) net seed first xs ys = (rows_text (path_rows net seed steps (first + length xs) ys), sym (paths_joined net seed steps first xs ys))
