-- Tables, row by row.
use Rattle.std.specs.Prelude.{◌≡◌, ℕ, suc, ◌+◌, List, [], ◌∷◌, ◌++◌, length}
use Rattle.std.proofs.Common.{sym, ◌∙◌, ap, append-nil, arith}
use Rattle.std.proofs.lemmas.Grind.{flat_map-append}
use Rattle.csv.specs.Writing.{row_text, default_writer}
use Rattle.psi_state.specs.declared.Outcome.{Outcome}
use Rattle.psi_net_model.specs.Network.{Network}
use Rattle.psi_report.specs.Text.{rows_text}
use Rattle.psi_table.specs.Table.{header_fields, stream_fields, stream_rows, table_text}
use Rattle.psi_table.specs.Lines.{header_line, stream_line}

-- the rows of streams in two parts
rows-append : (net : Network) (first : ℕ) (xs ys : List Outcome) → stream_rows net first (xs ++ ys) ≡ stream_rows net first xs ++ stream_rows net (first + length xs) ys
unfolding stream_rows
rows-append net first [] ys = let same : first ≡ first + 0 = omega arith in ap (λ n. stream_rows net n ys) same
rows-append net first (x ∷ xs) ys =
    let same : suc first + length xs ≡ first + suc (length xs) = omega arith in
    ap (λ (rows : List (List (List ℕ))). stream_fields net first x ∷ rows) (rows-append net (suc first) xs ys ∙ ap (λ n. stream_rows net (suc first) xs ++ stream_rows net n ys) same)

pub rows_text-append : (xs ys : List (List (List ℕ))) → rows_text (xs ++ ys) ≡ rows_text xs ++ rows_text ys
unfolding rows_text
rows_text-append xs ys = flat_map-append (row_text default_writer) xs ys

-- a table of streams in two parts is the table of the first part, and behind it the rows of the second
pub table_joined : (net : Network) (first : ℕ) (xs ys : List Outcome)
    → table_text net first (xs ++ ys) ≡ table_text net first xs ++ rows_text (stream_rows net (first + length xs) ys)
unfolding table_text
table_joined net first xs ys =
    ap (λ (rows : List (List (List ℕ))). rows_text (header_fields net ∷ rows)) (rows-append net first xs ys)
    ∙ rows_text-append (header_fields net ∷ stream_rows net first xs) (stream_rows net (first + length xs) ys)

-- a table of no stream is its header
pub table_none : (net : Network) (first : ℕ) → header_line net ≡ table_text net first []
unfolding table_text stream_rows header_line rows_text
table_none net first = sym (append-nil (row_text default_writer (header_fields net)))

one-row : (net : Network) (stream : ℕ) (outcome : Outcome) → rows_text (stream_rows net stream (outcome ∷ [])) ≡ stream_line net stream outcome
unfolding stream_rows stream_line rows_text
one-row net stream outcome = append-nil (row_text default_writer (stream_fields net stream outcome))

-- a table with one stream more
pub table_more : (net : Network) (first : ℕ) (outcomes : List Outcome) (outcome : Outcome)
    → table_text net first (outcomes ++ outcome ∷ []) ≡ table_text net first outcomes ++ stream_line net (first + length outcomes) outcome
table_more net first outcomes outcome =
    table_joined net first outcomes (outcome ∷ []) ∙ ap (λ (text : List ℕ). table_text net first outcomes ++ text) (one-row net (first + length outcomes) outcome)
