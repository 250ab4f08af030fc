-- Lines, read one after another as a loop does.
use Rattle.std.specs.Prelude.{◌≡◌, ℕ, ◌+◌, ◌<◌, ◌≤◌, List, length, map, drop, Bool, true, false, Ok, Err, refl}
use Rattle.std.specs.List.{slice_split}
use Rattle.std.proofs.Common.{get_or, arith}
use Rattle.std.proofs.lemmas.List.{drop_more, drop_all}
use Rattle.psi_report.specs.Contents.{Contents}
use Rattle.psi_report_reader.specs.Reading.{is_comma, with_row, read_lines, Took}

pub line_taken : {V : Type 0} (view : V → List ℕ) (lines : List V) (i n : ℕ) (e : V) (c d : Contents) (t : Bool) → i < length lines
    → Took t d (with_row c (slice_split is_comma (view (get_or lines i e)))) → t ≡ true
    → read_lines n c (map view (drop i lines)) ≡ read_lines (n + 1) d (map view (drop (i + 1) lines))
unfolding read_lines
line_taken view lines i n e c d t small taken is = grind (arith, drop_more lines i e small)

pub line_refused : {V : Type 0} (view : V → List ℕ) (lines : List V) (i n : ℕ) (e : V) (c d : Contents) (t : Bool) → i < length lines
    → Took t d (with_row c (slice_split is_comma (view (get_or lines i e)))) → t ≡ false → read_lines n c (map view (drop i lines)) ≡ Err n
unfolding read_lines
line_refused view lines i n e c d t small refused is = grind (arith, drop_more lines i e small)

pub lines_end : {V : Type 0} (view : V → List ℕ) (lines : List V) (i n : ℕ) (c : Contents) → length lines ≤ i → read_lines n c (map view (drop i lines)) ≡ Ok c
unfolding read_lines
lines_end view lines i n c past = rw (drop_all i lines past) refl
