-- The number of pieces of a word, and a short line.
use Rattle.std.specs.Prelude.{◌≡◌, ℕ, ◌+◌, ◌<◌, List, length, take, codes, false}
use Rattle.std.specs.List.{count_by}
use Rattle.std.specs.Str.{bytes_eq}
use Rattle.std.proofs.Common.{ap, arith}
use Rattle.std.proofs.lemmas.Bool.{false_from_ne_true}
use Rattle.std.proofs.lemmas.List.{take_all}
use Rattle.std.proofs.lemmas.List.Splits.{length-slice_split}
use Rattle.psi_log_words.specs.Words.{is_comma, pieces_of}
use Rattle.psi_log_words.proofs.WordLemmas.{same_word}

pub pieces_count : (word : List ℕ) → length (pieces_of word) ≡ count_by is_comma word + 1
pieces_count word = length-slice_split is_comma word

-- a line of fewer than eight bytes doesn't begin with eight
pub short_line : (line : List ℕ) → length line < 8 → bytes_eq (take 8 line) (codes "psi-log ") ≡ false
short_line line short =
    false_from_ne_true (bytes_eq (take 8 line) (codes "psi-log "))
    (λ is. (let same : length (take 8 line) ≡ 8 = ap length (same_word (take 8 line) (codes "psi-log ") is) in
    let whole : length (take 8 line) ≡ length line = ap length (take_all 8 line (omega arith)) in omega arith))
