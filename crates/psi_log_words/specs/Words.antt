-- The lines of a text, the words of a line, the pieces of a word, and the numbers that pieces are.
use Rattle.std.specs.Prelude.{ℕ, ◌+◌, List, [], ◌∷◌, length, take, drop, codes, Bool, false, not, ◌&&◌, ◌==◌, nat_le, Option, Some, None, Result, Ok, Err, if◌then◌else◌}
use Rattle.std.specs.List.{position, slice_split, list_all}
use Rattle.std.specs.Str.{bytes_eq}
use Rattle.std.specs.Str.Parse.{digits_value}
use Rattle.psi_log_words.specs.Refusal.{Refusal, refused, ◌>>=◌, holds_or}
use Rattle.psi_log_words.specs.declared.refusals.LogCause.TheVariants.{NotLog, Version, Number, Shape, Truncated}

-- a line feed
abbrev pub is_feed : ℕ → Bool
is_feed byte = byte == 10

-- a space
abbrev pub is_space : ℕ → Bool
is_space byte = byte == 32

-- a comma
abbrev pub is_comma : ℕ → Bool
is_comma byte = byte == 44

-- a text cut at its first line feed, where it has one
abbrev pub cut_at : ℕ → List ℕ → Option ℕ → Result (List ℕ × List ℕ) Refusal
cut_at n text None = Err (refused n Truncated)
cut_at n text (Some at) = Ok (take at text, drop (at + 1) text)

-- line n, where it begins the text, and what follows its line feed
unfoldable pub line_of : ℕ → List ℕ → Result (List ℕ × List ℕ) Refusal
line_of n text = cut_at n text (position is_feed text)

-- the words of a line, its tokens: two are parted by each space
abbrev pub tokens_of : List ℕ → List (List ℕ)
tokens_of line = slice_split is_space line

-- the pieces of a word: two are parted by each comma
abbrev pub pieces_of : List ℕ → List (List ℕ)
pieces_of word = slice_split is_comma word

-- the word has so many pieces
abbrev pub has_pieces : ℕ → List ℕ → Bool
has_pieces count word = length (pieces_of word) == count

-- a decimal digit of ASCII
abbrev pub is_digit : ℕ → Bool
is_digit byte = nat_le 48 byte && nat_le byte 57

-- one digit, or several of which the first isn't 0
abbrev pub is_numeral : List ℕ → Bool
is_numeral [] = false
is_numeral (d ∷ []) = is_digit d
is_numeral (d ∷ e ∷ ds) = not (d == 48) && list_all is_digit (d ∷ e ∷ ds)

-- a number from least to most
unfoldable pub number_in : ℕ → ℕ → ℕ → List ℕ → Result ℕ Refusal
number_in n least most word =
    if is_numeral word && nat_le least (digits_value 10 word) && nat_le (digits_value 10 word) most then Ok (digits_value 10 word) else Err (refused n Number)

-- line 1 names the version, 1 or 2
unfoldable pub read_version : List ℕ → Result ℕ Refusal
read_version line =
    if not (bytes_eq (take 8 line) (codes "psi-log ")) then Err (refused 1 NotLog)
    else if bytes_eq (drop 8 line) (codes "1") then Ok 1
    else if bytes_eq (drop 8 line) (codes "2") then Ok 2
    else Err (refused 1 Version)

-- the words of a line that names a number from least to most
unfoldable pub read_named : ℕ → List ℕ → ℕ → ℕ → List (List ℕ) → Result ℕ Refusal
read_named n name least most (first ∷ number ∷ []) = do
  named ← holds_or (refused n Shape) (bytes_eq first name)
  number_in n least most number
read_named n name least most words = Err (refused n Shape)
