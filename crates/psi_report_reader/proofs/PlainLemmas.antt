-- The fields of a report need no quotes: their lines are the fields with commas between them.
use Rattle.std.specs.Prelude.{◌≡◌, ℕ, ◌^◌, ◌<◌, ℤ, pos, negsuc, List, [], ◌∷◌, ◌++◌, slice_index_or, All, true, false, ◌==◌, suc, refl}
use Rattle.std.specs.Fmt.{decimal, signed_decimal}
use Rattle.std.specs.Int.RustNames.{unsigned_abs}
use Rattle.std.specs.List.{list_any, list_all, slice_split}
use Rattle.std.proofs.Common.{append_assoc, arith}
use Rattle.std.proofs.lemmas.Bool.Decides.{nat_tests}
use Rattle.std.proofs.lemmas.List.{append-nil}
use Rattle.std.proofs.lemmas.List.Elements.{All-cons, All-head, All-tail, All-append, All-weaker}
use Rattle.std.proofs.lemmas.List.Sums.{AllPass-from_list_all}
use Rattle.std.proofs.lemmas.List.Splits.{slice_split_at, slice_split_none}
use Rattle.csv.specs.Writing.{default_writer, needs_byte, row_text, fields_text, is_blank}
use Rattle.psi_net_model.specs.Name.{is_name_byte}
use Rattle.psi_report_reader.specs.Reading.{is_feed, is_comma}
use Rattle.psi_report_reader.proofs.DigitLemmas.{IsDigit, decimal-digits}

-- a byte that is no mark of the format
pub record IsPlain (byte : ℕ) : Type 0 where
  pub comma : (byte == 44) ≡ false
  pub quote : (byte == 34) ≡ false
  pub return : (byte == 13) ≡ false
  pub feed : (byte == 10) ≡ false

-- bytes of a name and digits are such
name-byte-plain : (byte : ℕ) → is_name_byte byte ≡ true → IsPlain byte
name-byte-plain byte is = record {
  comma = grind (arith, nat_tests);
  quote = grind (arith, nat_tests);
  return = grind (arith, nat_tests);
  feed = grind (arith, nat_tests);
}

-- bytes as they stand in names; literals are seen to be such by computing
pub name-bytes-plain : (word : List ℕ) → list_all is_name_byte word ≡ true → All IsPlain word
name-bytes-plain word are k d less = name-byte-plain (slice_index_or word k d) (AllPass-from_list_all is_name_byte word are k d less)

pub decimal-plain : (n : ℕ) → n < 10 ^ 64 → All IsPlain (decimal n)
decimal-plain n fits = All-weaker IsDigit IsPlain (λ byte is. name-byte-plain byte (grind (arith, nat_tests))) (decimal n) (decimal-digits n fits).digits

pub signed-plain : (z : ℤ) → unsigned_abs z < 10 ^ 37 → All IsPlain (signed_decimal z)
signed-plain (pos n) fits = decimal-plain n (omega arith)
signed-plain (negsuc n) fits = All-cons IsPlain 45 (decimal (suc n)) (name-byte-plain 45 refl) (decimal-plain (suc n) (omega arith))

-- no quotes are needed
no-quotes : (word : List ℕ) → All IsPlain word → list_any (needs_byte default_writer) word ≡ false
no-quotes [] all = refl
no-quotes (b ∷ bs) all =
    let here = All-head IsPlain b bs all in
    rw (here.comma, here.quote, here.return, here.feed) (no-quotes bs (All-tail IsPlain b bs all))

-- the line of three fields
abbrev pub line : (a b c : List ℕ) → List ℕ
line a b c = a ++ 44 ∷ (b ++ 44 ∷ c)

pub row-line : (a b c rest : List ℕ) → All IsPlain a → All IsPlain b → All IsPlain c
    → row_text default_writer (a ∷ b ∷ c ∷ []) ++ rest ≡ line a b c ++ 10 ∷ rest
unfolding fields_text is_blank
row-line a b c rest first second third =
    rw (no-quotes a first, no-quotes b second, no-quotes c third, append-nil c) (append_assoc (line a b c) (10 ∷ []) rest)

no-feed : (word : List ℕ) → All IsPlain word → All (λ x. is_feed x ≡ false) word
no-feed word all = All-weaker IsPlain (λ x. is_feed x ≡ false) (λ x plain. plain.feed) word all

no-comma : (word : List ℕ) → All IsPlain word → All (λ x. is_comma x ≡ false) word
no-comma word all = All-weaker IsPlain (λ x. is_comma x ≡ false) (λ x plain. plain.comma) word all

-- a line ends at its line feed
pub line-ends : (a b c rest : List ℕ) → All IsPlain a → All IsPlain b → All IsPlain c
    → slice_split is_feed (line a b c ++ 10 ∷ rest) ≡ line a b c ∷ slice_split is_feed rest
line-ends a b c rest first second third =
    let P : ℕ → Type 0 = λ x. is_feed x ≡ false in
    slice_split_at is_feed (line a b c) 10 rest
    (All-append P a (44 ∷ (b ++ 44 ∷ c)) (no-feed a first) (All-cons P 44 (b ++ 44 ∷ c) refl (All-append P b (44 ∷ c) (no-feed b second) (All-cons P 44 c refl (no-feed c third)))))
    refl

-- and is parted by its commas into the fields
pub line-fields : (a b c : List ℕ) → All IsPlain a → All IsPlain b → All IsPlain c → slice_split is_comma (line a b c) ≡ a ∷ b ∷ c ∷ []
line-fields a b c first second third =
    cc (slice_split_at is_comma a 44 (b ++ 44 ∷ c) (no-comma a first) refl, slice_split_at is_comma b 44 c (no-comma b second) refl, slice_split_none is_comma c (no-comma c third))
