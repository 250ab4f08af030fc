-- Names, which are UTF-8, and whether bytes are, as a test.
use Rattle.std.specs.Prelude.{◌≡◌, ℕ, zero, suc, ◌<◌, List, [], ◌∷◌, length, slice_index, true, ◌&&◌, nat_le, Option, Some, None, refl}
use Rattle.std.specs.List.{list_all}
use Rattle.std.specs.Str.{IsUtf8, is_utf8}
use Rattle.std.proofs.Common.{arith}
use Rattle.std.proofs.lemmas.Bool.{and_parts, false_from_ne_true}
use Rattle.std.proofs.lemmas.Bool.Decides.{nat_tests}
use Rattle.std.proofs.lemmas.Str.{IsUtf8-from_is_utf8, is_utf8-from_IsUtf8, IsUtf8-from_ascii}
use Rattle.psi_net_model.specs.Name.{is_name_byte, is_name, name_of}
use Rattle.psi_report_reader.specs.Reading.{name_in}

-- a name is what bytes are that are UTF-8, and others are none
pub name-valid : (bytes text : List ℕ) (name : Option (List ℕ)) → name ≡ name_of text → text ≡ bytes → IsUtf8 bytes → name ≡ name_in bytes
unfolding name_in
name-valid bytes text name is same utf8 = rw (is_utf8-from_IsUtf8 bytes utf8, ← same) is

pub name-invalid : (bytes : List ℕ) → (IsUtf8 bytes → ⊥) → ◌≡◌ {A = Option (List ℕ)} None (name_in bytes)
unfolding name_in
name-invalid bytes isnt = rw (false_from_ne_true (is_utf8 bytes) (λ is. isnt (IsUtf8-from_is_utf8 bytes is))) refl

name-ascii : (word : List ℕ) → list_all is_name_byte word ≡ true → (i : ℕ) → slice_index word i < 128
name-ascii [] are i = omega arith
name-ascii (b ∷ bs) are zero = grind (arith, nat_tests)
name-ascii (b ∷ bs) are (suc i) = name-ascii bs (and_parts (is_name_byte b) (list_all is_name_byte bs) are).1 i

pub name-bytes : (word : List ℕ) → is_name word ≡ true → list_all is_name_byte word ≡ true
unfolding is_name
name-bytes word is = (and_parts (nat_le 1 (length word) && nat_le (length word) 32) (list_all is_name_byte word) is).1

-- a name is read as itself
pub name-again : (word : List ℕ) → is_name word ≡ true → name_in word ≡ Some word
unfolding name_in
name-again word is =
    let text : is_utf8 word ≡ true = is_utf8-from_IsUtf8 word (IsUtf8-from_ascii word (name-ascii word (name-bytes word is))) in
    rw (text, is) refl
