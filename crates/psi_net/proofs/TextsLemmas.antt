-- Which bytes are a text.
use Rattle.std.proofs.Common.{◌≡◌, ℕ, List, true, false, IsUtf8}
use Rattle.std.specs.Str.{is_utf8}
use Rattle.std.proofs.lemmas.Str.{is_utf8-from_IsUtf8, IsUtf8-from_is_utf8}
use Rattle.std.proofs.lemmas.Bool.{false_from_ne_true}

pub valid : (bytes : List ℕ) → IsUtf8 bytes → is_utf8 bytes ≡ true
valid bytes text = is_utf8-from_IsUtf8 bytes text

pub invalid : (bytes : List ℕ) → (IsUtf8 bytes → ⊥) → is_utf8 bytes ≡ false
invalid bytes none = false_from_ne_true (is_utf8 bytes) (λ yes. none (IsUtf8-from_is_utf8 bytes yes))
