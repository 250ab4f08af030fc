-- Texts that are put one after another in a buffer.
use Rattle.std.specs.Prelude.{◌≡◌, ℕ, ◌+◌, List, ◌∷◌, ◌++◌, length, take, map, filter}
use Rattle.std.specs.List.{flat_map}
use Rattle.psi_state.specs.State.{Corners}
use Rattle.psi_log_format.specs.Text.{differs, change_to, change_text}

-- the text stands in the buffer from a place to an end; what is before the place stays, and the buffer keeps its length
pub record Puts (old new : List ℕ) (at end : ℕ) (text : List ℕ) : Type 0 where
  pub front : take end new ≡ take at old ++ text
  pub place : end ≡ at + length text
  pub len : length new ≡ length old

-- each word after a space
abbrev pub spaced : List ℕ → List ℕ
spaced word = 32 ∷ word

-- words, each preceded by a space
unfoldable pub spaced_words : List (List ℕ) → List ℕ
spaced_words words = flat_map spaced words

-- of these queues, the words of those that changed from one box to another
abbrev pub picked : Corners → Corners → List ℕ → List (List ℕ)
picked from to qs = map change_text (map (change_to to) (filter (differs from to) qs))
