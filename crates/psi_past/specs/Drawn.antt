-- A list into which a generator draws words.
use Rattle.std.specs.Prelude.{◌≡◌, ℕ, ◌+◌, ◌<◌, List, length, slice_index}
use Rattle.rand_chacha.specs.ChaCha.{ChaCha, word_at}

-- a generator draws its next words, so many, into a list from the place `at` on; what stands before them in the list stays
pub record Draws (count at : ℕ) (generator after : ChaCha) (list filled : List ℕ) : Type 0 where
  pub same_length : length filled ≡ length list
  pub kept : (i : ℕ) → i < at → slice_index filled i ≡ slice_index list i
  pub drawn : (i : ℕ) → i < count → slice_index filled (at + i) ≡ word_at 10 generator.key generator.stream (generator.word_pos + i)
  pub moved : after ≡ record generator { word_pos = generator.word_pos + count }
