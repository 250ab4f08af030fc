-- The words that seeds and streams give are words that are counted.
use Rattle.std.specs.Prelude.{ℕ, zero, suc, ◌+◌, ◌<◌, ◌%◌, ◌^◌, ◌/◌, List, [], ◌∷◌, slice_index}
use Rattle.std.proofs.Common.{arith}
use Rattle.std.proofs.Math.Nat.{mod-lt}
use Rattle.std.proofs.lemmas.Bool.{lt-ltb}
use Rattle.psi_past.specs.ChaCha20.{state_sum, chacha20_block}
use Rattle.psi_past.specs.SeedWord.{seed_word}
use Rattle.psi_law.specs.Wheel.{word_count}

state_sum-small : (x y : List ℕ) (k : ℕ) → slice_index (state_sum x y) k < 2 ^ 32
state_sum-small [] y k = omega arith
state_sum-small (a ∷ x) [] k = omega arith
state_sum-small (a ∷ x) (b ∷ y) zero = mod-lt (a + b) (omega arith)
state_sum-small (a ∷ x) (b ∷ y) (suc k) = state_sum-small x y k

block-small : (key nonce : List ℕ) (counter k : ℕ) → slice_index (chacha20_block key counter nonce) k < 2 ^ 32
unfolding chacha20_block
block-small key nonce counter k = state_sum-small _ _ k

pub seed_word-small : (seed stream place : ℕ) → place < 2 ^ 36 → seed_word seed stream place < word_count
unfolding seed_word word_count
seed_word-small seed stream place small = rw (lt-ltb place (2 ^ 36) small) (block-small _ _ (place / 16) (place % 16))
