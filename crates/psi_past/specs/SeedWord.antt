-- The words that a seed and a stream's number give (the key stream of ChaCha20, RFC 8439).
use Rattle.std.specs.Prelude.{ℕ, ◌/◌, ◌%◌, ◌^◌, List, ◌++◌, if◌then◌else◌, nat_lt, slice_index, replicate}
use Rattle.std.specs.Int.{w64, to_le_bytes}
use Rattle.rand_chacha.specs.ChaCha.{key_of, word_at}
use Rattle.psi_past.specs.ChaCha20.{chacha20_block}

-- the key of 32 bytes: the seed in 8 bytes, the low one first, and 24 zero bytes
abbrev pub key_bytes : ℕ → List ℕ
key_bytes seed = to_le_bytes w64 seed ++ replicate 24 0

-- the nonce of 12 bytes: 4 zero bytes, and the stream's number in 8 bytes, the low one first
abbrev pub nonce_bytes : ℕ → List ℕ
nonce_bytes stream = replicate 4 0 ++ to_le_bytes w64 stream

-- the word at a place: sixteen words for each block, whose block counter begins at 0. The RFC's
-- counter of 32 bits ends at place 2 ^ 36; the word of a later place, which no call reads, is that
-- of rand_chacha, whose counter has 64 bits
unfoldable pub seed_word : ℕ → ℕ → ℕ → ℕ
seed_word seed stream place =
    if nat_lt place (2 ^ 36)
    then slice_index (chacha20_block (key_bytes seed) (place / 16) (nonce_bytes stream)) (place % 16)
    else word_at 10 (key_of (key_bytes seed)) stream (place % 2 ^ 68)
