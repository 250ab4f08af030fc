-- The ChaCha20 block function, told as RFC 8439 tells it (2.1 to 2.3).
-- A word is a number below 2 ^ 32, and a state is a list of sixteen words.
use Rattle.std.specs.Prelude.{ℕ, zero, suc, ◌+◌, ◌%◌, ◌^◌, List, [], ◌∷◌, bit_xor, slice_index, slice_set}
use Rattle.std.specs.Int.{w32, rotate_left}
use Rattle.rand_core.specs.Steps.{u32_at}

-- a + b: the sum of two words modulo 2 ^ 32 (2.1)
abbrev pub word_sum : ℕ → ℕ → ℕ
word_sum a b = (a + b) % 2 ^ 32

-- the quarter round on four words (2.1)
unfoldable pub quarter_round : ℕ → ℕ → ℕ → ℕ → ℕ × ℕ × ℕ × ℕ
quarter_round a b c d =
    let a = word_sum a b in let d = rotate_left w32 (bit_xor d a) 16 in
    let c = word_sum c d in let b = rotate_left w32 (bit_xor b c) 12 in
    let a = word_sum a b in let d = rotate_left w32 (bit_xor d a) 8 in
    let c = word_sum c d in let b = rotate_left w32 (bit_xor b c) 7 in
    (a, b, c, d)

-- QUARTERROUND(a, b, c, d): the quarter round on the words at four places of a state (2.2)
abbrev pub quarter_round_at : ℕ → ℕ → ℕ → ℕ → List ℕ → List ℕ
quarter_round_at a b c d x =
    let words = quarter_round (slice_index x a) (slice_index x b) (slice_index x c) (slice_index x d) in
    slice_set (slice_set (slice_set (slice_set x a words.0) b words.1) c words.2) d words.3

-- a column round (2.3)
unfoldable pub column_round : List ℕ → List ℕ
column_round x =
    let x = quarter_round_at 0 4 8 12 x in
    let x = quarter_round_at 1 5 9 13 x in
    let x = quarter_round_at 2 6 10 14 x in
    quarter_round_at 3 7 11 15 x

-- a diagonal round (2.3)
unfoldable pub diagonal_round : List ℕ → List ℕ
diagonal_round x =
    let x = quarter_round_at 0 5 10 15 x in
    let x = quarter_round_at 1 6 11 12 x in
    let x = quarter_round_at 2 7 8 13 x in
    quarter_round_at 3 4 9 14 x

-- the state after n column rounds, each followed by a diagonal round
unfoldable pub double_rounds : ℕ → List ℕ → List ℕ
double_rounds zero x = x
double_rounds (suc n) x = diagonal_round (column_round (double_rounds n x))

-- the state that a block begins with: four constants, the key of 32 bytes, the block counter of
-- 32 bits and the nonce of 12 bytes, both read as words with the low byte first (2.3)
abbrev pub initial_state : List ℕ → ℕ → List ℕ → List ℕ
initial_state key counter nonce =
    0x61707865 ∷ 0x3320646e ∷ 0x79622d32 ∷ 0x6b206574
    ∷ u32_at key 0 ∷ u32_at key 1 ∷ u32_at key 2 ∷ u32_at key 3
    ∷ u32_at key 4 ∷ u32_at key 5 ∷ u32_at key 6 ∷ u32_at key 7
    ∷ counter ∷ u32_at nonce 0 ∷ u32_at nonce 1 ∷ u32_at nonce 2 ∷ []

-- the sums of two states, word by word
abbrev pub state_sum : List ℕ → List ℕ → List ℕ
state_sum (a ∷ x) (b ∷ y) = word_sum a b ∷ state_sum x y
state_sum _ _ = []

-- the sixteen words of a block: twenty rounds, ten of each kind, and the state that they began
-- with added to their result (2.3)
unfoldable pub chacha20_block : List ℕ → ℕ → List ℕ → List ℕ
chacha20_block key counter nonce =
    let x = initial_state key counter nonce in state_sum (double_rounds 10 x) x
