-- What rand_chacha promises at a place is the word of RFC 8439's block function.
use Rattle.std.proofs.Common.{rules, ◌≡◌, ◌<◌, ◌≤◌, ℕ, zero, suc, ◌+◌, ◌/◌, ◌%◌, ◌^◌, List, [], ◌∷◌, length, refl, ap, ◌∙◌, arith}
use Rattle.std.proofs.Math.Nat.{div-eq_of_lt, mod-eq_of_lt}
use Rattle.std.proofs.lemmas.Bool.{lt-ltb}
use Rattle.std.specs.Prelude.{slice_index}
use Rattle.std.proofs.lemmas.Grind.{common_steps}
use Rattle.rand_core.specs.Steps.{u32_at}
use Rattle.rand_chacha.specs.Block as upstream
use Rattle.rand_chacha.specs.ChaCha.{ChaCha, key_of, word_at, next_word}
use Rattle.psi_past.specs.ChaCha20.{word_sum, quarter_round, column_round, diagonal_round, double_rounds, initial_state, state_sum, chacha20_block}
use Rattle.psi_past.specs.SeedWord.{key_bytes, nonce_bytes, seed_word}
use Rattle.psi_past.specs.Filled.{AreWordsFrom}
use Rattle.psi_past.specs.Drawn.{Draws}

-- the rounds are the same on a state, ..
column_round-is : (a b c d e f g h i j k l m n o p : ℕ)
    → column_round (a ∷ b ∷ c ∷ d ∷ e ∷ f ∷ g ∷ h ∷ i ∷ j ∷ k ∷ l ∷ m ∷ n ∷ o ∷ p ∷ [])
    ≡ upstream.column_round (a ∷ b ∷ c ∷ d ∷ e ∷ f ∷ g ∷ h ∷ i ∷ j ∷ k ∷ l ∷ m ∷ n ∷ o ∷ p ∷ [])
unfolding column_round upstream.column_round quarter_round upstream.quarter_round
column_round-is a b c d e f g h i j k l m n o p = refl

diagonal_round-is : (a b c d e f g h i j k l m n o p : ℕ)
    → diagonal_round (a ∷ b ∷ c ∷ d ∷ e ∷ f ∷ g ∷ h ∷ i ∷ j ∷ k ∷ l ∷ m ∷ n ∷ o ∷ p ∷ [])
    ≡ upstream.diagonal_round (a ∷ b ∷ c ∷ d ∷ e ∷ f ∷ g ∷ h ∷ i ∷ j ∷ k ∷ l ∷ m ∷ n ∷ o ∷ p ∷ [])
unfolding diagonal_round upstream.diagonal_round quarter_round upstream.quarter_round
diagonal_round-is a b c d e f g h i j k l m n o p = refl

-- .. so also on what a round gives
column_round-after_diagonal : (x : List ℕ)
    → column_round (upstream.diagonal_round x) ≡ upstream.column_round (upstream.diagonal_round x)
unfolding upstream.diagonal_round
column_round-after_diagonal x = column_round-is _ _ _ _ _ _ _ _ _ _ _ _ _ _ _ _

diagonal_round-after_column : (x : List ℕ)
    → diagonal_round (upstream.column_round x) ≡ upstream.diagonal_round (upstream.column_round x)
unfolding upstream.column_round
diagonal_round-after_column x = diagonal_round-is _ _ _ _ _ _ _ _ _ _ _ _ _ _ _ _

double_round-is : (x : List ℕ) → column_round x ≡ upstream.column_round x
    → diagonal_round (column_round x) ≡ upstream.diagonal_round (upstream.column_round x)
double_round-is x e = ap diagonal_round e ∙ diagonal_round-after_column x

double_rounds-is : (n : ℕ) (x : List ℕ) → column_round x ≡ upstream.column_round x
    → double_rounds n x ≡ upstream.double_rounds n x
unfolding double_rounds upstream.double_rounds
double_rounds-is zero x e = refl
double_rounds-is (suc zero) x e = double_round-is x e
double_rounds-is (suc (suc n)) x e = grind (arith, common_steps, double_round-is, column_round-after_diagonal, (double_rounds-is (suc n) x e))

length-diagonal_round : (x : List ℕ) → length (upstream.diagonal_round x) ≡ 16
unfolding upstream.diagonal_round
length-diagonal_round x = refl

length-double_rounds : (n : ℕ) (x : List ℕ) → length x ≡ 16 → length (upstream.double_rounds n x) ≡ 16
unfolding upstream.double_rounds
length-double_rounds zero x e = e
length-double_rounds (suc n) x e = length-diagonal_round _

-- a word of a sum of two states
slice_index-state_sum : (x y : List ℕ) (k : ℕ) → length x ≡ length y
    → slice_index (state_sum x y) k ≡ word_sum (slice_index x k) (slice_index y k)
slice_index-state_sum [] [] k e = refl
slice_index-state_sum [] (b ∷ y) k e = cc
slice_index-state_sum (a ∷ x) [] k e = cc
slice_index-state_sum (a ∷ x) (b ∷ y) zero e = refl
slice_index-state_sum (a ∷ x) (b ∷ y) (suc k) e = slice_index-state_sum x y k (omega arith)

-- the halves of a stream's number, read from its bytes
no_first : (stream : ℕ) → u32_at (nonce_bytes stream) 0 ≡ 0
unfolding u32_at
no_first stream = refl

low_half : (stream : ℕ) → u32_at (nonce_bytes stream) 1 ≡ stream % 2 ^ 32
unfolding u32_at
low_half stream = search rules

high_half : (stream : ℕ) → stream < 2 ^ 64 → u32_at (nonce_bytes stream) 2 ≡ stream / 2 ^ 32
unfolding u32_at
high_half stream small = search rules

initial_state-is : (key : List ℕ) (counter stream : ℕ) → counter < 2 ^ 32 → stream < 2 ^ 64
    → initial_state key counter (nonce_bytes stream) ≡ upstream.initial_state (key_of key) counter stream
initial_state-is key counter stream small fits = grind (arith, common_steps, mod-eq_of_lt, div-eq_of_lt, no_first, low_half, high_half)

-- a word of a block whose counter has 32 bits
block_word-is : (key : List ℕ) (counter stream k : ℕ) → counter < 2 ^ 32 → stream < 2 ^ 64
    → slice_index (chacha20_block key counter (nonce_bytes stream)) k ≡ upstream.block_word 10 (key_of key) counter stream k
unfolding chacha20_block upstream.block_word
block_word-is key counter stream k small fits =
    let x = initial_state key counter (nonce_bytes stream) in
    let rounds : double_rounds 10 x ≡ upstream.double_rounds 10 x =
    double_rounds-is 10 x (column_round-is _ _ _ _ _ _ _ _ _ _ _ _ _ _ _ _) in
    slice_index-state_sum (double_rounds 10 x) x k (ap length rounds ∙ length-double_rounds 10 x refl)
    ∙ ap (λ (s : List ℕ). word_sum (slice_index s k) (slice_index x k)) rounds
    ∙ ap (λ (s : List ℕ). word_sum (slice_index (upstream.double_rounds 10 s) k) (slice_index s k))
    (initial_state-is key counter stream small fits)

-- the word of a place that the RFC's counter of 32 bits reaches
pub word_at-is : (seed stream place : ℕ) → place < 2 ^ 36 → stream < 2 ^ 64
    → word_at 10 (key_of (key_bytes seed)) stream place ≡ seed_word seed stream place
unfolding seed_word
word_at-is seed stream place near fits = grind (arith, common_steps, lt-ltb, block_word-is)

-- a generator that is moved to a place, of which 68 bits count
pub set_word_pos-is : (g : ChaCha) (key : List ℕ) (stream next pos place : ℕ)
    → g ≡ record { key = key; stream = stream; word_pos = next } → pos ≡ place → place < 2 ^ 36
    → record g { word_pos = pos % 2 ^ 68 } ≡ record { key = key; stream = stream; word_pos = place }
set_word_pos-is g key stream next pos place e same near = search rules

-- the generator of a seed, once it stands at a place
pub stood-at : (g h : ChaCha) (seed stream next pos place : ℕ) → g ≡ record { key = key_of (key_bytes seed); stream = stream; word_pos = next }
    → h ≡ record { key = g.key; stream = g.stream; word_pos = pos } → pos ≡ place → h ≡ record { key = key_of (key_bytes seed); stream = stream; word_pos = place }
stood-at g h seed stream next pos place e stands same = search rules

-- what a generator at a place answers
pub next_word-is : (g after : ChaCha) (seed stream place word : ℕ) → (word, after) ≡ next_word 10 g
    → g ≡ record { key = key_of (key_bytes seed); stream = stream; word_pos = place }
    → place < 2 ^ 36 → stream < 2 ^ 64 → word ≡ seed_word seed stream place
next_word-is g after seed stream place word e at near fits = grind (arith, common_steps, word_at-is)

-- what a generator at a place draws into a list
pub words-drawn : (g h : ChaCha) (seed stream place : ℕ) (list filled : List ℕ) → Draws (length list) 0 g h list filled
    → g ≡ record { key = key_of (key_bytes seed); stream = stream; word_pos = place }
    → place + length list ≤ 2 ^ 36 → stream < 2 ^ 64 → AreWordsFrom (seed_word seed stream) place filled
words-drawn g h seed stream place list filled draws at near fits = grind (arith, common_steps, word_at-is)
