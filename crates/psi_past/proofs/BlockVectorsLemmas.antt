-- The worked values of RFC 8439, so that a wrong constant or step of the definitions does not check.
use Rattle.std.proofs.Common.{◌≡◌, [], ◌∷◌, refl}
use Rattle.rand_core.specs.Steps.{u32_at}
use Rattle.psi_past.specs.ChaCha20.{quarter_round, quarter_round_at, column_round, diagonal_round, double_rounds, chacha20_block}
use Rattle.psi_past.specs.SeedWord.{seed_word}

-- 2.1.1
pub quarter_round_vector : quarter_round 0x11111111 0x01020304 0x9b8d6f43 0x01234567
    ≡ (0xea2a92f4, 0xcb1cf8ce, 0x4581472e, 0x5881c4bb)
unfolding quarter_round
quarter_round_vector = refl

-- 2.2.1
pub quarter_round_at_vector : quarter_round_at 2 7 8 13
    (0x879531e0 ∷ 0xc5ecf37d ∷ 0x516461b1 ∷ 0xc9a62f8a
    ∷ 0x44c20ef3 ∷ 0x3390af7f ∷ 0xd9fc690b ∷ 0x2a5f714c
    ∷ 0x53372767 ∷ 0xb00a5631 ∷ 0x974c541a ∷ 0x359e9963
    ∷ 0x5c971061 ∷ 0x3d631689 ∷ 0x2098d9d6 ∷ 0x91dbd320 ∷ [])
    ≡ 0x879531e0 ∷ 0xc5ecf37d ∷ 0xbdb886dc ∷ 0xc9a62f8a
    ∷ 0x44c20ef3 ∷ 0x3390af7f ∷ 0xd9fc690b ∷ 0xcfacafd2
    ∷ 0xe46bea80 ∷ 0xb00a5631 ∷ 0x974c541a ∷ 0x359e9963
    ∷ 0x5c971061 ∷ 0xccc07c79 ∷ 0x2098d9d6 ∷ 0x91dbd320 ∷ []
unfolding quarter_round
quarter_round_at_vector = refl

-- 2.3.2
pub chacha20_block_vector : chacha20_block
    (0x00 ∷ 0x01 ∷ 0x02 ∷ 0x03 ∷ 0x04 ∷ 0x05 ∷ 0x06 ∷ 0x07 ∷ 0x08 ∷ 0x09 ∷ 0x0a ∷ 0x0b ∷ 0x0c ∷ 0x0d ∷ 0x0e ∷ 0x0f
    ∷ 0x10 ∷ 0x11 ∷ 0x12 ∷ 0x13 ∷ 0x14 ∷ 0x15 ∷ 0x16 ∷ 0x17 ∷ 0x18 ∷ 0x19 ∷ 0x1a ∷ 0x1b ∷ 0x1c ∷ 0x1d ∷ 0x1e ∷ 0x1f ∷ [])
    1 (0x00 ∷ 0x00 ∷ 0x00 ∷ 0x09 ∷ 0x00 ∷ 0x00 ∷ 0x00 ∷ 0x4a ∷ 0x00 ∷ 0x00 ∷ 0x00 ∷ 0x00 ∷ [])
    ≡ 0xe4e7f110 ∷ 0x15593bd1 ∷ 0x1fdd0f50 ∷ 0xc47120a3
    ∷ 0xc7f4d1c7 ∷ 0x0368c033 ∷ 0x9aaa2204 ∷ 0x4e6cd4c3
    ∷ 0x466482d2 ∷ 0x09aa9f07 ∷ 0x05d7c214 ∷ 0xa2028bd9
    ∷ 0xd19c12b5 ∷ 0xb94e16de ∷ 0xe883d0cb ∷ 0x4e3c50a2 ∷ []
unfolding u32_at quarter_round column_round diagonal_round double_rounds chacha20_block
chacha20_block_vector = refl

-- A.1, test vector 1: the first word of seed 0 and stream 0
pub first_word_vector : seed_word 0 0 0 ≡ 0xade0b876
unfolding u32_at quarter_round column_round diagonal_round double_rounds chacha20_block seed_word
first_word_vector = refl
