-- The lines of images, one after another.
use Rattle.std.specs.Prelude.{◌≡◌, ℕ, suc, ◌+◌, ◌*◌, ◌%◌, ◌^◌, ◌<◌, List, [], ◌∷◌, ◌++◌, length, take, slice_index}
use Rattle.std.proofs.Common.{append_assoc, arith}
use Rattle.std.proofs.lemmas.List.{append-nil, take_more, length-take-le}
use Rattle.std.proofs.Math.Pow.{pow-lt}
use Rattle.std.proofs.lemmas.Grind.{common_steps}
use Rattle.psi_reply.specs.Surveys.{image_line, image_lines}

-- one more size is one more line, of the next horizon
lines-more : (k : ℕ) (front : List ℕ) (size : ℕ) → image_lines k (front ++ size ∷ []) ≡ image_lines k front ++ image_line (2 ^ (k + length front)) size
lines-more k [] size = grind (arith, common_steps, append-nil)
lines-more k (first ∷ rest) size = grind (arith, common_steps, append_assoc, (lines-more (suc k) rest size))

-- a shift of 1 by less than 13 is a power of two
pub shift-power : (exponent : ℕ) → exponent < 13 → 1 * 2 ^ exponent % 4294967296 ≡ 2 ^ exponent
shift-power exponent small = (let less : 2 ^ exponent < 2 ^ 32 = pow-lt {i = exponent} {j = 32} (omega arith) in omega arith)

-- a text that holds the lines of the first sizes holds one line more, once it is appended
pub image_lines_pushed : (base before after sizes : List ℕ) (i t size : ℕ) → i < length sizes → t ≡ 2 ^ i → size ≡ slice_index sizes i
    → before ≡ base ++ image_lines 0 (take i sizes) → after ≡ before ++ image_line t size → after ≡ base ++ image_lines 0 (take (i + 1) sizes)
image_lines_pushed base before after sizes i t size small power is held pushed = grind (arith, common_steps, length-take-le, take_more, lines-more, append_assoc)
