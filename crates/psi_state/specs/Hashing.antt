-- A number for each state, by multiplication (Knuth, The Art of Computer Programming, volume 3, section 6.4).
use Rattle.std.specs.Prelude.{ℕ, zero, suc, ◌+◌, ◌*◌, ◌/◌, ◌%◌, ◌^◌, List, length, slice_index, nat_le, if◌then◌else◌}

-- the numbers of four queues side by side, 16 bits each
abbrev pub quad : List ℕ → ℕ → ℕ
quad x i = slice_index x (4 * i) + 65536 * slice_index x (4 * i + 1) + 4294967296 * (slice_index x (4 * i + 2) + 65536 * slice_index x (4 * i + 3))

-- the number at a place, counted from 0, of four that stand side by side
abbrev pub number_in : ℕ → ℕ → ℕ
number_in n place = n / 2 ^ (16 * place) % 2 ^ 16

-- the product of the first n quads
abbrev pub mixed : List ℕ → ℕ → ℕ
mixed x zero = 0
mixed x (suc n) = (mixed x n + quad x n) % 2 ^ 64 * 11400714819323198485 % 2 ^ 64

-- the quads that are taken: those of eight queues where there are no more, and else all
abbrev pub quads : ℕ → ℕ
quads n = if nat_le n 8 then 2 else 8

-- the high bits of their product
unfoldable pub hash : List ℕ → ℕ
hash x = mixed x (quads (length x)) / 2 ^ 32
