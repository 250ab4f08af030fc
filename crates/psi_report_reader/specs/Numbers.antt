-- The numbers that the fields of a report are. What is read here is wider than decimal numbers: a whole text is compared afterwards.
use Rattle.std.specs.Prelude.{ℕ, ◌+◌, ◌-◌, ◌*◌, ◌^◌, ℤ, pos, neg_ℤ, List, [], ◌∷◌, ◌&&◌, ◌==◌, nat_le, nat_lt, Option, Some, None, option_map, if◌then◌else◌}
use Rattle.std.specs.Option.{option_and_then}

-- a number with one digit more, where the number is less than 10^36
unfoldable pub with_digit : ℕ → ℕ → Option ℕ
with_digit value byte = if (nat_le 48 byte && nat_le byte 57) && nat_lt value (10 ^ 36) then Some (value * 10 + (byte - 48)) else None

-- a number with more digits
unfoldable pub with_digits : ℕ → List ℕ → Option ℕ
with_digits value [] = Some value
with_digits value (byte ∷ bytes) = option_and_then (λ next. with_digits next bytes) (with_digit value byte)

-- the number less than 10^37 that digits are
abbrev pub magnitude : List ℕ → Option ℕ
magnitude word = with_digits 0 word

-- the integer that digits are, after a minus sign or none
abbrev pub integer_of : List ℕ → Option ℤ
integer_of [] = None
integer_of (byte ∷ bytes) = if byte == 45 then option_map (λ n. neg_ℤ (pos n)) (magnitude bytes) else option_map (λ n. pos n) (magnitude (byte ∷ bytes))

-- a number of 64 bits
abbrev pub small : ℕ → Option ℕ
small n = if nat_lt n (2 ^ 64) then Some n else None

-- the number of 64 bits that digits are
unfoldable pub count_in : List ℕ → Option ℕ
count_in word = option_and_then small (magnitude word)
