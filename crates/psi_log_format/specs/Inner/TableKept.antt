-- The texts of small numbers in a table.
use Rattle.std.specs.Prelude.{◌≡◌, ℕ, ◌<◌, ◌≤◌, List, ◌∷◌, length, take, decimal, slice_index_or}
use Rattle.psi_log_format.specs.declared.digits.Digits.{Digits}

-- a comma and the digits of the number, in the front of four bytes
pub record IsDigits (n : ℕ) (d : Digits) : Type 0 where
  pub whole : length d.bytes ≡ 4
  pub few : d.len ≤ 4
  pub text : take d.len d.bytes ≡ 44 ∷ decimal n

-- the table has the digits of the numbers from 0 on
abbrev pub AreDigits : List Digits → Type 0
AreDigits table = (n : ℕ) (d : Digits) → n < length table → IsDigits n (slice_index_or table n d)
