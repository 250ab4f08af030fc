-- The event of a word: the numbers below a power of two, dealt out among the events by their rates.
use Rattle.std.specs.Prelude.{◌≡◌, ℕ, zero, suc, ◌+◌, ◌-◌, ◌*◌, ◌%◌, ◌^◌, ◌<◌, ◌≤◌, List, [], ◌∷◌, length, take, slice_index, nat_lt, nat_le, if◌then◌else◌}

-- the sum of the rates
abbrev pub total : List ℕ → ℕ
total [] = 0
total (rate ∷ rates) = rate + total rates

-- the greatest total that a network may have
abbrev pub greatest_total : ℕ
greatest_total = 16777216

-- rates that a wheel is made of: 1 to 1,024 of them, each from 1 to 1,048,576, with a total of at most 16,777,216
pub record AreRates (rates : List ℕ) : Type 0 where
  pub some : 1 ≤ length rates
  pub few : length rates ≤ 1024
  pub least : (i : ℕ) → i < length rates → 1 ≤ slice_index rates i
  pub most : (i : ℕ) → i < length rates → slice_index rates i ≤ 1048576
  pub bounded : total rates ≤ greatest_total

-- m is the least power of two that isn't below n
pub record IsLeastPower (n m : ℕ) : Type 0 where
  pub exponent : ℕ
  pub power : m ≡ 2 ^ exponent
  pub enough : n ≤ m
  pub least : (k : ℕ) → n ≤ 2 ^ k → m ≤ 2 ^ k

-- the first of p, 2p, 4p, .. that isn't below n, among so many
abbrev pub power_from : ℕ → ℕ → ℕ → ℕ
power_from zero n p = p
power_from (suc more) n p = if nat_le n p then p else power_from more n (2 * p)

-- the least power of two that isn't below n
unfoldable pub least_power : ℕ → ℕ
least_power n = power_from n n 1

-- the event that has the number r, where event 0 has the first rate_0 numbers, event 1 the next rate_1, and so on; past them all, the count of the events, which stands for idle
abbrev pub event_at : List ℕ → ℕ → ℕ
event_at [] r = 0
event_at (rate ∷ rates) r = if nat_lt r rate then 0 else suc (event_at rates (r - rate))

-- the event of a word
unfoldable pub event_of : List ℕ → ℕ → ℕ
event_of rates word = event_at rates (word % least_power (total rates))

-- e is the event that has the number r: the rates before it add up to at most r, and with its own to more; idle has the numbers from the total on
pub record HasNumber (rates : List ℕ) (r e : ℕ) : Type 0 where
  pub place : e ≤ length rates
  pub before : total (take e rates) ≤ r
  pub own : e < length rates → r < total (take (suc e) rates)

-- the running total passes the greatest one at this place, and at none before
pub record PassesAt (rates : List ℕ) (at : ℕ) : Type 0 where
  pub place : at < length rates
  pub before : total (take at rates) ≤ greatest_total
  pub past : greatest_total < total (take (suc at) rates)
