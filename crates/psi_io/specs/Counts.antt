-- Counts of faults, which rise by one and stand still at the greatest number of 64 bits.
use Rattle.std.specs.Prelude.{ℕ, ◌+◌, ◌-◌, ◌^◌, ◌≤◌, min}

-- one more than a count, which stands still at the greatest u64
abbrev pub counted : ℕ → ℕ
counted count = min (count + 1) (2 ^ 64 - 1)

-- a count rose from before to after, or stands at the greatest u64
abbrev pub Rose : ℕ → ℕ → Type 0
Rose before after = counted before ≤ after
