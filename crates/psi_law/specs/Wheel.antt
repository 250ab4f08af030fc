-- The wheel is exact: of all words, each event is chosen by its rate's share.
use Rattle.std.specs.Prelude.{◌≡◌, ℕ, ◌-◌, ◌*◌, ◌^◌, ◌<◌, List, length, slice_index, nat_eq}
use Rattle.psi_rate.specs.Rates.{total, least_power, event_of}
use Rattle.psi_law.specs.Counting.{count_below}

-- how many words there are: those of 32 bits
unfoldable pub word_count : ℕ
word_count = 2 ^ 32

-- how many words choose an event, or idle, whose number is the count of the events
abbrev pub words_for : List ℕ → ℕ → ℕ
words_for rates e = count_below word_count (λ word. nat_eq (event_of rates word) e)

-- of the modulus each event has its rate, and idle has the rest; of all words they have the same parts
pub record IsExact (rates : List ℕ) : Type 0 where
  pub each : (e : ℕ) → e < length rates → words_for rates e * least_power (total rates) ≡ slice_index rates e * word_count
  pub idle : words_for rates (length rates) * least_power (total rates) ≡ (least_power (total rates) - total rates) * word_count
