-- The running totals of rates, and what a wheel keeps.
use Rattle.std.specs.Prelude.{◌≡◌, ℕ, ◌+◌, List, [], ◌∷◌}
use Rattle.psi_rate.specs.Rates.{AreRates, total, least_power}

-- the sums of the rates up to each one, on top of what stands before them
abbrev pub totals_from : ℕ → List ℕ → List ℕ
totals_from sum [] = []
totals_from sum (rate ∷ rates) = (sum + rate) ∷ totals_from (sum + rate) rates

-- what a wheel keeps of its rates: their running totals, their sum and the modulus
pub record IsDial (rates totals : List ℕ) (sum modulus : ℕ) : Type 0 where
  pub valid : AreRates rates
  pub running : totals ≡ totals_from 0 rates
  pub whole : sum ≡ total rates
  pub power : modulus ≡ least_power (total rates)
