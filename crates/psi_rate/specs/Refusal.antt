-- When rates make no wheel.
use Rattle.std.specs.Prelude.{◌≡◌, ℕ, List, []}
use Rattle.psi_rate.specs.Rates.{PassesAt}
use Rattle.psi_rate.specs.declared.wheel.RateRefusal.{RateRefusal}
use Rattle.psi_rate.specs.declared.wheel.RateRefusal.TheVariants.{NoEvents, TotalTooLarge, OutOfMemory}

-- what each refusal says of the rates; `OutOfMemory` says nothing
abbrev pub IsRateRefusal : RateRefusal → List ℕ → Type 0
IsRateRefusal NoEvents rates = rates ≡ []
IsRateRefusal (TotalTooLarge at) rates = PassesAt rates at
IsRateRefusal OutOfMemory rates = Unit {0}
