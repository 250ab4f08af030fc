-- What a report is of: samples, of which some are met.
use Rattle.std.specs.Prelude.{◌≡◌, ℕ, ◌≤◌, ◌^◌, List, [], ◌∷◌}
use Rattle.psi_state.specs.State.{IsBelow}
use Rattle.psi_state.specs.declared.Outcome.{Outcome}
use Rattle.psi_state.specs.declared.Outcome.TheVariants.{Met, NotMet}
use Rattle.psi_net_model.specs.Network.{Network, caps_of}

-- the states of the samples that are met, in their order
unfoldable pub met_states : List Outcome → List (List ℕ)
met_states [] = []
met_states (Met horizon state ∷ outcomes) = state ∷ met_states outcomes
met_states (NotMet limit ∷ outcomes) = met_states outcomes

-- and their horizons
unfoldable pub met_horizons : List Outcome → List ℕ
met_horizons [] = []
met_horizons (Met horizon state ∷ outcomes) = horizon ∷ met_horizons outcomes
met_horizons (NotMet limit ∷ outcomes) = met_horizons outcomes

-- a horizon of a sample: a power of two, at most 2^22
pub record IsHorizon (horizon : ℕ) : Type 0 where
  pub exponent : ℕ
  pub few : exponent ≤ 22
  pub power : horizon ≡ 2 ^ exponent

-- what a sample of a network is: where it is met, its horizon is such a power of two and its state is within the capacities
abbrev pub IsSampleOf : Network → Outcome → Type 0
IsSampleOf net (Met horizon state) = IsHorizon horizon × IsBelow state (caps_of net)
IsSampleOf net (NotMet limit) = Unit {0}
