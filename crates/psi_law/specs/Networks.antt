-- The chains and the samples of networks.
use Rattle.std.specs.Prelude.{ℕ, List, map, Option}
use Rattle.psi_state.specs.declared.Outcome.{Outcome}
use Rattle.psi_state.specs.State.{all_states}
use Rattle.psi_kinds.specs.declared.moves.Move.{Move}
use Rattle.psi_kinds.specs.Moves.{moved}
use Rattle.psi_rate.specs.Composition.{SystemParts, function_at, system_functions}
use Rattle.psi_rate.specs.Outcomes.{outcome_within}
use Rattle.psi_horizon.specs.Runs.{ending_at}
use Rattle.psi_closed.specs.Closed.{total_states, closed_ending}
use Rattle.psi_closed.specs.Planned.{closed_functions as moves_by_time}
use Rattle.psi_net_model.specs.Network.{Network, caps_of, rates_of, functions_of}
use Rattle.psi_law.specs.Counting.{Words}
use Rattle.psi_law.specs.Chains.{Chain}

-- the chain of the events of a system, which have these functions, on all states
abbrev pub chain_of : {E : Type 0} → (E → List ℕ → List ℕ) → SystemParts E → Chain
chain_of function system = record { functions = map function system.events; rates = system.rates; states = all_states system.caps }

-- how its region run of each horizon ends under the words of a past: with one state, or with more
abbrev pub ending_of : {E : Type 0} → (E → List ℕ → List ℕ) → SystemParts E → Words → ℕ → Option (List ℕ)
ending_of function system past = ending_at system.split (system_functions function system past) system.caps

-- its sample under the words of a past: what `Plan::sample` answers
abbrev pub sample_of : {E : Type 0} → (E → List ℕ → List ℕ) → SystemParts E → Words → Outcome
sample_of function system past = outcome_within (ending_of function system past) system.limit

-- the chain of the kinds of a network's events, on all states
abbrev pub network_chain : Network → Chain
network_chain net = record { functions = functions_of net; rates = rates_of net; states = all_states (caps_of net) }

-- how its region run of each horizon ends
abbrev pub network_ending : Network → Words → ℕ → Option (List ℕ)
network_ending net past = ending_at net.split (function_at (functions_of net) (rates_of net) past) (caps_of net)

-- its sample under the words of a past: what the command `sample` prints, of the words of the seed and the stream
abbrev pub network_sample : Network → Words → Outcome
network_sample net past = outcome_within (network_ending net past) net.limit

-- the chain of moves within capacities, on the states of a total
abbrev pub closed_chain : List ℕ → ℕ → List Move → List ℕ → Chain
closed_chain caps total moves rates = record { functions = map (λ m. moved caps m) moves; rates = rates; states = total_states caps total }

-- how their closed run of each horizon ends
abbrev pub moves_ending : List ℕ → ℕ → List Move → List ℕ → Words → ℕ → Option (List ℕ)
moves_ending caps total moves rates past = closed_ending caps total (moves_by_time caps moves rates past)

-- their sample under the words of a past: what `ClosedPlan::sample` answers
abbrev pub closed_sample : List ℕ → ℕ → List Move → List ℕ → ℕ → Words → Outcome
closed_sample caps total moves rates limit past = outcome_within (moves_ending caps total moves rates past) limit

-- the chain of the kinds of a network's events, on the states of a total
abbrev pub network_total_chain : Network → ℕ → Chain
network_total_chain net total = record { functions = functions_of net; rates = rates_of net; states = total_states (caps_of net) total }

-- how its closed run of each horizon ends
abbrev pub network_total_ending : Network → ℕ → Words → ℕ → Option (List ℕ)
network_total_ending net total past = closed_ending (caps_of net) total (function_at (functions_of net) (rates_of net) past)

-- its sample under the words of a past: what the command `closed` prints, of the words of the seed and the stream
abbrev pub network_total_sample : Network → ℕ → Words → Outcome
network_total_sample net total past = outcome_within (network_total_ending net total past) net.limit
