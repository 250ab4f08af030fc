-- What a closed plan is, what it keeps, and the facts of its samples.
use Rattle.std.specs.Prelude.{◌≡◌, ℕ, ◌≤◌, ◌^◌, List, length, map, All}
use Rattle.psi_state.specs.declared.Outcome.{Outcome}
use Rattle.psi_state.specs.State.{AreCapacities}
use Rattle.psi_kinds.specs.declared.moves.Move.{Move}
use Rattle.psi_kinds.specs.Moves.{moved, IsMove}
use Rattle.psi_rate.specs.Composition.{Functions, function_at}
use Rattle.psi_rate.specs.Outcomes.{IsOutcome, ReachesFrom}
use Rattle.psi_rate.specs.declared.numbers.EventNumbers.{EventNumbers}
use Rattle.psi_rate.specs.Keeping.{KeepsNumbers}
use Rattle.psi_closed.specs.Closed.{IsOfTotal, closed_ending, DecidesRuns, MeetsOfTotal}
use Rattle.psi_closed.specs.Diagram.{Shown, IsTotal}

-- a closed network: capacities, the number of customers in all, moves, their rates, and the greatest horizon's exponent
pub record ClosedNetwork : Type 0 where
  pub caps : List ℕ
  pub total : ℕ
  pub moves : List Move
  pub rates : List ℕ
  pub limit : ℕ

-- a closed network with the past that its samples are drawn from
pub record ClosedPlanned (P : Type 0) : Type 0 where
  pub network : ClosedNetwork
  pub past : P

-- a closed network with the words that its samples are drawn from
pub record ClosedDrawn : Type 0 where
  pub network : ClosedNetwork
  pub words : ℕ → ℕ

-- the functions of moves by the time before zero, under these words; idle changes nothing
abbrev pub closed_functions : List ℕ → List Move → List ℕ → (ℕ → ℕ) → Functions
closed_functions caps moves rates words = function_at (map (λ m. moved caps m) moves) rates words

-- those of a network's moves
abbrev pub network_functions : ClosedNetwork → (ℕ → ℕ) → Functions
network_functions network words = closed_functions network.caps network.moves network.rates words

-- each is a move within the capacities
abbrev pub AreMoves : List ℕ → List Move → Type 0
AreMoves caps moves = All (λ m. IsMove caps m) moves

-- what every plan keeps: its parts fit each other, there is room for the numbers of the events of the greatest horizon, and those that are kept are those of the words
pub record IsPlan (diagram : Shown) (events : List Move) (rates : List ℕ) (limit : ℕ) (words : ℕ → ℕ) (numbers : EventNumbers) : Type 0 where
  pub valid : AreCapacities diagram.caps
  pub fits : IsTotal diagram.caps diagram.total
  pub moves : AreMoves diagram.caps events
  pub same_count : length rates ≡ length events
  pub most : limit ≤ 22
  pub kept : KeepsNumbers rates words (2 ^ limit) numbers

-- an outcome is that of coupling from the past (Propp and Wilson 1996) over the arc hulls of the states with k customers, for these functions
pub record IsClosedSample (caps : List ℕ) (k : ℕ) (f : Functions) (limit : ℕ) (outcome : Outcome) : Type 0 where
  -- met at the least horizon among 1, 2, 4, .., 2^limit whose closed run ends with one state, with that state, or not met where there is none
  pub least : IsOutcome (closed_ending caps k f) limit outcome
  -- where it is met, every state with k customers that starts there or earlier is in its state at time zero
  pub reached : ReachesFrom (IsOfTotal caps k) f outcome
  -- each longer closed run ends with that state alone; where it isn't met, no closed run of a horizon up to 2^limit, a power of two or not, ends with one state
  pub later : DecidesRuns caps k f limit outcome
  -- its state is within the capacities and holds k customers
  pub within : MeetsOfTotal caps k outcome
