-- A stationary distribution by state elimination, in whole numbers and without subtraction (Grassmann, Taksar and Heyman 1985).
use Rattle.std.specs.Prelude.{ℕ, ◌+◌, ◌*◌, List, [], ◌∷◌, length, slice_index, nat_eq, if◌then◌else◌}
use Rattle.std.specs.List.{sum_by}
use Rattle.psi_law.specs.Counting.{sum_below}
use Rattle.psi_law.specs.Chains.{Chain, function_of, is_same}

-- a rate for each two states
abbrev pub Matrix : Type 0
Matrix = List ℕ → List ℕ → ℕ

-- the rate from x to the states of a list together
abbrev pub outflow : List (List ℕ) → Matrix → List ℕ → ℕ
outflow xs q x = sum_by (λ z. q x z) xs

-- the rates from the states of a list to y, each times the weight of its state
abbrev pub inflow : List (List ℕ) → Matrix → (List ℕ → ℕ) → List ℕ → ℕ
inflow xs q weight y = sum_by (λ x. weight x * q x y) xs

-- the rates of the chain while it is not in a, times the outflow of a: a step into a is followed at once by the step out of it
abbrev pub censored : List ℕ → List (List ℕ) → Matrix → Matrix
censored a rest q x y = outflow rest q a * q x y + q x a * q a y

-- the weight of an eliminated state by its outflow and inflow: 1 where it has no outflow, and otherwise the inflow
abbrev pub first_weight : (out inward : ℕ) → ℕ
first_weight out inward = if nat_eq out 0 then 1 else inward

-- the weights that the elimination of the states of a list, one after another, finds
abbrev pub eliminated : List (List ℕ) → Matrix → List ℕ → ℕ
eliminated [] q x = 0
eliminated (a ∷ rest) q x =
    if is_same x a
    then first_weight (outflow rest q a) (inflow rest q (λ z. eliminated rest (censored a rest q) z) a)
    else (outflow rest q a * eliminated rest (censored a rest q) x)

-- the rate of the events of a chain that lead from x to y
abbrev pub rate_between : Chain → Matrix
rate_between chain x y = sum_below (length chain.rates) (λ e. slice_index chain.rates e * (if is_same (function_of chain e x) y then 1 else 0))

-- the weights that elimination finds for a chain
abbrev pub stationary_weight : Chain → List ℕ → ℕ
stationary_weight chain = eliminated chain.states (rate_between chain)
