-- What each event's function is, the function of each time is.
use Rattle.std.specs.Prelude.{◌≡◌, ℕ, ◌-◌, List, map, slice_index_or, All}
use Rattle.std.proofs.Common.{arith, subst}
use Rattle.std.proofs.lemmas.List.Elements.{All-map}
use Rattle.std.proofs.lemmas.Grind.{common_steps}
use Rattle.psi_event.specs.Law.{IsClosed, IsMonotone}
use Rattle.psi_rate.specs.Composition.{SystemParts, picked, function_at, system_functions, AreEach, AreClosed, AreMonotone, Keeps, AreKeeping}

-- the function of a word is such a function, if each event's is and one that changes nothing is
pub picked-each : (P : (List ℕ → List ℕ) → Type 0) (functions : List (List ℕ → List ℕ)) (rates : List ℕ) (word : ℕ)
    → All P functions → P (λ x. x) → P (picked functions rates word)
picked-each P functions rates word each idle = grind (arith, common_steps)

-- so are the functions of all times
pub function_at-each : (Is : (List ℕ → List ℕ) → Type 0) (functions : List (List ℕ → List ℕ)) (rates : List ℕ) (words : ℕ → ℕ)
    → All Is functions → Is (λ x. x) → AreEach Is (function_at functions rates words)
function_at-each Is functions rates words each idle = record { each = λ t. picked-each Is functions rates (words (t - 1)) each idle }

-- each time's function keeps a set of states, if each event's does
pub function_at-keeping : (S : List ℕ → Type 0) (functions : List (List ℕ → List ℕ)) (rates : List ℕ) (words : ℕ → ℕ) → All (λ f. Keeps S f) functions
    → AreKeeping S (function_at functions rates words)
function_at-keeping S functions rates words keeps = grind (arith, common_steps)

-- each time's function makes states of states, if each event's does
pub function_at-closed : (caps : List ℕ) (functions : List (List ℕ → List ℕ)) (rates : List ℕ) (words : ℕ → ℕ) → All (λ f. IsClosed caps f) functions
    → AreClosed caps (function_at functions rates words)
function_at-closed caps functions rates words closed = grind (arith, common_steps)

-- so it does for the events of a network
pub functions-closed : {E : Type 0} (capacities : E → List ℕ) (function : E → List ℕ → List ℕ) (system : SystemParts E) (words : ℕ → ℕ)
    → ((event : E) → IsClosed (capacities event) (function event)) → All (λ event. capacities event ≡ system.caps) system.events
    → AreClosed system.caps (system_functions function system words)
functions-closed {E} capacities function system words closed same =
    function_at-closed system.caps (map function system.events) system.rates words
    (All-map (IsClosed system.caps) function system.events
    (λ k d small. subst (λ (caps : List ℕ). IsClosed caps (function (slice_index_or system.events k d))) (same k d small) (closed (slice_index_or system.events k d))))

-- each time's function is monotone, if each event's is
pub function_at-monotone : (caps : List ℕ) (functions : List (List ℕ → List ℕ)) (rates : List ℕ) (words : ℕ → ℕ) → All (λ f. IsMonotone caps f) functions
    → AreMonotone caps (function_at functions rates words)
function_at-monotone caps functions rates words monotone = grind (arith, common_steps)

-- events that are monotone each within its own capacities are so within the network's, where these are the same
pub events-monotone : {E : Type 0} (capacities : E → List ℕ) (function : E → List ℕ → List ℕ) (caps : List ℕ) (events : List E)
    → All (λ event. IsMonotone (capacities event) (function event)) events → All (λ event. capacities event ≡ caps) events
    → All (λ f. IsMonotone caps f) (map function events)
events-monotone {E} capacities function caps events monotone same =
    All-map (IsMonotone caps) function events
    (λ k d small. subst (λ (cs : List ℕ). IsMonotone cs (function (slice_index_or events k d))) (same k d small) (monotone k d small))
