-- The functions of moves keep the states of a total, so the endings of closed runs last, and their outcome has all facts of a sample.
use Rattle.std.specs.Prelude.{ℕ, List, map, slice_index_or}
use Rattle.std.proofs.lemmas.List.Elements.{All-map}
use Rattle.psi_state.specs.declared.Outcome.{Outcome}
use Rattle.psi_kinds.specs.declared.moves.Move.{Move}
use Rattle.psi_kinds.specs.Moves.{moved}
use Rattle.psi_rate.specs.Composition.{AreKeeping, Keeps}
use Rattle.psi_rate.specs.Doubling.{IsLasting}
use Rattle.psi_rate.specs.Outcomes.{IsOutcome}
use Rattle.psi_rate.proofs.FunctionsLemmas.{function_at-keeping}
use Rattle.psi_closed.specs.Closed.{IsOfTotal, closed_ending}
use Rattle.psi_closed.specs.Diagram.{IsTotal}
use Rattle.psi_closed.specs.Planned.{closed_functions, AreMoves, IsClosedSample}
use Rattle.psi_closed.proofs.MovesLemmas.{moved-keeps}
use Rattle.psi_closed.proofs.DiagramLemmas.{total-some}
use Rattle.psi_closed.proofs.RunsLemmas.{endings-last, outcome-reached, outcome-decides, outcome-of}

-- the functions of moves keep the states of a total
pub moves-keep : (caps : List ℕ) (k : ℕ) (moves : List Move) (rates : List ℕ) (words : ℕ → ℕ) → AreMoves caps moves
    → AreKeeping (IsOfTotal caps k) (closed_functions caps moves rates words)
moves-keep caps k moves rates words are =
    function_at-keeping (IsOfTotal caps k) (map (λ m. moved caps m) moves) rates words
    (All-map (λ f. Keeps (IsOfTotal caps k) f) (λ m. moved caps m) moves (λ i d small. record { each = λ x is. moved-keeps caps (slice_index_or moves i d) k x (are i d small) is }))

-- so the states with which closed runs end last
pub endings-lasting : (caps : List ℕ) (k : ℕ) (moves : List Move) (rates : List ℕ) (words : ℕ → ℕ) → IsTotal caps k → AreMoves caps moves
    → IsLasting (closed_ending caps k (closed_functions caps moves rates words))
endings-lasting caps k moves rates words fits are =
    let some = total-some caps k fits.fits in
    endings-last caps k (closed_functions caps moves rates words) (moves-keep caps k moves rates words are) some.0 some.1

-- the outcome of the closed runs is a sample
pub sample-is : (caps : List ℕ) (k : ℕ) (moves : List Move) (rates : List ℕ) (words : ℕ → ℕ) (limit : ℕ) (o : Outcome) → IsTotal caps k → AreMoves caps moves
    → IsOutcome (closed_ending caps k (closed_functions caps moves rates words)) limit o → IsClosedSample caps k (closed_functions caps moves rates words) limit o
sample-is caps k moves rates words limit o fits are least =
    let f = closed_functions caps moves rates words in
    let keeps = moves-keep caps k moves rates words are in
    let some = total-some caps k fits.fits in
    record {
      least = least;
      reached = outcome-reached caps k f keeps limit o least;
      later = outcome-decides caps k f keeps limit o some.0 some.1 least;
      within = outcome-of caps k f limit o least;
    }
