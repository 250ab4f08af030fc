-- What the runs of regions say of the composed map.
use Rattle.std.specs.Prelude.{◌≡◌, ℕ, suc, ◌^◌, ◌≤◌, List, Some}
use Rattle.std.proofs.Common.{sym, ◌∙◌, arith}
use Rattle.std.proofs.lemmas.Grind.{common_steps}
use Rattle.psi_state.specs.State.{zeros, all_states}
use Rattle.psi_state.proofs.BoxesLemmas.{In-of_all_states}
use Rattle.psi_state.proofs.StatesLemmas.{In-zeros, zeros-caps}
use Rattle.psi_state.proofs.SetsLemmas.{single-image}
use Rattle.psi_rate.specs.Composition.{compose, AreClosed, AreMonotone}
use Rattle.psi_rate.specs.Least.{IsLeast}
use Rattle.psi_rate.proofs.LeastLemmas.{is_least-agree, has_none_below-agree}
use Rattle.psi_rate.specs.Outcomes.{meeting_at}
use Rattle.psi_horizon.specs.Runs.{ending_at}
use Rattle.psi_horizon.proofs.RunsLemmas.{ending-reached, run-monotone}
use Rattle.psi_exact.specs.declared.answers.Meeting.{Meeting}
use Rattle.psi_exact.specs.declared.answers.Meeting.TheVariants.{Constant, NotConstant}
use Rattle.psi_exact.specs.Surveys.{IsMeeting, MeetsBy, meeting_within}
use Rattle.psi_exact.proofs.SurveysLemmas.{meeting_at-reached, meeting_within-only}

-- where the run of a horizon ends with one state, the map of as many steps sends all states to it
pub ending-meets : (split : ℕ) (caps : List ℕ) (f : ℕ → List ℕ → List ℕ) (t : ℕ) (s : List ℕ) → AreClosed caps f → ending_at split f caps t ≡ Some s
    → meeting_at f caps t ≡ Some s
ending-meets split caps f t s closed met =
    let reached = ending-reached split caps f t s closed met in
    single-image (compose f t) s (zeros caps) (all_states caps) (In-zeros caps) (λ x member. reached.each x t (In-of_all_states caps x member) (omega arith))

-- so the map is constant at the latest where a run ends with one state, with that state
pub meets-by : (split : ℕ) (caps : List ℕ) (f : ℕ → List ℕ → List ℕ) (h t : ℕ) (s : List ℕ) (m : Meeting) → AreClosed caps f → 1 ≤ t → t ≤ 2 ^ h
    → ending_at split f caps t ≡ Some s → IsMeeting (meeting_at f caps) h m → MeetsBy t s m
meets-by split caps f h t s (Constant u r) closed some most met is =
    let here = ending-meets split caps f t s closed met in
    let order : u ≤ t = grind (arith, common_steps) in
    let own = (meeting_at-reached caps f u r closed is.answer).each (zeros caps) t (zeros-caps caps) order in
    let other = (meeting_at-reached caps f t s closed here).each (zeros caps) t (zeros-caps caps) (omega arith) in
    record { order = order; state = sym own ∙ other }
meets-by split caps f h t s (NotConstant l) closed some most met is =
    let here = ending-meets split caps f t s closed met in
    let none = is.1.each t some (omega arith) in
    absurd cc

-- also at the least such horizon
pub least-meets : (split : ℕ) (caps : List ℕ) (f : ℕ → List ℕ → List ℕ) (h t : ℕ) (s : List ℕ) (m : Meeting) → AreClosed caps f
    → IsLeast (ending_at split f caps) (2 ^ h) t s → IsMeeting (meeting_at f caps) h m → MeetsBy t s m
least-meets split caps f h t s m closed least is = meets-by split caps f h t s m closed least.some least.within least.answer is

-- under monotone events the two are one
pub meeting-monotone : (split : ℕ) (caps : List ℕ) (f : ℕ → List ℕ → List ℕ) (h : ℕ) (m : Meeting) → AreClosed caps f → AreMonotone caps f
    → IsMeeting (ending_at split f caps) h m → IsMeeting (meeting_at f caps) h m
meeting-monotone split caps f h (Constant t s) closed monotone is =
    is_least-agree (ending_at split f caps) (meeting_at f caps) (2 ^ h) t s (λ k some. run-monotone split caps f k closed monotone) is
meeting-monotone split caps f h (NotConstant l) closed monotone is =
    (is.0, has_none_below-agree (ending_at split f caps) (meeting_at f caps) (suc (2 ^ h)) (λ k some. run-monotone split caps f k closed monotone) is.1)

-- so the least horizon at which a run ends with one state is that at which the map is constant
pub meeting-monotone_only : (split : ℕ) (caps : List ℕ) (f : ℕ → List ℕ → List ℕ) (h : ℕ) (m : Meeting) → AreClosed caps f → AreMonotone caps f
    → IsMeeting (ending_at split f caps) h m → m ≡ meeting_within (meeting_at f caps) h
meeting-monotone_only split caps f h m closed monotone is = meeting_within-only (meeting_at f caps) h m (meeting-monotone split caps f h m closed monotone is)
