-- How the region of a run goes on, and what the region of a plan is.
use Rattle.std.proofs.Common.{◌≡◌, ℕ, ◌^◌, List, Option, Some, None, IsSome, IfSome, ap, sym, ◌∙◌, subst}
use Rattle.std.proofs.lemmas.Bool.{false≢true}
use Rattle.psi_state.specs.State.{Corners, IsBelow}
use Rattle.psi_state.specs.Members.{In}
use Rattle.psi_state.proofs.BoxesLemmas.{In-high}
use Rattle.psi_state.specs.Sets.{single}
use Rattle.psi_event.specs.Law.{Function, IsClosed}
use Rattle.psi_rate.specs.Composition.{Functions, SystemParts, AreClosed, system_functions}
use Rattle.psi_rate.proofs.FunctionsLemmas.{functions-closed}
use Rattle.psi_rate.specs.declared.numbers.EventNumbers.{EventNumbers}
use Rattle.psi_rate.specs.Keeping.{KeepsNumbers}
use Rattle.psi_region.specs.Region.{Area, Regional, ShowsBox, IsArea}
use Rattle.psi_region.specs.Followed.{Followed, AreEnds, states_of}
use Rattle.psi_horizon.specs.declared.trace.Progress.{Progress}
use Rattle.psi_horizon.specs.declared.trace.Trace.{Trace}
use Rattle.psi_horizon.specs.Planned.{Planned, Running}
use Rattle.psi_horizon.specs.Inner.PlanKept.{running_of, IsUnderway, IsPlan, IsRun}
use Rattle.psi_horizon.specs.Runs.{region_at, region_after}
use Rattle.psi_horizon.proofs.RunsLemmas.{run-area, region_after-area}
use Rattle.psi_horizon.proofs.SampleLemmas.{single-within}

-- what holds of a run that was begun
pub if_some-map : {A : Type 0} (P Q : A → Type 0) (o : Option A) → ((a : A) → P a → Q a) → IfSome o P → IfSome o Q
if_some-map P Q None each is = tt
if_some-map P Q (Some a) each is = each a is

pub if_some-both : {A : Type 0} (P Q : A → Type 0) (X : Type 0) (o : Option A) → ((a : A) → P a → Q a → X) → IsSome o → IfSome o P → IfSome o Q → X
if_some-both P Q X None each some first second = absurd (false≢true some)
if_some-both P Q X (Some a) each some first second = each a first second

-- where a run was begun, the region is that after the steps that are done, and one of states within the capacities
pub record IsSeen {E : Type 0} (f : Functions) (system : SystemParts E) (region : Regional) (run : Option Running) : Type 0 where
  pub at : IfSome run (λ r. region.area ≡ region_after system.split f system.caps r.horizon r.done)
  pub area : IsSome run → IsArea system.caps region.area

-- these are the states with which the run of a horizon ends, and its region is one of states within the capacities
pub record EndsWith {E : Type 0} (f : Functions) (system : SystemParts E) (horizon : ℕ) (xs : List (List ℕ)) : Type 0 where
  pub states : xs ≡ (region_at system.split f system.caps horizon).states
  pub area : IsArea system.caps (region_at system.split f system.caps horizon)

pub trace-seen : {E : Type 0} (f : Functions) (system : SystemParts E) (region : Regional) (progress : Option Progress) → AreClosed system.caps f
    → IfSome progress (λ r. IsUnderway f system region r) → IsSeen f system region (running_of progress)
trace-seen f system region None closed is = record { at = tt; area = λ some. absurd (false≢true some) }
trace-seen f system region (Some r) closed is = record {
  at = is.area;
  area = λ some. subst (λ (a : Area). IsArea system.caps a) (sym is.area) (region_after-area system.split system.caps f r.horizon r.done closed);
}

-- as a plan is seen
module _ {E P : Type 0} {capacities : E → List ℕ} {function : E → Function} {words : P → ℕ → ℕ} {system : SystemParts E} {past : P} {numbers : EventNumbers} {network : Followed}
    {trace : Trace} (is : IsPlan capacities function words system past numbers network trace) where
  pub plan-seen : {now : Planned E P} → ((event : E) → IsClosed (capacities event) (function event))
      → record { system = system; past = past; run = running_of trace.run } ≡ now
      → IsSeen (system_functions function now.system (words now.past)) now.system trace.region now.run
  plan-seen closed seen =
      subst (λ (plan : Planned E P). IsSeen (system_functions function plan.system (words plan.past)) plan.system trace.region plan.run) seen
      (trace-seen (system_functions function system (words past)) system trace.region trace.run
      (functions-closed capacities function system (words past) closed is.fit.same_caps) is.traced.run)

  -- and what its runs end with
  pub run-seen : {now : Planned E P} {horizon : ℕ} {drawn : ℕ → ℕ} {run : List ℕ} → ((event : E) → IsClosed (capacities event) (function event))
      → record { system = system; past = past; run = running_of trace.run } ≡ now → IsRun function system drawn horizon network run → drawn ≡ words past
      → EndsWith (system_functions function now.system (words now.past)) now.system horizon (states_of network run)
  run-seen {now} {horizon} {drawn} {run} closed seen of same =
      subst (λ (plan : Planned E P). EndsWith (system_functions function plan.system (words plan.past)) plan.system horizon (states_of network run)) seen
      (record {
        states = of.states ∙ ap (λ (w : ℕ → ℕ). (region_at system.split (system_functions function system w) system.caps horizon).states) same;
        area = run-area system.split system.caps (system_functions function system (words past)) horizon (functions-closed capacities function system (words past) closed is.fit.same_caps);
      })

  -- once no run is begun, a plan with other numbers and words is one as well
  pub plan-rests : {later : P} {kept : EventNumbers} {after : Followed} → KeepsNumbers system.rates (words later) (2 ^ system.limit) kept → after ≡ network
      → IsPlan capacities function words system later kept after (record { region = trace.region; run = None })
  plan-rests keeps same = record { fit = is.fit; kept = keeps; follower = same ∙ is.follower; traced = record { split = is.traced.split; run = tt } }

-- the upper corner of a region's box is within the capacities
pub shown-within : (caps : List ℕ) (a : Area) (o : Option Corners) → IsArea caps a → ShowsBox a o → IfSome o (λ b. IsBelow b.lo b.hi)
    → IfSome o (λ b. IsBelow b.hi caps)
shown-within caps a None is shows ordered = tt
shown-within caps a (Some b) is shows ordered =
    is.within b.hi (subst (λ (xs : List (List ℕ)). In b.hi xs) (sym shows.1) (In-high b.lo b.hi ordered))

-- so is its one state
pub one-within : (caps : List ℕ) (a : Area) (o : Option (List ℕ)) → IsArea caps a → o ≡ single a.states → IfSome o (λ s. IsBelow s caps)
one-within caps a None is one = tt
one-within caps a (Some s) is one = single-within caps a s is (sym one)

-- and so are the ends of a region
pub ends-within : (caps : List ℕ) (a : Area) (o : Option Corners) → IsArea caps a → IfSome o (λ b. AreEnds b a.states) → IfSome o (λ b. IsBelow b.hi caps)
ends-within caps a None is none = tt
ends-within caps a (Some b) is ends = is.within b.hi ends.high
