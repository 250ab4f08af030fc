-- A region that is followed through the events of the numbers that are kept ends with the states of the run over all places.
use Rattle.std.specs.Prelude.{◌≡◌, ℕ, zero, suc, ◌-◌, ◌≤◌, List, [], ◌∷◌, length, map, ◌||◌, Bool, true, false, nat_le, refl}
use Rattle.std.proofs.Common.{inl, inr, ap, sym, ◌∙◌, subst}
use Rattle.std.proofs.lemmas.Bool.{true≢false}
use Rattle.std.proofs.lemmas.List.{length-map}
use Rattle.psi_state.specs.State.{zeros}
use Rattle.psi_state.specs.Sets.{image}
use Rattle.psi_state.specs.Hull.{lows, highs, hull}
use Rattle.psi_state.proofs.StatesLemmas.{hull-box}
use Rattle.psi_state.proofs.HullLemmas.{corners-tight}
use Rattle.psi_state.proofs.SetsLemmas.{In-image}
use Rattle.psi_state.proofs.BoxesLemmas.{zeros-below, below-through}
use Rattle.psi_event.specs.Law.{Function, IsClosed}
use Rattle.psi_event.specs.Numbers.{AreEvents}
use Rattle.psi_rate.specs.Rates.{event_of}
use Rattle.psi_rate.specs.Composition.{SystemParts, function_at, AreClosed}
use Rattle.psi_rate.specs.System.{IsSystem}
use Rattle.psi_rate.proofs.FunctionsLemmas.{functions-closed}
use Rattle.psi_region.specs.Region.{Area, start, splits, settled, next, step, IsArea}
use Rattle.psi_region.specs.Followed.{Followed, follow_areas, states_of}
use Rattle.psi_region.proofs.FollowedLemmas.{follow_areas-append}
use Rattle.psi_region.proofs.RegionLemmas.{start-area, step-area, image-length, rested}
use Rattle.psi_horizon.specs.Runs.{follow}
use Rattle.psi_horizon.specs.Planned.{network_of}
use Rattle.psi_horizon.specs.Inner.PlanKept.{IsRun}
use Rattle.psi_rate.specs.Numbers.{numbers_below}
use Rattle.psi_rate.specs.Keeping.{KeepsNumbers}
use Rattle.psi_rate.specs.declared.numbers.EventNumbers.{EventNumbers}
use Rattle.psi_rate.proofs.NumbersLemmas.{numbers-all, numbers-next, keeps-fewer}

-- an unsplit region is its own hull
abbrev IsOwnHull : Area → Type 0
IsOwnHull a = a.is_split ≡ false → hull a.states ≡ a.states

start-own : (caps : List ℕ) → IsOwnHull (start caps)
start-own caps unsplit = hull-box (zeros caps) caps (zeros-below caps caps refl)

next-own : (caps : List ℕ) (f : Function) (b : Bool) (a : Area) → IsClosed caps f → IsArea caps a → IsOwnHull (next b f a.states)
unfolding hull
next-own caps f true a closed is unsplit = absurd (true≢false unsplit)
next-own caps f false a closed is unsplit =
    let xs = image f a.states in
    let member = In-image f is.some.0 a.states is.some.1 in
    let between = (corners-tight (length caps) (f is.some.0) xs (image-length caps f a.states closed is.within) member).inside (f is.some.0) member in
    hull-box (lows xs) (highs xs) (below-through (lows xs) (f is.some.0) (highs xs) between.low between.high)

step-own : (split : ℕ) (caps : List ℕ) (f : Function) (a : Area) → IsClosed caps f → IsArea caps a → IsOwnHull (step split f a)
unfolding step
step-own split caps f a closed is = next-own caps f (splits split a) a closed is

-- what settled once is settled
or-again : (x y : Bool) → ((x || y) || y) ≡ (x || y)
or-again true y = refl
or-again false true = refl
or-again false false = refl

step-settled : (split : ℕ) (f : Function) (a : Area) → step split f (settled split a) ≡ step split f a
unfolding step
step-settled split f a = ap (λ s. next s f a.states) (or-again a.is_split (nat_le (length a.states) split))

follow-settled : (split : ℕ) (f : ℕ → Function) (t : ℕ) (a : Area) → (follow split f t (settled split a)).states ≡ (follow split f t a).states
follow-settled split f zero a = refl
follow-settled split f (suc t) a = ap (λ (b : Area). (follow split f t b).states) (step-settled split (f (suc t)) a)

-- so the run over the numbers ends with the states of the run over all places
numbers-follow : (split : ℕ) (caps : List ℕ) (functions : List Function) (rates : List ℕ) (words : ℕ → ℕ) (t : ℕ) (a : Area) → length rates ≡ length functions
    → AreClosed caps (function_at functions rates words) → IsArea caps a → IsOwnHull a
    → (follow split (function_at functions rates words) t a).states ≡ (follow_areas split functions (numbers_below rates words t) a).states
numbers-follow split caps functions rates words zero a same closed is own = refl
numbers-follow split caps functions rates words (suc t) a same closed is own =
    let f = function_at functions rates words in
    let before = numbers_below rates words t in
    elim (numbers-next functions rates words t same) [
      | inl taken ↦
          (let keeps = closed.each (suc t) in
          numbers-follow split caps functions rates words t (step split (f (suc t)) a) same closed (step-area split caps (f (suc t)) a keeps is)
          (step-own split caps (f (suc t)) a keeps is)
          ∙ ap (λ (g : Function). (follow_areas split functions before (step split g a)).states) taken.1
          ∙ ap (λ (b : Area). b.states) (sym (follow_areas-append split functions before (event_of rates (words t) ∷ []) a))
          ∙ ap (λ (ns : List ℕ). (follow_areas split functions ns a).states) (sym taken.0))
      | inr idle ↦ ap (λ (g : Function). (follow split f t (step split g a)).states) idle.1
          ∙ ap (λ (b : Area). (follow split f t b).states) (rested split a is.rising own)
          ∙ follow-settled split f t a
          ∙ numbers-follow split caps functions rates words t a same closed is own
          ∙ ap (λ (ns : List ℕ). (follow_areas split functions ns a).states) (sym idle.0)
    ]

-- numbers that are kept are so by the same rates and words, and those of fewer places
pub keeps-as : {rates own : List ℕ} {words drawn : ℕ → ℕ} {most few : ℕ} {numbers : EventNumbers} → KeepsNumbers own words most numbers → few ≤ most → rates ≡ own → drawn ≡ words
    → KeepsNumbers rates drawn few numbers
keeps-as {rates} {own} {words} {drawn} {most} {few} {numbers} keeps less same_rates same_words =
    subst (λ (rs : List ℕ). KeepsNumbers rs drawn few numbers) (sym same_rates)
    (subst (λ (ws : ℕ → ℕ). KeepsNumbers own ws few numbers) (sym same_words) (keeps-fewer own words most few numbers keeps less))

-- the numbers of the run of a horizon of a network
pub is-run : {E : Type 0} {rates : List ℕ} (capacities : E → List ℕ) (function : E → Function) (system : SystemParts E) (words : ℕ → ℕ) (t : ℕ) (numbers : List ℕ) (network : Followed)
    → ((event : E) → IsClosed (capacities event) (function event)) → IsSystem capacities system → network ≡ network_of function system → numbers ≡ numbers_below rates words t
    → rates ≡ system.rates → IsRun function system words t network numbers
is-run capacities function system words t numbers network closed fit stands are same_rates =
    let numbers_are : numbers ≡ numbers_below system.rates words t = are ∙ ap (λ (rs : List ℕ). numbers_below rs words t) same_rates in
    let functions = map function system.events in
    let count : length system.rates ≡ length functions = fit.same_count ∙ sym (length-map system.events function) in
    record {
      events = subst (λ (ns : List ℕ). AreEvents (length network.functions) ns) (sym numbers_are) (subst (λ n. AreEvents n (numbers_below system.rates words t))
          (count ∙ sym (ap (λ (n : Followed). length n.functions) stands)) (record { each = λ i small. numbers-all system.rates words t i 0 small }));
      states = ap (λ (n : Followed). states_of n numbers) stands
          ∙ ap (λ (ns : List ℕ). (follow_areas system.split functions ns (start system.caps)).states) numbers_are
          ∙ sym (numbers-follow system.split system.caps functions system.rates words t (start system.caps) count
          (functions-closed capacities function system words closed fit.same_caps) (start-area system.caps) (start-own system.caps));
    }
