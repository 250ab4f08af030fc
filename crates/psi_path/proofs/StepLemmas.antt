-- The event that a word picks, and the state that it leads to.
use Rattle.std.specs.Prelude.{◌≡◌, ℕ, suc, ◌+◌, ◌<◌, ◌≤◌, List, length, map, slice_index, slice_get, Bool, true, not, nat_eq, Option, Some}
use Rattle.std.specs.Option.{option_map, unwrap_or}
use Rattle.std.specs.Cmp.Lexicographic.{pointwise}
use Rattle.std.proofs.Common.{ap, sym, ◌∙◌, subst, arith}
use Rattle.std.proofs.lemmas.List.{length-map, get_or_past}
use Rattle.std.proofs.lemmas.Option.{slice_get-map, unwrap_or-slice_get, slice_get_within, get_or_from_slice_get}
use Rattle.psi_state.specs.State.{IsBelow, AreCapacities}
use Rattle.psi_state.proofs.StatesLemmas.{same-from_eq}
use Rattle.psi_rate.specs.Rates.{event_of}
use Rattle.psi_rate.specs.Composition.{SystemParts, picked}
use Rattle.psi_rate.specs.System.{IsSystem}
use Rattle.psi_path.specs.Path.{Path, first_place, path_of, state_of, event_after, is_changed}
use Rattle.psi_path.proofs.StandLemmas.{state-next, event-next}

-- a word that picks no event
module _ {E : Type 0} (function : E → List ℕ → List ℕ) (system : SystemParts E) (word : ℕ) (none : event_of system.rates word ≡ length system.events) where
  -- it changes nothing
  idle-function : picked (map function system.events) system.rates word ≡ (λ x. x)
  idle-function =
      let long = length-map system.events function in
      get_or_past (map function system.events) (event_of system.rates word) (λ x. x) (omega arith)

  -- at the time after k, whose word it is
  pub idle-next : (words : ℕ → ℕ) (start : List ℕ) (k : ℕ) → words (first_place + k) ≡ word → (state : List ℕ) → state ≡ state_of (path_of function system words start) k
      → state ≡ state_of (path_of function system words start) (suc k)
  idle-next words start k at state was =
      was
      ∙ sym (ap (λ (f : List ℕ → List ℕ). f (state_of (path_of function system words start) k)) idle-function)
      ∙ sym (state-next (path_of function system words start) k word at)

pub idle-chosen : {E : Type 0} (capacities : E → List ℕ) (function : E → List ℕ → List ℕ) (system : SystemParts E) → IsSystem capacities system → (word : ℕ) → event_of system.rates word ≡ length system.events
    → (words : ℕ → ℕ) (start : List ℕ) (k : ℕ) → words (first_place + k) ≡ word → event_after (path_of function system words start) (suc k) ≡ length system.rates
idle-chosen capacities function system fit word none words start k at = event-next (path_of function system words start) k word at ∙ none ∙ sym fit.same_count

-- a word that picks an event, by the event's number
module _ {E : Type 0} (capacities : E → List ℕ) (function : E → List ℕ → List ℕ) (system : SystemParts E) (fit : IsSystem capacities system) (word n : ℕ) (e : E)
    (number : n ≡ event_of system.rates word) (is : Some e ≡ slice_get system.events (event_of system.rates word)) where
  pub picked-small : n < length system.rates
  picked-small =
      let within = slice_get_within system.events (event_of system.rates word) e (sym is) in
      let count = fit.same_count in omega arith

  -- the event has the capacities of its network
  pub picked-caps : capacities e ≡ system.caps
  picked-caps =
      let k = event_of system.rates word in
      ap (λ event. capacities event) (sym (get_or_from_slice_get system.events k e e (sym is))) ∙ fit.same_caps k e (slice_get_within system.events k e (sym is))

  pub picked-below : (x : List ℕ) → IsBelow x (capacities e) → IsBelow x system.caps
  picked-below x below = subst (λ (xs : List ℕ). IsBelow x xs) picked-caps below

  picked-function : picked (map function system.events) system.rates word ≡ function e
  picked-function =
      sym (unwrap_or-slice_get (map function system.events) (event_of system.rates word) (λ x. x))
      ∙ (ap (λ p. unwrap_or p (λ (x : List ℕ). x)) (slice_get-map function system.events (event_of system.rates word))
      ∙ ap (λ (p : Option E). unwrap_or (option_map function p) (λ x. x)) (sym is))

  -- at the time after k, whose word it is
  module _ (words : ℕ → ℕ) (start : List ℕ) (k : ℕ) (at : words (first_place + k) ≡ word) where
    pub picked-chosen : event_after (path_of function system words start) (suc k) ≡ n
    picked-chosen = event-next (path_of function system words start) k word at ∙ sym number

    pub picked-next : (before next : List ℕ) → before ≡ state_of (path_of function system words start) k → next ≡ function e before → next ≡ state_of (path_of function system words start) (suc k)
    picked-next before next was made =
        made
        ∙ ap (λ (x : List ℕ). function e x) was
        ∙ sym (ap (λ (f : List ℕ → List ℕ). f (state_of (path_of function system words start) k)) picked-function)
        ∙ sym (state-next (path_of function system words start) k word at)

-- a number of customers is at most 65,535
pub few-customers : (caps x : List ℕ) → AreCapacities caps → IsBelow x caps → (q : ℕ) → q < length caps → slice_index x q ≤ 65535
few-customers caps x valid below q small =
    let long = below.same_length in
    let within = below.each q (omega arith) in
    let most = valid.most q small in omega arith

-- whether the state changes
module _ (path : Path) (k : ℕ) (before next : List ℕ) (was : before ≡ state_of path k) (is : next ≡ state_of path (suc k)) where
  pub changed-is : (b : Bool) → b ≡ pointwise nat_eq next before → is_changed path (suc k) ≡ not b
  changed-is b same =
      sym (ap (λ (x : List ℕ). not (pointwise nat_eq x (state_of path k))) is)
      ∙ (sym (ap (λ (x : List ℕ). not (pointwise nat_eq next x)) was) ∙ ap not (sym same))

  pub same-next : (b : Bool) → b ≡ pointwise nat_eq next before → b ≡ true → before ≡ state_of path (suc k)
  same-next b same so = sym (same-from_eq next before (sym same ∙ so)) ∙ is
