-- Summation by parts (Abel 1826): the values of a quantity along a path, summed by its changes.
use Rattle.std.specs.Prelude.{◌≡◌, ℕ, zero, suc, ◌+◌, ◌-◌, ◌<◌, ◌≤◌, ℤ, pos, ◌+ℤ◌, ◌*ℤ◌, List, length, slice_index_or, Bool, true, false, ◌&&◌, not, nat_eq, if◌then◌else◌, refl}
use Rattle.std.specs.Cmp.Lexicographic.{pointwise}
use Rattle.std.proofs.Common.{inl, inr, ap, ap₂, sym, ◌∙◌, subst, arith}
use Rattle.std.proofs.lemmas.Bool.{cases_Bool, cases_lt, eq-eqb}
use Rattle.std.proofs.lemmas.List.{get_or_past}
use Rattle.psi_state.specs.State.{IsBelow}
use Rattle.psi_state.proofs.StatesLemmas.{same-from_eq, apart-from_eq}
use Rattle.psi_event.specs.Law.{Function, IsClosed}
use Rattle.psi_path.specs.Path.{Path, state_of, event_after, is_changed}
use Rattle.psi_path.specs.Sums.{Worth, worth_until}
use Rattle.psi_path.proofs.StandLemmas.{apart-nat_eq}
use Rattle.psi_path_packed.specs.Rises.{AreRises, times_until, sum_below}
use Rattle.psi_path_packed.proofs.IntegerLemmas.{times-plus, times-suc, more-times, none-times, plus-none, plain-begun, plain-step, plain-stay}
use Rattle.psi_path_packed.proofs.SumLemmas.{below-same, below-more, below-none}

-- the function of a number; idle has none in the list
abbrev pub function_of : List Function → ℕ → Function
function_of functions e = slice_index_or functions e (λ y. y)

not-true : (b : Bool) → not b ≡ true → b ≡ false
not-true true so = sym so
not-true false so = refl

not-false : (b : Bool) → not b ≡ false → b ≡ true
not-false true so = refl
not-false false so = sym so

module _ (path : Path) (k : ℕ) where
  -- a state that isn't the same is changed
  pub changed-apart : is_changed path (suc k) ≡ true → state_of path (suc k) ≡ state_of path k → ⊥
  changed-apart so = apart-from_eq (state_of path (suc k)) (state_of path k) (not-true (pointwise nat_eq (state_of path (suc k)) (state_of path k)) so)

  -- and one that isn't changed is the same
  pub unchanged-same : is_changed path (suc k) ≡ false → state_of path (suc k) ≡ state_of path k
  unchanged-same still = same-from_eq (state_of path (suc k)) (state_of path k) (not-false (pointwise nat_eq (state_of path (suc k)) (state_of path k)) still)

-- how the times of changes go on
module _ (path : Path) (steps k : ℕ) where
  abbrev adds : ℕ → Bool
  adds e = nat_eq (event_after path (suc k)) e && is_changed path (suc k)

  times-by : (e : ℕ) (b : Bool) → adds e ≡ b → times_until path steps e (suc k) ≡ times_until path steps e k + (if b then steps - k else 0)
  times-by e b is = ap (λ c. times_until path steps e k + (if c then steps - k else 0)) is

  pub times-stay : (e : ℕ) → adds e ≡ false → times_until path steps e (suc k) ≡ times_until path steps e k
  times-stay e is = times-by e false is ∙ omega arith

  pub times-rise : (e : ℕ) → adds e ≡ true → times_until path steps e (suc k) ≡ times_until path steps e k + (steps - k)
  times-rise e is = times-by e true is

  adds-changed : (e : ℕ) (b : Bool) → event_after path (suc k) ≡ e → is_changed path (suc k) ≡ b → adds e ≡ b
  adds-changed e b is changed = ap₂ ◌&&◌ (eq-eqb (event_after path (suc k)) e is) changed

  adds-unchanged : (e : ℕ) → is_changed path (suc k) ≡ false → adds e ≡ false
  adds-unchanged e still = elim (cases_Bool (nat_eq (event_after path (suc k)) e)) [
    | inl so ↦ ap₂ ◌&&◌ so still
    | inr not_so ↦ ap (λ b. b && is_changed path (suc k)) not_so
  ]

  adds-other : (n e : ℕ) → event_after path (suc k) ≡ n → (n ≡ e → ⊥) → adds e ≡ false
  adds-other n e is apart = ap (λ b. b && is_changed path (suc k)) (ap (λ m. nat_eq m e) is ∙ apart-nat_eq n e apart)

module _ (caps : List ℕ) (path : Path) (within : IsBelow path.start caps)
    (closed : (e : ℕ) → e < length path.functions → IsClosed caps (function_of path.functions e)) where
  -- the states of the path are within the capacities
  pub path-below : (k : ℕ) → IsBelow (state_of path k) caps
  path-below zero = within
  path-below (suc k) = elim (cases_lt (event_after path (suc k)) (length path.functions)) [
    | inl small ↦ (closed (event_after path (suc k)) small).each (state_of path k) (path-below k)
    | inr past ↦ subst (λ (f : Function). IsBelow (f (state_of path k)) caps) (sym (get_or_past path.functions (event_after path (suc k)) (λ y. y) past)) (path-below k)
  ]

  module _ (worth : Worth) (rise : ℕ → ℤ) (rises : AreRises caps path.functions worth rise) (steps : ℕ) where
    -- what the changes by an event come to
    abbrev pub share : ℕ → ℕ → ℤ
    share k e = pos (times_until path steps e k) *ℤ rise e

    -- the first value at all times, and what the changes come to
    abbrev parts : ℕ → ℤ
    parts k = (pos (steps + 1) *ℤ worth path.start) +ℤ sum_below (share k) (length path.functions)

    abbrev Stands : ℕ → Type 0
    Stands k = worth_until path worth k +ℤ (pos (steps - k) *ℤ worth (state_of path k)) ≡ parts k

    stands-begun : Stands zero
    stands-begun =
        let none : sum_below (share zero) (length path.functions) ≡ pos 0 = below-none (share zero) (length path.functions) (λ e. none-times (rise e)) in
        let e : steps - zero ≡ steps = omega arith in
        let more : steps + 1 ≡ suc steps = omega arith in
        let all : pos (steps + 1) *ℤ worth path.start ≡ (pos steps *ℤ worth path.start) +ℤ worth path.start = ap (λ n. pos n *ℤ worth path.start) more ∙ times-suc steps (worth path.start) in
        ap (λ n. worth path.start +ℤ (pos n *ℤ worth path.start)) e
        ∙ plain-begun (worth path.start) (pos steps *ℤ worth path.start) (pos (steps + 1) *ℤ worth path.start) (sum_below (share zero) (length path.functions)) all none

    stands-still : (k : ℕ) → k < steps → is_changed path (suc k) ≡ false → Stands k → Stands (suc k)
    stands-still k small still stands =
        let same : state_of path (suc k) ≡ state_of path k = unchanged-same path k still in
        let one : steps - k ≡ suc (steps - suc k) = omega arith in
        let now = worth (state_of path (suc k)) in
        let before : worth_until path worth k +ℤ (pos (steps - k) *ℤ now) ≡ parts k =
        ap (λ (x : List ℕ). worth_until path worth k +ℤ (pos (steps - k) *ℤ worth x)) same ∙ stands in
        let times : pos (steps - k) *ℤ now ≡ (pos (steps - suc k) *ℤ now) +ℤ now = ap (λ n. pos n *ℤ now) one ∙ times-suc (steps - suc k) now in
        let shares : sum_below (share (suc k)) (length path.functions) ≡ sum_below (share k) (length path.functions) =
        below-same (share k) (share (suc k)) (length path.functions) (λ e few. ap (λ n. pos n *ℤ rise e) (times-stay path steps k e (adds-unchanged path steps k e still))) in
        plain-stay (worth_until path worth k) (pos (steps + 1) *ℤ worth path.start) (sum_below (share k) (length path.functions)) now (pos (steps - suc k) *ℤ now) (pos (steps - k) *ℤ now) before times
        ∙ ap (λ z. (pos (steps + 1) *ℤ worth path.start) +ℤ z) (sym shares)

    -- an event that changes a state has a number
    event-small : (k : ℕ) → is_changed path (suc k) ≡ true → event_after path (suc k) < length path.functions
    event-small k so = elim (cases_lt (event_after path (suc k)) (length path.functions)) [
      | inl small ↦ small
      | inr past ↦ absurd (changed-apart path k so (ap (λ (f : Function). f (state_of path k)) (get_or_past path.functions (event_after path (suc k)) (λ y. y) past)))
    ]

    stands-changed : (k : ℕ) → k < steps → is_changed path (suc k) ≡ true → Stands k → Stands (suc k)
    stands-changed k small so stands =
        let e = event_after path (suc k) in
        let few = event-small k so in
        let old = worth (state_of path k) in
        let now = worth (state_of path (suc k)) in
        let first = pos (steps + 1) *ℤ worth path.start in
        let risen : now ≡ old +ℤ rise e = (rises e few).each (state_of path k) (path-below k) (changed-apart path k so) in
        let one : steps - k ≡ suc (steps - suc k) = omega arith in
        let apart : pos (steps - k) *ℤ now ≡ (pos (steps - k) *ℤ old) +ℤ (pos (steps - k) *ℤ rise e) = ap (λ z. pos (steps - k) *ℤ z) risen ∙ times-plus (steps - k) old (rise e) in
        let times : pos (steps - k) *ℤ now ≡ (pos (steps - suc k) *ℤ now) +ℤ now = ap (λ n. pos n *ℤ now) one ∙ times-suc (steps - suc k) now in
        let own : share (suc k) e ≡ share k e +ℤ (pos (steps - k) *ℤ rise e) =
        ap (λ n. pos n *ℤ rise e) (times-rise path steps k e (adds-changed path steps k e true refl so)) ∙ more-times (times_until path steps e k) (steps - k) (rise e) in
        let shares : sum_below (share (suc k)) (length path.functions) ≡ sum_below (share k) (length path.functions) +ℤ (pos (steps - k) *ℤ rise e) =
        below-more (share k) (share (suc k)) (length path.functions) e (pos (steps - k) *ℤ rise e) few own
        (λ i other. ap (λ n. pos n *ℤ rise i) (times-stay path steps k i (adds-other path steps k e i refl other))) in
        plain-step (worth_until path worth k) first (sum_below (share k) (length path.functions)) now (pos (steps - k) *ℤ old) (pos (steps - k) *ℤ rise e) (pos (steps - suc k) *ℤ now)
        (pos (steps - k) *ℤ now) stands apart times
        ∙ ap (λ z. first +ℤ z) (sym shares)

    stands-each : (k : ℕ) → k ≤ steps → Stands k
    stands-each zero small = stands-begun
    stands-each (suc k) small = elim (cases_Bool (is_changed path (suc k))) [
      | inl so ↦ stands-changed k (omega arith) so (stands-each k (omega arith))
      | inr still ↦ stands-still k (omega arith) still (stands-each k (omega arith))
    ]

    -- the values at all times
    pub abel : worth_until path worth steps ≡ parts steps
    abel =
        let none : steps - steps ≡ 0 = omega arith in
        sym (plus-none (worth_until path worth steps)) ∙ ap (λ z. worth_until path worth steps +ℤ z) (sym (ap (λ n. pos n *ℤ worth (state_of path steps)) none ∙ none-times (worth (state_of path steps))))
        ∙ stands-each steps (omega arith)
