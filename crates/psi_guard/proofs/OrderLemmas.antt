-- When an event by queues keeps the order of states.
use Rattle.std.specs.Prelude.{◌≡◌, ℕ, ◌+◌, ◌-◌, ◌<◌, ◌≤◌, List, length, slice_index, refl}
use Rattle.std.proofs.Common.{inl, inr, ap, sym, ◌∙◌, subst, arith, rules}
use Rattle.std.proofs.lemmas.Bool.{cases_lt, cases_eq}
use Rattle.psi_state.specs.State.{IsBelow}
use Rattle.psi_state.proofs.BoxesLemmas.{below-through}
use Rattle.psi_event.specs.Law.{IsMonotone, IsUpset}
use Rattle.psi_guard.specs.declared.parts.Part.{Part}
use Rattle.psi_guard.specs.Guarding.{guarded}
use Rattle.psi_guard.specs.Refusals.{AreGuards}
use Rattle.psi_guard.specs.Rule.{Rule, IsRule, rule, AllowsAll, RefusesSome, Makes}
use Rattle.psi_guard.specs.Inner.RuleLaws.{is_rule, makes}

-- f is what the rule makes of the states of these capacities
pub record IsRuleOf (r : Rule) (caps : List ℕ) (f : List ℕ → List ℕ) : Type 0 where
  pub lawful : IsRule r
  pub queues : r.queues ≡ length caps
  pub cap : (p : ℕ) → r.cap p ≡ slice_index caps p
  pub makes : (x : List ℕ) → IsBelow x caps → Makes r x (f x)

pub is_rule_of : (caps : List ℕ) (parts : List Part) → AreGuards caps parts → IsRuleOf (rule caps parts) caps (guarded parts)
is_rule_of caps parts guards = record {
  lawful = is_rule caps parts guards;
  queues = refl;
  cap = λ p. refl;
  makes = λ x below. makes caps parts x guards below;
}

pub rises_to : (r : Rule) (p v w : ℕ) → IsRule r → p < r.queues → v ≤ w → r.moves p v ≤ r.moves p w
rises_to r p v w lawful place small =
    let e : v + (w - v) ≡ w = omega arith in
    subst (λ u. r.moves p v ≤ r.moves p u) e (lawful.rises p v (w - v) place)

pub slow_to : (r : Rule) (p v w : ℕ) → IsRule r → p < r.queues → v ≤ w → r.moves p w ≤ r.moves p v + (w - v)
slow_to r p v w lawful place small =
    let e : v + (w - v) ≡ w = omega arith in
    subst (λ u. r.moves p u ≤ r.moves p v + (w - v)) e (lawful.slow p v (w - v) place)

-- none of the four tests succeeds
pub record PassesNone (r : Rule) : Type 0 where
  pub own_above : (p : ℕ) → p < r.queues → r.most p < r.cap p → r.most p + 1 < r.moves p (r.most p) → ⊥
  pub other_above : (p q : ℕ) → p < r.queues → q < r.queues → (p ≡ q → ⊥) → r.most p < r.cap p → r.least q < r.moves q (r.least q) → ⊥
  pub own_below : (p : ℕ) → p < r.queues → 0 < r.least p → r.moves p (r.least p) < r.least p - 1 → ⊥
  pub other_below : (p q : ℕ) → p < r.queues → q < r.queues → (p ≡ q → ⊥) → 0 < r.least p → r.moves q (r.most q) < r.most q → ⊥

-- the larger state is refused, so it is above the guard of some queue
only_lower : (r : Rule) (caps : List ℕ) (x y : List ℕ) (q : ℕ) → IsRule r → PassesNone r → (r.queues ≡ length caps) → ((p : ℕ) → r.cap p ≡ slice_index caps p)
    → IsBelow y caps → IsBelow x y → AllowsAll r x → RefusesSome r y → q < r.queues → r.moves q (slice_index x q) ≤ slice_index y q
only_lower r caps x y q lawful none queues cap within below allowed refused place =
    let p = refused.queue in
    let here : p < length x = omega (arith, refused.place, queues, within.same_length, below.same_length) in
    let there : q < length x = omega (arith, place, queues, within.same_length, below.same_length) in
    let over : r.most p < slice_index y p = elim refused.out [
      | inl low ↦ (let up : slice_index x p ≤ slice_index y p = below.each p here in
          let least : r.least p ≤ slice_index x p = allowed.low p refused.place in omega arith)
      | inr high ↦ high
    ] in
    let most : slice_index y p ≤ slice_index caps p = within.each p (omega (arith, here, below.same_length)) in
    let room : r.most p < r.cap p = omega (arith, over, most, cap p) in
    let step : slice_index x q ≤ slice_index y q = below.each q there in
    elim (cases_eq p q) [
      | inl same ↦ (let high : r.most q < slice_index y q = subst (λ i. r.most i < slice_index y i) same over in
          let own : r.most q < r.cap q = subst (λ i. r.most i < r.cap i) same room in
          let up : r.moves q (slice_index x q) ≤ r.moves q (r.most q) = rises_to r q (slice_index x q) (r.most q) lawful place (allowed.high q place) in
          elim (cases_lt (r.most q + 1) (r.moves q (r.most q))) [
            | inl own_above ↦ absurd (none.own_above q place own own_above)
            | inr stays ↦ omega arith
          ])
      | inr other ↦ (let slow : r.moves q (slice_index x q) ≤ r.moves q (r.least q) + (slice_index x q - r.least q) =
          slow_to r q (r.least q) (slice_index x q) lawful place (allowed.low q place) in
          let least : r.least q ≤ slice_index x q = allowed.low q place in
          elim (cases_lt (r.least q) (r.moves q (r.least q))) [
            | inl up ↦ absurd (none.other_above p q refused.place place other room up)
            | inr stays ↦ omega arith
          ])
    ]

-- the smaller state is refused, so it is below the guard of some queue
only_upper : (r : Rule) (caps : List ℕ) (x y : List ℕ) (q : ℕ) → IsRule r → PassesNone r → (r.queues ≡ length caps)
    → IsBelow y caps → IsBelow x y → RefusesSome r x → AllowsAll r y → q < r.queues → slice_index x q ≤ r.moves q (slice_index y q)
only_upper r caps x y q lawful none queues within below refused allowed place =
    let p = refused.queue in
    let here : p < length x = omega (arith, refused.place, queues, within.same_length, below.same_length) in
    let there : q < length x = omega (arith, place, queues, within.same_length, below.same_length) in
    let under : slice_index x p < r.least p = elim refused.out [
      | inl low ↦ low
      | inr high ↦ (let up : slice_index x p ≤ slice_index y p = below.each p here in
          let most : slice_index y p ≤ r.most p = allowed.high p refused.place in omega arith)
    ] in
    let some : 0 < r.least p = omega (arith, under) in
    let step : slice_index x q ≤ slice_index y q = below.each q there in
    elim (cases_eq p q) [
      | inl same ↦ (let low : slice_index x q < r.least q = subst (λ i. slice_index x i < r.least i) same under in
          let own : 0 < r.least q = subst (λ i. 0 < r.least i) same some in
          let up : r.moves q (r.least q) ≤ r.moves q (slice_index y q) = rises_to r q (r.least q) (slice_index y q) lawful place (allowed.low q place) in
          elim (cases_lt (r.moves q (r.least q)) (r.least q - 1)) [
            | inl own_below ↦ absurd (none.own_below q place own own_below)
            | inr stays ↦ omega arith
          ])
      | inr other ↦ (let slow : r.moves q (r.most q) ≤ r.moves q (slice_index y q) + (r.most q - slice_index y q) =
          slow_to r q (slice_index y q) (r.most q) lawful place (allowed.high q place) in
          let most : slice_index y q ≤ r.most q = allowed.high q place in
          elim (cases_lt (r.moves q (r.most q)) (r.most q)) [
            | inl down ↦ absurd (none.other_below p q refused.place place other some down)
            | inr stays ↦ omega arith
          ])
    ]

pub monotone_without : (r : Rule) (caps : List ℕ) (f : List ℕ → List ℕ) → IsRuleOf r caps f → PassesNone r → IsMonotone caps f
monotone_without r caps f is none = record {
  each = λ x y within below.
      (let small = below-through x y caps below within in
      let first = is.makes x small in
      let second = is.makes y within in
      record {
        same_length = first.long ∙ sym second.long;
        each = λ q inside. (let place : q < r.queues = omega (arith, inside, first.long) in
            let there : q < length x = omega (arith, place, is.queues, small.same_length) in
            let step : slice_index x q ≤ slice_index y q = below.each q there in
            elim first.turn [
              | inl a ↦ elim second.turn [
                | inl b ↦ omega (arith, a.1 q place, b.1 q place, rises_to r q (slice_index x q) (slice_index y q) is.lawful place step)
                | inr b ↦ omega (arith, a.1 q place, b.1 q place, only_lower r caps x y q is.lawful none is.queues is.cap within below a.0 b.0 place)
              ]
              | inr a ↦ elim second.turn [
                | inl b ↦ omega (arith, a.1 q place, b.1 q place, only_upper r caps x y q is.lawful none is.queues within below a.0 b.0 place)
                | inr b ↦ omega (arith, a.1 q place, b.1 q place)
              ]
            ]);
      });
}

-- no state is both within all guards and outside one
pub allows-apart : (r : Rule) (x : List ℕ) → AllowsAll r x → RefusesSome r x → ⊥
allows-apart r x allowed refused = search rules

-- a state whose numbers are all within the guards goes where its queues move, and one with a number outside stays
pub allowed_moves : (r : Rule) (x y : List ℕ) (q : ℕ) → Makes r x y → AllowsAll r x → q < r.queues → slice_index y q ≡ r.moves q (slice_index x q)
allowed_moves r x y q made allowed place = elim made.turn [ inl a ↦ a.1 q place | inr b ↦ absurd (allows-apart r x allowed b.0) ]

pub refused_stays : (r : Rule) (x y : List ℕ) (q : ℕ) → Makes r x y → RefusesSome r x → q < r.queues → slice_index y q ≡ slice_index x q
refused_stays r x y q made refused place = elim made.turn [ inl a ↦ absurd (allows-apart r x a.0 refused) | inr b ↦ b.1 q place ]

-- two states, one allowed and one refused, that come in the wrong order at queue q
pub upset_up : (r : Rule) (caps : List ℕ) (f : List ℕ → List ℕ) (x y : List ℕ) (q u v : ℕ) → IsRuleOf r caps f → IsBelow y caps → IsBelow x y → q < r.queues
    → AllowsAll r x → RefusesSome r y → slice_index x q ≡ u → slice_index y q ≡ v → v < r.moves q u → IsUpset caps f x y
upset_up r caps f x y q u v is within below place allowed refused first_at second_at less = record {
  within = within;
  ordered = below;
  upset = λ kept. (let first = is.makes x (below-through x y caps below within) in
      let moved : slice_index (f x) q ≡ r.moves q u = allowed_moves r x (f x) q first allowed place ∙ ap (λ n. r.moves q n) first_at in
      let stays : slice_index (f y) q ≡ v = refused_stays r y (f y) q (is.makes y within) refused place ∙ second_at in
      let step : slice_index (f x) q ≤ slice_index (f y) q = kept.each q (omega (arith, first.long)) in omega arith);
}

pub upset_down : (r : Rule) (caps : List ℕ) (f : List ℕ → List ℕ) (x y : List ℕ) (q u v : ℕ) → IsRuleOf r caps f → IsBelow y caps → IsBelow x y → q < r.queues
    → RefusesSome r x → AllowsAll r y → slice_index x q ≡ u → slice_index y q ≡ v → r.moves q v < u → IsUpset caps f x y
upset_down r caps f x y q u v is within below place refused allowed first_at second_at less = record {
  within = within;
  ordered = below;
  upset = λ kept. (let first = is.makes x (below-through x y caps below within) in
      let stays : slice_index (f x) q ≡ u = refused_stays r x (f x) q first refused place ∙ first_at in
      let moved : slice_index (f y) q ≡ r.moves q v = allowed_moves r y (f y) q (is.makes y within) allowed place ∙ ap (λ n. r.moves q n) second_at in
      let step : slice_index (f x) q ≤ slice_index (f y) q = kept.each q (omega (arith, first.long)) in omega arith);
}
