-- Where a route keeps the order of states: for size 1, exactly where no keys cross.
use Rattle.std.specs.Prelude.{◌≡◌, ◌≢◌, ◌⊎◌, ℕ, zero, suc, ◌+◌, ◌-◌, ◌<◌, ◌≤◌, List, length, slice_index}
use Rattle.std.proofs.Common.{inl, inr, ap, sym, ◌∙◌, subst, arith, rules}
use Rattle.std.proofs.lemmas.Bool.{cases_lt, cases_eq, cases_order}
use Rattle.psi_state.specs.State.{IsBelow}
use Rattle.psi_event.proofs.ChoiceLemmas.{all_or_some}
use Rattle.psi_route.specs.Routing.{Routing, act, IsRouting, IsBest, IsPassed, Leaves, Routed, Crosses}
use Rattle.psi_route.proofs.ActingLemmas.{act-routed, best_or_passed, leaves_or_remains}

-- a key that goes from above c to below it takes a step over it; no key of this function is c
pub step_past : (k : ℕ → ℕ) (c v d : ℕ) → ((u : ℕ) → k u ≢ c) → c < k v → k (v + d) < c
    → (u : ℕ) × (v ≤ u) × (u < v + d) × (c < k u) × (k (u + 1) < c)
step_past k c v zero never above below =
    absurd (let e : v + 0 ≡ v = omega arith in let same : k v < c = subst (λ u. k u < c) e below in omega arith)
step_past k c v (suc d) never above below =
    elim (cases_order (k (v + 1)) c) [
      | inl e ↦ absurd (never (v + 1) e)
      | inr rest ↦ elim rest [
        | inl less ↦ (v, omega arith, omega arith, above, less)
        | inr more ↦ (let e : v + suc d ≡ v + 1 + d = omega arith in
            let found = step_past k c (v + 1) d never more (subst (λ u. k u < c) e below) in
            let low : v + 1 ≤ found.0 = found.1 in
            let high : found.0 < v + 1 + d = found.2 in
            (found.0, omega arith, omega arith, found.3, found.4))
      ]
    ]

-- a place that is chosen in a state stays chosen where other queues hold more
chosen_still : (r : Routing) (x y : List ℕ) (j : ℕ) → IsRouting r → r.size ≡ 1 → ((a b v w : ℕ) → Crosses r a b v w → ⊥)
    → ((i : ℕ) → i < r.places → slice_index x (r.queue i) ≤ slice_index y (r.queue i))
    → slice_index x (r.queue j) ≡ slice_index y (r.queue j) → IsBest r x j → IsPassed r y j → ⊥
chosen_still r x y j is one clear below same chosen passed =
    elim passed [
      | inl lacks ↦ absurd (let room = chosen.room in omega (arith, lacks, room, same))
      | inr found ↦ absurd (
          let i = found.0 in
          let place : found.0 < r.places = found.1 in
          let more : slice_index x (r.queue found.0) ≤ slice_index y (r.queue found.0) = below found.0 place in
          let room : slice_index y (r.queue found.0) + r.size ≤ r.cap (r.queue found.0) = found.3 in
          let own : slice_index x (r.queue j) + r.size ≤ r.cap (r.queue j) = chosen.room in
          let less : r.key found.0 (slice_index y (r.queue found.0)) < r.key j (slice_index x (r.queue j)) =
          subst (λ v. r.key found.0 (slice_index y (r.queue found.0)) < r.key j v) (sym same) found.4 in
          elim (chosen.others found.0 place found.2) [
            | inl lacks ↦ absurd (omega (arith, lacks))
            | inr above ↦
                (let d = slice_index y (r.queue found.0) - slice_index x (r.queue found.0) in
                let e : slice_index y (r.queue found.0) ≡ slice_index x (r.queue found.0) + (slice_index y (r.queue found.0) - slice_index x (r.queue found.0)) = omega arith in
                let step = step_past (r.key found.0) (r.key j (slice_index x (r.queue j))) (slice_index x (r.queue found.0))
                (slice_index y (r.queue found.0) - slice_index x (r.queue found.0))
                (λ u. is.differ found.0 j u (slice_index x (r.queue j)) place chosen.place found.2) above
                (subst (λ v. r.key found.0 v < r.key j (slice_index x (r.queue j))) e less) in
                let last : step.0 < slice_index x (r.queue found.0) + (slice_index y (r.queue found.0) - slice_index x (r.queue found.0)) = step.2 in
                clear found.0 j step.0 (slice_index x (r.queue j)) (record {
                  first = place;
                  second = chosen.place;
                  two = found.2;
                  room = omega arith;
                  room_b = omega arith;
                  falls = step.4;
                  above = step.3;
                }))
          ])
    ]

-- ---- each queue by itself

-- a target loses nobody
target-up : (r : Routing) (y z : List ℕ) (i : ℕ) → IsRouting r → Routed r y z → i < r.places → slice_index y (r.queue i) ≤ slice_index z (r.queue i)
target-up r y z i is made place = search (rules, cases_lt, best_or_passed)

-- a source that serves in a state serves where it holds more
pub serves-up : (r : Routing) (x y : List ℕ) → IsRouting r → length x ≡ r.queues → IsBelow x y → r.least ≤ slice_index x r.source → r.least ≤ slice_index y r.source
serves-up r x y is count below serves = search rules

target-below : (r : Routing) (x y u w : List ℕ) (i : ℕ) → IsRouting r → r.size ≡ 1 → ((a b v t : ℕ) → Crosses r a b v t → ⊥)
    → length x ≡ r.queues → IsBelow x y → Routed r x u → Routed r y w → i < r.places → slice_index u (r.queue i) ≤ slice_index w (r.queue i)
target-below r x y u w i is one clear count below first second place =
    let queue : r.queue i < length x = (let small = is.is_queue i place in omega (arith, small, count)) in
    let old : slice_index x (r.queue i) ≤ slice_index y (r.queue i) = below.each (r.queue i) queue in
    let up : slice_index y (r.queue i) ≤ slice_index w (r.queue i) = target-up r y w i is second place in
    elim (cases_lt (slice_index x r.source) r.least) [
      | inl idle ↦ (let same : slice_index u (r.queue i) ≡ slice_index x (r.queue i) = ap (λ (z : List ℕ). slice_index z (r.queue i)) (first.idle idle) in omega arith)
      | inr serves ↦ elim (best_or_passed r x i is place) [
        | inr passed ↦ (let same : slice_index u (r.queue i) ≡ slice_index x (r.queue i) = first.stays i place passed in omega arith)
        | inl chosen ↦
            (let more : slice_index u (r.queue i) ≡ slice_index x (r.queue i) + r.size = first.gains i serves chosen in
            elim (cases_lt (slice_index x (r.queue i)) (slice_index y (r.queue i))) [
              | inl less ↦ omega arith
              | inr equal ↦ (let same : slice_index x (r.queue i) ≡ slice_index y (r.queue i) = omega arith in
                  elim (best_or_passed r y i is place) [
                    | inl again ↦ (let gained : slice_index w (r.queue i) ≡ slice_index y (r.queue i) + r.size = second.gains i (serves-up r x y is count below serves) again in omega arith)
                    | inr passed ↦ absurd (chosen_still r x y i is one clear
                        (λ k small. below.each (r.queue k) (let within = is.is_queue k small in omega (arith, within, count))) same chosen passed)
                  ])
            ])
      ]
    ]

-- a source keeps what it holds, or loses one
source-turn : (r : Routing) (x u : List ℕ) → IsRouting r → r.source < r.queues → Routed r x u
    → (slice_index u r.source ≡ slice_index x r.source) ⊎ (slice_index u r.source + 1 ≡ slice_index x r.source)
source-turn r x u is small made =
    elim (cases_lt (slice_index x r.source) r.least) [
      | inl idle ↦ inl (ap (λ (z : List ℕ). slice_index z r.source) (made.idle idle))
      | inr serves ↦ elim (leaves_or_remains r x) [
        | inl leaves ↦ inr (made.takes small serves leaves)
        | inr remains ↦ inl (made.keeps remains)
      ]
    ]

-- where one leaves, one leaves too where the targets hold less
leaves-down : (r : Routing) (x y : List ℕ) → ((i : ℕ) → i < r.places → slice_index x (r.queue i) ≤ slice_index y (r.queue i)) → Leaves r y → Leaves r x
leaves-down r x y below leaves = search rules

-- this holds of every size
pub source-below : (r : Routing) (x y u w : List ℕ) → IsRouting r → length x ≡ r.queues → IsBelow x y → Routed r x u → Routed r y w
    → r.source < r.queues → slice_index u r.source ≤ slice_index w r.source
source-below r x y u w is count below first second small = search (rules, source-turn, cases_lt, leaves_or_remains, leaves-down)

-- a queue is one of the targets, or none of them
pub place_of : (r : Routing) (p : ℕ) → ((i : ℕ) → i < r.places → r.queue i ≢ p) ⊎ ((i : ℕ) × (i < r.places) × (r.queue i ≡ p))
place_of r p = all_or_some (λ i. r.queue i ≢ p) (λ i. r.queue i ≡ p) r.places
    (λ i small. elim (cases_eq (r.queue i) p) [ inl e ↦ inr e | inr ne ↦ inl ne ])

-- so where no keys cross, the images of ordered states are ordered
pub ordered-without : (r : Routing) (x y : List ℕ) → IsRouting r → r.size ≡ 1 → ((a b v w : ℕ) → Crosses r a b v w → ⊥)
    → length x ≡ r.queues → length y ≡ r.queues → IsBelow x y → IsBelow (act r x) (act r y)
ordered-without r x y is one clear count other below =
    let first = act-routed r is x count in
    let second = act-routed r is y other in
    let long : length (act r x) ≡ r.queues = first.long in
    record {
      same_length = first.long ∙ sym second.long;
      each = λ p small. elim (place_of r p) [
        | inr found ↦ subst (λ q. slice_index (act r x) q ≤ slice_index (act r y) q) found.2
            (target-below r x y (act r x) (act r y) found.0 is one clear count below first second found.1)
        | inl free ↦ elim (cases_eq p r.source) [
          | inl e ↦ subst (λ q. slice_index (act r x) q ≤ slice_index (act r y) q) (sym e)
              (source-below r x y (act r x) (act r y) is count below first second (omega arith))
          | inr away ↦ (let here = first.others p away free in
              let there = second.others p away free in
              let old : slice_index x p ≤ slice_index y p = below.each p (omega arith) in omega (arith, here, there))
        ]
      ];
    }
