-- The ends of what a route makes of a box are tight: each image lies between them, and each end is met.
use Rattle.std.proofs.Common.{◌≡◌, ◌≢◌, ◌⊎◌, ℕ, ◌+◌, ◌<◌, ◌≤◌, List, length, slice_index, inl, inr, ap, sym, ◌∙◌, subst, arith, refl, rules}
use Rattle.std.proofs.lemmas.Bool.{cases_lt, cases_eq}
use Rattle.psi_state.specs.State.{IsBelow, box}
use Rattle.psi_state.specs.Boxes.{IsBetween}
use Rattle.psi_state.proofs.BoxesLemmas.{below-itself, below-through}
use Rattle.psi_state.specs.Sets.{image}
use Rattle.psi_state.specs.Hull.{IsTight}
use Rattle.psi_event.proofs.ChoiceLemmas.{choose-two}
use Rattle.psi_event.proofs.LawLemmas.{tight-by}
use Rattle.psi_route.specs.Routing.{Routing, IsRouting, HasRoom, Lacks, IsBest, IsPassed, Routed}
use Rattle.psi_route.proofs.ActingLemmas.{best_or_passed}
use Rattle.psi_route.specs.Ends.{AreCornerEnds, CanChoose, CanPass, IsLowEnd, IsHighEnd, AreEnds}
use Rattle.psi_route.proofs.MonotoneLemmas.{serves-up, source-below, place_of}
use Rattle.psi_route.proofs.WitnessesLemmas.{state_with}

-- a target's number within the box stands for itself
pub record IsHeld (r : Routing) (l h : List ℕ) (j v : ℕ) : Type 0 where
  pub place : j < r.places
  pub low : slice_index l (r.queue j) ≤ v
  pub high : v ≤ slice_index h (r.queue j)

-- the box has the routing's queues
pub record IsBoxOf (r : Routing) (l h : List ℕ) : Type 0 where
  pub below : IsBelow l h
  pub count : length l ≡ r.queues

between-long : (r : Routing) (l h x : List ℕ) → IsBoxOf r l h → IsBetween l h x → length x ≡ r.queues
between-long r l h x is_box between = sym between.low.same_length ∙ is_box.count

serves_low : (r : Routing) → IsRouting r → (l h x : List ℕ) → IsBoxOf r l h → IsBetween l h x → slice_index x r.source < r.least → slice_index l r.source < r.least
serves_low r is l h x is_box between idle = search rules

holds_at : (r : Routing) → IsRouting r → (l h x : List ℕ) (i : ℕ) → IsBoxOf r l h → IsBetween l h x → i < r.places
    → IsHeld r l h i (slice_index x (r.queue i))
holds_at r is l h x i is_box between small = search rules

-- a number that can be chosen is chosen in some state of the box
pub record Chosen (r : Routing) (l h : List ℕ) (j v : ℕ) : Type 0 where
  pub state : List ℕ
  pub between : IsBetween l h state
  pub best : IsBest r state j
  pub serve : r.least ≤ slice_index state r.source
  pub at : slice_index state (r.queue j) ≡ v

-- v at place j, and at each other place a number that lacks room or has a greater key
record Outdone (r : Routing) (j v i w : ℕ) : Type 0 where
  own : i ≡ j → w ≡ v
  other : i ≢ j → Lacks r i w ⊎ (r.key j v < r.key i w)

outdone : (r : Routing) (l h : List ℕ) (j v i : ℕ) → IsHeld r l h j v → CanChoose r l h j v → i < r.places
    → (w : ℕ) × (slice_index l (r.queue i) ≤ w) × (w ≤ slice_index h (r.queue i)) × Outdone r j v i w
outdone r l h j v i held can small =
    elim (cases_eq i j) [
      | inl e ↦ (
        v,
        subst (λ k. slice_index l (r.queue k) ≤ v) (sym e) held.low,
        subst (λ k. v ≤ slice_index h (r.queue k)) (sym e) held.high,
        record { own = λ d. refl; other = λ ne. absurd (ne e) },
      )
      | inr ne ↦ (let w = can.others i small ne in (w.0, w.1, w.2, record { own = λ e. absurd (ne e); other = λ d. w.3 }))
    ]

can_choose : (r : Routing) → IsRouting r → (l h : List ℕ) (j v : ℕ) → IsBoxOf r l h → IsHeld r l h j v → CanChoose r l h j v → Chosen r l h j v
can_choose r is l h j v is_box held can =
    let made = state_with r is l h is_box.below is_box.count (λ i w. Outdone r j v i w) (λ w. r.least ≤ w)
    (λ i small. outdone r l h j v i held can small)
    (λ small. (slice_index h r.source, is_box.below.each r.source (let count = is_box.count in omega arith), omega arith, can.serve)) in
    let here : slice_index made.state (r.queue j) ≡ v = (made.targets j held.place).own refl in
    record {
      state = made.state;
      between = made.between;
      best = record {
        place = held.place;
        room = subst (λ n. HasRoom r j n) (sym here) can.room;
        others = λ i small ne. subst (λ n. Lacks r i (slice_index made.state (r.queue i)) ⊎ (r.key j n < r.key i (slice_index made.state (r.queue i)))) (sym here)
            ((made.targets i small).other ne);
      };
      serve = (elim is.sourced [ inl small ↦ made.source small | inr e ↦ omega arith ]);
      at = here;
    }

-- and what is chosen in some state can be chosen
chosen_can : (r : Routing) → IsRouting r → (l h x : List ℕ) (j : ℕ) → IsBoxOf r l h → IsBetween l h x → IsBest r x j
    → r.least ≤ slice_index x r.source → CanChoose r l h j (slice_index x (r.queue j))
chosen_can r is l h x j is_box between best serve = record {
  room = best.room;
  serve = serves-up r x h is (between-long r l h x is_box between) between.high serve;
  others = λ i small ne. (let held = holds_at r is l h x i is_box between small in
      (slice_index x (r.queue i), held.low, held.high, best.others i small ne));
}

-- a number that can stay stays in some state of the box
pub record Passed (r : Routing) (l h : List ℕ) (j v : ℕ) : Type 0 where
  pub state : List ℕ
  pub between : IsBetween l h state
  pub kept : IsPassed r state j ⊎ (slice_index state r.source < r.least)
  pub at : slice_index state (r.queue j) ≡ v

can_pass : (r : Routing) → IsRouting r → (l h : List ℕ) (j v : ℕ) → IsBoxOf r l h → IsHeld r l h j v → CanPass r l h j v → Passed r l h j v
can_pass r is l h j v is_box held can =
    let at_j : r.queue j < length l = omega (arith, is.is_queue j held.place, is_box.count) in
    elim can [
      | inl lacks ↦ (let made = choose-two l h (r.queue j) v (r.queue j) v is_box.below at_j at_j held.low held.high held.low held.high (λ e. refl) in
          record { state = made.0; between = made.1; kept = inl (inl (subst (λ n. Lacks r j n) (sym made.2) lacks)); at = made.2 })
      | inr rest ↦ elim rest [
        | inl idle ↦ elim is.sourced [
          | inl small ↦ (let there : r.source < length l = omega (arith, is_box.count) in
              let made = choose-two l h (r.queue j) v r.source (slice_index l r.source) is_box.below at_j there held.low held.high (omega arith) (is_box.below.each r.source there)
              (λ e. absurd (is.no_source j held.place (sym e))) in
              record { state = made.0; between = made.1; kept = inr (subst (λ n. n < r.least) (sym made.3) idle); at = made.2 })
          | inr e ↦ absurd (omega arith)
        ]
        | inr rival ↦ (let i = rival.0 in
            let w = rival.3 in
            let made = choose-two l h (r.queue j) v (r.queue i) w.0 is_box.below at_j (omega (arith, is.is_queue i rival.1, is_box.count)) held.low held.high w.1 w.2
            (λ e. absurd (rival.2 (is.apart i j rival.1 held.place e))) in
            record {
              state = made.0;
              between = made.1;
              kept = inl (inr (i, rival.1, rival.2, subst (λ n. HasRoom r i n) (sym made.3) w.3, rw (made.2, made.3) w.4));
              at = made.2;
            })
      ]
    ]

-- and what stays in some state can stay
passed_can : (r : Routing) → IsRouting r → (l h x : List ℕ) (j : ℕ) → IsBoxOf r l h → IsBetween l h x → IsPassed r x j
    → CanPass r l h j (slice_index x (r.queue j))
passed_can r is l h x j is_box between passed = search (rules, holds_at)

-- a state of the box raises the number at a place, or leaves it as it is
data Turn (r : Routing) (l h x y : List ℕ) (j : ℕ) : Type 0 where
  raised : CanChoose r l h j (slice_index x (r.queue j)) → slice_index y (r.queue j) ≡ slice_index x (r.queue j) + r.size → Turn r l h x y j
  kept : CanPass r l h j (slice_index x (r.queue j)) → slice_index y (r.queue j) ≡ slice_index x (r.queue j) → Turn r l h x y j

turn_of : (r : Routing) → IsRouting r → (l h x y : List ℕ) (j : ℕ) → IsBoxOf r l h → IsBetween l h x → j < r.places → Routed r x y → Turn r l h x y j
turn_of r is l h x y j is_box between small routed =
    elim (cases_lt (slice_index x r.source) r.least) [
      | inl idle ↦ kept (inr (inl (serves_low r is l h x is_box between idle))) (ap (λ (z : List ℕ). slice_index z (r.queue j)) (routed.idle idle))
      | inr serve ↦ elim (best_or_passed r x j is small) [
        | inl best ↦ raised (chosen_can r is l h x j is_box between best serve) (routed.gains j serve best)
        | inr passed ↦ kept (passed_can r is l h x j is_box between passed) (routed.stays j small passed)
      ]
    ]

-- what the function makes of each state of the right length
abbrev pub Routes : Routing → (List ℕ → List ℕ) → Type 0
Routes r f = (x : List ℕ) → length x ≡ r.queues → Routed r x (f x)

between-low : (l h : List ℕ) → IsBelow l h → IsBetween l h l
between-low l h below = record { low = below-itself l; high = below }

between-high : (l h : List ℕ) → IsBelow l h → IsBetween l h h
between-high l h below = record { low = below; high = below-itself h }

low_inside : (r : Routing) → IsRouting r → (f : List ℕ → List ℕ) → Routes r f → (l h x : List ℕ) (j u : ℕ) → IsBoxOf r l h → IsBetween l h x → j < r.places
    → IsLowEnd r l h j u → u ≤ slice_index (f x) (r.queue j)
low_inside r is f routes l h x j u is_box between small end =
    let held = holds_at r is l h x j is_box between small in
    elim (turn_of r is l h x (f x) j is_box between small (routes x (between-long r l h x is_box between))) [
      | raised can more ↦ elim end [ inl first ↦ omega (arith, first.6, first.3) | inr all ↦ omega (arith, all.1) ]
      | kept can same ↦ elim end [
        | inl first ↦ elim (cases_lt (slice_index x (r.queue j)) first.0) [
          | inl less ↦ absurd (first.5 (slice_index x (r.queue j)) held.low less can)
          | inr most ↦ omega (arith, first.6)
        ]
        | inr all ↦ elim (cases_lt (slice_index x (r.queue j)) (slice_index l (r.queue j) + r.size)) [
          | inl less ↦ absurd (all.0 (slice_index x (r.queue j)) held.low held.high less can)
          | inr most ↦ omega (arith, all.1)
        ]
      ]
    ]

high_inside : (r : Routing) → IsRouting r → (f : List ℕ → List ℕ) → Routes r f → (l h x : List ℕ) (j u : ℕ) → IsBoxOf r l h → IsBetween l h x → j < r.places
    → IsHighEnd r l h j u → slice_index (f x) (r.queue j) ≤ u
high_inside r is f routes l h x j u is_box between small end =
    let held = holds_at r is l h x j is_box between small in
    elim (turn_of r is l h x (f x) j is_box between small (routes x (between-long r l h x is_box between))) [
      | raised can more ↦ elim end [
        | inl last ↦ elim (cases_lt last.0 (slice_index x (r.queue j))) [
          | inl less ↦ absurd (last.5 (slice_index x (r.queue j)) less held.high can)
          | inr most ↦ omega (arith, last.6)
        ]
        | inr all ↦ elim (cases_lt (slice_index h (r.queue j)) (slice_index x (r.queue j) + r.size)) [
          | inl past ↦ absurd (all.0 (slice_index x (r.queue j)) held.low held.high past can)
          | inr most ↦ omega (arith, all.1)
        ]
      ]
      | kept can same ↦ elim end [ inl last ↦ omega (arith, last.6, last.3, held.high) | inr all ↦ omega (arith, all.1, held.high) ]
    ]

-- so the two are in order
pub target-ordered : (r : Routing) → IsRouting r → (f : List ℕ → List ℕ) → Routes r f → (l h : List ℕ) (j u w : ℕ) → IsBoxOf r l h → j < r.places
    → IsLowEnd r l h j u → IsHighEnd r l h j w → u ≤ w
target-ordered r is f routes l h j u w is_box small low high =
    let first : u ≤ slice_index (f l) (r.queue j) = low_inside r is f routes l h l j u is_box (between-low l h is_box.below) small low in
    let last : slice_index (f l) (r.queue j) ≤ w = high_inside r is f routes l h l j w is_box (between-low l h is_box.below) small high in omega arith

-- a state of the box whose image has this number at the queue
abbrev Meets : (List ℕ → List ℕ) → List ℕ → List ℕ → ℕ → ℕ → Type 0
Meets f l h p u = (x : List ℕ) × IsBetween l h x × (slice_index (f x) p ≡ u)

meets-same : (f : List ℕ → List ℕ) (l h : List ℕ) (p v u : ℕ) → Meets f l h p v → u ≡ v → Meets f l h p u
meets-same f l h p v u found same = (found.0, found.1, found.2 ∙ sym same)

passed-meets : (r : Routing) → IsRouting r → (f : List ℕ → List ℕ) → Routes r f → (l h : List ℕ) (j v : ℕ) → IsBoxOf r l h → IsHeld r l h j v
    → CanPass r l h j v → Meets f l h (r.queue j) v
passed-meets r is f routes l h j v is_box held can =
    let made = can_pass r is l h j v is_box held can in
    let routed = routes made.state (between-long r l h made.state is_box made.between) in (
      made.state,
      made.between,
      elim made.kept [
        | inl passed ↦ routed.stays j held.place passed ∙ made.at
        | inr idle ↦ ap (λ (z : List ℕ). slice_index z (r.queue j)) (routed.idle idle) ∙ made.at
      ],
    )

chosen-meets : (r : Routing) → IsRouting r → (f : List ℕ → List ℕ) → Routes r f → (l h : List ℕ) (j v : ℕ) → IsBoxOf r l h → IsHeld r l h j v
    → CanChoose r l h j v → Meets f l h (r.queue j) (v + r.size)
chosen-meets r is f routes l h j v is_box held can =
    let made = can_choose r is l h j v is_box held can in
    let routed = routes made.state (between-long r l h made.state is_box made.between) in
    (made.state, made.between, routed.gains j made.serve made.best ∙ ap (λ n. n + r.size) made.at)

low_reached : (r : Routing) → IsRouting r → (f : List ℕ → List ℕ) → Routes r f → (l h : List ℕ) (j u : ℕ) → IsBoxOf r l h → j < r.places
    → IsLowEnd r l h j u → Meets f l h (r.queue j) u
low_reached r is f routes l h j u is_box small end =
    elim end [
      | inl first ↦ meets-same f l h (r.queue j) first.0 u (passed-meets r is f routes l h j first.0 is_box (record { place = small; low = first.1; high = first.2 }) first.4) first.6
      | inr all ↦ (let between = between-low l h is_box.below in
          let order : slice_index l (r.queue j) ≤ slice_index h (r.queue j) = (holds_at r is l h l j is_box between small).high in
          let positive = is.sized in (
            l,
            between,
            elim (turn_of r is l h l (f l) j is_box between small (routes l is_box.count)) [
              | raised can more ↦ more ∙ sym all.1
              | kept can same ↦ absurd (all.0 (slice_index l (r.queue j)) (omega arith) order (omega arith) can)
            ],
          ))
    ]

high_reached : (r : Routing) → IsRouting r → (f : List ℕ → List ℕ) → Routes r f → (l h : List ℕ) (j u : ℕ) → IsBoxOf r l h → j < r.places
    → IsHighEnd r l h j u → Meets f l h (r.queue j) u
high_reached r is f routes l h j u is_box small end =
    elim end [
      | inl last ↦ meets-same f l h (r.queue j) (last.0 + r.size) u (chosen-meets r is f routes l h j last.0 is_box (record { place = small; low = last.1; high = last.2 }) last.4) last.6
      | inr all ↦ (let positive = is.sized in
          let between = between-high l h is_box.below in
          let order : slice_index l (r.queue j) ≤ slice_index h (r.queue j) = (holds_at r is l h h j is_box between small).low in (
            h,
            between,
            elim (turn_of r is l h h (f h) j is_box between small (routes h (between-long r l h h is_box between))) [
              | raised can more ↦ absurd (all.0 (slice_index h (r.queue j)) order (omega arith) (omega arith) can)
              | kept can same ↦ same ∙ sym all.1
            ],
          ))
    ]

-- a queue is a target, the source or neither
data Place (r : Routing) (p : ℕ) : Type 0 where
  is_target : (i : ℕ) → i < r.places → r.queue i ≡ p → Place r p
  is_source : p ≡ r.source → Place r p
  is_other : p ≢ r.source → ((i : ℕ) → i < r.places → r.queue i ≢ p) → Place r p

place_is : (r : Routing) (p : ℕ) → Place r p
place_is r p =
    elim (place_of r p) [
      | inr found ↦ is_target found.0 found.1 found.2
      | inl apart ↦ elim (cases_eq p r.source) [ inl e ↦ is_source e | inr ne ↦ is_other ne apart ]
    ]

ends_inside : (r : Routing) → IsRouting r → (f : List ℕ → List ℕ) → Routes r f → (l h u w x : List ℕ) → IsBoxOf r l h → AreEnds r f l h u w → IsBetween l h x
    → IsBetween u w (f x)
ends_inside r is f routes l h u w x is_box ends between =
    let long = between-long r l h x is_box between in
    let made : length (f x) ≡ r.queues = (routes x long).long in
    record {
      low = record { same_length = ends.low.count ∙ sym made; each = λ p small. low p (omega (arith, ends.low.count)) };
      high = record { same_length = made ∙ sym ends.high.count; each = λ p small. high p (omega (arith, made)) };
    }
  where
    low : (p : ℕ) → p < r.queues → slice_index u p ≤ slice_index (f x) p
    low p small =
        elim (place_is r p) [
          | is_target i within e ↦ subst (λ q. slice_index u q ≤ slice_index (f x) q) e
              (low_inside r is f routes l h x i (slice_index u (r.queue i)) is_box between within (ends.low.targets i within))
          | is_source e ↦ (let at : r.source < r.queues = omega arith in
              let same : slice_index u r.source ≡ slice_index (f l) r.source = ends.low.source at in
              let order : slice_index (f l) r.source ≤ slice_index (f x) r.source = source-below r l x (f l) (f x) is is_box.count between.low (routes l is_box.count) (routes x (between-long r l h x is_box between)) at in
              subst (λ q. slice_index u q ≤ slice_index (f x) q) (sym e) (omega arith))
          | is_other ne apart ↦ (let same : slice_index u p ≡ slice_index l p = ends.low.others p ne apart in
              let kept : slice_index (f x) p ≡ slice_index x p = (routes x (between-long r l h x is_box between)).others p ne apart in
              let count = is_box.count in
              let order : slice_index l p ≤ slice_index x p = between.low.each p (omega arith) in omega arith)
        ]

    high : (p : ℕ) → p < r.queues → slice_index (f x) p ≤ slice_index w p
    high p small =
        elim (place_is r p) [
          | is_target i within e ↦ subst (λ q. slice_index (f x) q ≤ slice_index w q) e
              (high_inside r is f routes l h x i (slice_index w (r.queue i)) is_box between within (ends.high.targets i within))
          | is_source e ↦ (let at : r.source < r.queues = omega arith in
              let long = between-long r l h x is_box between in
              let same : slice_index w r.source ≡ slice_index (f h) r.source = ends.high.source at in
              let order : slice_index (f x) r.source ≤ slice_index (f h) r.source = source-below r x h (f x) (f h) is long between.high (routes x long) (routes h (between-long r l h h is_box (between-high l h is_box.below))) at in
              subst (λ q. slice_index (f x) q ≤ slice_index w q) (sym e) (omega arith))
          | is_other ne apart ↦ (let same : slice_index w p ≡ slice_index h p = ends.high.others p ne apart in
              let long : length x ≡ r.queues = between-long r l h x is_box between in
              let kept : slice_index (f x) p ≡ slice_index x p = (routes x long).others p ne apart in
              let order : slice_index x p ≤ slice_index h p = between.high.each p (omega arith) in omega arith)
        ]

corner-met : (r : Routing) (f : List ℕ → List ℕ) → Routes r f → (E : ℕ → ℕ → Type 0) (l h x u : List ℕ) (p : ℕ) → length x ≡ r.queues → IsBetween l h x
    → AreCornerEnds r f E x u → ((i : ℕ) → i < r.places → Meets f l h (r.queue i) (slice_index u (r.queue i))) → p < r.queues → Meets f l h p (slice_index u p)
corner-met r f routes E l h x u p long between ends targets small =
    elim (place_is r p) [
      | is_target i within e ↦ subst (λ q. Meets f l h q (slice_index u q)) e (targets i within)
      | is_source e ↦ (let at : r.source < r.queues = omega arith in
          subst (λ q. Meets f l h q (slice_index u q)) (sym e) (x, between, sym (ends.source at)))
      | is_other ne apart ↦ (x, between, (routes x long).others p ne apart ∙ sym (ends.others p ne apart))
    ]

-- so the box between the ends is tight around the image of the box
pub ends-tight : (r : Routing) → IsRouting r → (f : List ℕ → List ℕ) → Routes r f → (l h u w : List ℕ) → IsBoxOf r l h → AreEnds r f l h u w
    → IsTight (image f (box l h)) u w
ends-tight r is f routes l h u w is_box ends =
    tight-by f l h u w (λ x between. ends_inside r is f routes l h u w x is_box ends between)
    (λ p small. corner-met r f routes (λ j v. IsLowEnd r l h j v) l h l u p is_box.count (between-low l h is_box.below) ends.low
    (λ i within. low_reached r is f routes l h i (slice_index u (r.queue i)) is_box within (ends.low.targets i within)) (omega (arith, ends.low.count)))
    (λ p small. corner-met r f routes (λ j v. IsHighEnd r l h j v) l h h w p (between-long r l h h is_box (between-high l h is_box.below)) (between-high l h is_box.below) ends.high
    (λ i within. high_reached r is f routes l h i (slice_index w (r.queue i)) is_box within (ends.high.targets i within)) (omega (arith, ends.high.count)))

-- and its ends are in order
pub ends-below : (r : Routing) → IsRouting r → (f : List ℕ → List ℕ) → Routes r f → (l h u w : List ℕ) → IsBoxOf r l h → AreEnds r f l h u w → IsBelow u w
ends-below r is f routes l h u w is_box ends =
    let between = ends_inside r is f routes l h u w l is_box ends (between-low l h is_box.below) in
    below-through u (f l) w between.low between.high
