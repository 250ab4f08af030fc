-- The tight box around what an event by queues makes of a box.
use Rattle.std.specs.Prelude.{◌≡◌, ℕ, ◌<◌, ◌≤◌, min, max, ◌⊎◌, List, length, slice_index, refl}
use Rattle.std.proofs.Common.{inl, inr, ap, sym, ◌∙◌, arith, rules}
use Rattle.std.proofs.lemmas.Bool.{cases_eq}
use Rattle.psi_state.specs.State.{IsBelow, box}
use Rattle.psi_state.specs.Boxes.{IsBetween}
use Rattle.psi_state.proofs.BoxesLemmas.{below-through}
use Rattle.psi_state.specs.Sets.{image}
use Rattle.psi_state.specs.Hull.{IsTight}
use Rattle.psi_event.proofs.ChoiceLemmas.{choose-between, choose-two}
use Rattle.psi_event.proofs.LawLemmas.{tight-by}
use Rattle.psi_guard.specs.Rule.{Rule, AllowsAll, RefusesSome}
use Rattle.psi_guard.specs.Envelope.{Leaves, IsEnd, CanMoveAll, CanKeep, IsLow, IsHigh}
use Rattle.psi_guard.proofs.OrderLemmas.{IsRuleOf, rises_to, allowed_moves, refused_stays}

-- the box from l to h is one of states of these capacities
pub record IsBoxOf (r : Rule) (caps l h : List ℕ) : Type 0 where
  pub ordered : IsBelow l h
  pub within : IsBelow h caps
  pub long : length l ≡ r.queues
  pub longer : length h ≡ r.queues

-- where a state of the box is moved, each queue's numbers meet its guard
moving : (r : Rule) (caps l h x : List ℕ) → IsBoxOf r caps l h → IsBetween l h x → AllowsAll r x → CanMoveAll r l h
moving r caps l h x fit between allowed = search rules

-- where a state isn't moved, each of its queues may keep its number
keeping : (r : Rule) (caps l h x : List ℕ) (q : ℕ) → IsBoxOf r caps l h → IsBetween l h x → RefusesSome r x → CanKeep r l h q (slice_index x q)
keeping r caps l h x q fit between refused = search (rules, cases_eq)

low_inside : (r : Rule) (caps : List ℕ) (f : List ℕ → List ℕ) (l h x : List ℕ) (q u : ℕ) → IsRuleOf r caps f → IsBoxOf r caps l h → IsBetween l h x → q < r.queues
    → IsLow r l h q u → u ≤ slice_index (f x) q
low_inside r caps f l h x q u is fit between place low =
    let start : slice_index l q ≤ slice_index x q = between.low.each q (omega (arith, fit.long)) in
    let stop : slice_index x q ≤ slice_index h q = between.high.each q (omega (arith, fit.longer, between.high.same_length)) in
    elim (is.makes x (below-through x h caps between.high fit.within)).turn [
      | inl a ↦ (let least : r.least q ≤ slice_index x q = a.0.low q place in
          omega (arith, a.1 q place, low.moved (moving r caps l h x fit between a.0), rises_to r q (max (slice_index l q) (r.least q)) (slice_index x q) is.lawful place (omega arith)))
      | inr b ↦ omega (arith, b.1 q place, low.kept (slice_index x q) start stop (keeping r caps l h x q fit between b.0))
    ]

high_inside : (r : Rule) (caps : List ℕ) (f : List ℕ → List ℕ) (l h x : List ℕ) (q w : ℕ) → IsRuleOf r caps f → IsBoxOf r caps l h → IsBetween l h x → q < r.queues
    → IsHigh r l h q w → slice_index (f x) q ≤ w
high_inside r caps f l h x q w is fit between place high =
    let start : slice_index l q ≤ slice_index x q = between.low.each q (omega (arith, fit.long)) in
    let stop : slice_index x q ≤ slice_index h q = between.high.each q (omega (arith, fit.longer, between.high.same_length)) in
    elim (is.makes x (below-through x h caps between.high fit.within)).turn [
      | inl a ↦ (let most : slice_index x q ≤ r.most q = a.0.high q place in
          omega (arith, a.1 q place, high.moved (moving r caps l h x fit between a.0), rises_to r q (slice_index x q) (min (slice_index h q) (r.most q)) is.lawful place (omega arith)))
      | inr b ↦ omega (arith, b.1 q place, high.kept (slice_index x q) start stop (keeping r caps l h x q fit between b.0))
    ]

-- a state of the box that is moved, with a number within the guard in each queue
reach : (r : Rule) (caps : List ℕ) (f : List ℕ → List ℕ) (l h : List ℕ) (value : ℕ → ℕ) (q : ℕ) → IsRuleOf r caps f → IsBoxOf r caps l h → q < r.queues
    → ((p : ℕ) → slice_index l p ≤ slice_index h p → slice_index l p ≤ r.most p → r.least p ≤ slice_index h p → r.least p ≤ r.most p
    → (slice_index l p ≤ value p) × (value p ≤ slice_index h p) × (r.least p ≤ value p) × (value p ≤ r.most p))
    → CanMoveAll r l h → (x : List ℕ) × IsBetween l h x × (slice_index (f x) q ≡ r.moves q (value q))
reach r caps f l h value q is fit place fits can =
    let all = λ (p : ℕ) (there : p < r.queues). fits p (fit.ordered.each p (omega (arith, there, fit.long))) (can.low p there) (can.high p there) (is.lawful.guard p there) in
    let made = choose-between (λ p v. v ≡ value p) l h fit.ordered (λ p small. (let four = all p (omega (arith, fit.long)) in (value p, four.0, four.1, refl))) in
    let at : (p : ℕ) → p < r.queues → slice_index made.0 p ≡ value p = λ p there. made.2 p (omega (arith, there, fit.long)) in
    let allowed : AllowsAll r made.0 = record { low = λ p there. omega (arith, at p there, (all p there).2); high = λ p there. omega (arith, at p there, (all p there).3) } in
    (made.0, made.1, allowed_moves r made.0 (f made.0) q (is.makes made.0 (below-through made.0 h caps made.1.high fit.within)) allowed place ∙ ap (λ v. r.moves q v) (at q place))

-- a number that queue p holds outside its guard, in the box
outside : (r : Rule) (l h : List ℕ) (p : ℕ) → slice_index l p ≤ slice_index h p → Leaves r l h p
    → (v : ℕ) × (slice_index l p ≤ v) × (v ≤ slice_index h p) × ((v < r.least p) ⊎ (r.most p < v))
outside r l h p step out =
    elim out [
      | inl low ↦ (slice_index l p, omega arith, step, inl low)
      | inr high ↦ (slice_index h p, step, omega arith, inr high)
    ]

-- a number that a queue may keep is kept in some state of the box
reach_kept : (r : Rule) (caps : List ℕ) (f : List ℕ → List ℕ) (l h : List ℕ) (q v : ℕ) → IsRuleOf r caps f → IsBoxOf r caps l h → q < r.queues
    → slice_index l q ≤ v → v ≤ slice_index h q → CanKeep r l h q v → (x : List ℕ) × IsBetween l h x × (slice_index (f x) q ≡ v)
reach_kept r caps f l h q v is fit place low high can =
    elim can [
      | inl other ↦ (let p = other.queue in
          let w = outside r l h p (fit.ordered.each p (omega (arith, other.place, fit.long))) other.out in
          kept_at p w.0 other.place w.1 w.2 (λ e. absurd (other.other e)) w.3)
      | inr own ↦ kept_at q v place low high (λ e. refl) own
    ]
  where
    kept_at : (p w : ℕ) → p < r.queues → slice_index l p ≤ w → w ≤ slice_index h p → (p ≡ q → v ≡ w) → (w < r.least p) ⊎ (r.most p < w)
        → (x : List ℕ) × IsBetween l h x × (slice_index (f x) q ≡ v)
    kept_at p w other under over same out =
        let made = choose-two l h q v p w fit.ordered (omega (arith, fit.long)) (omega (arith, fit.long)) low high under over same in
        let at_p : slice_index made.0 p ≡ w = made.3 in
        let refused : RefusesSome r made.0 = record {
          queue = p;
          place = other;
          out = elim out [ inl small ↦ inl (omega arith) | inr large ↦ inr (omega arith) ];
        } in
        (made.0, made.1, refused_stays r made.0 (f made.0) q (is.makes made.0 (below-through made.0 h caps made.1.high fit.within)) refused place ∙ made.2)

-- so an end is met where its image is
reached : (r : Rule) (caps : List ℕ) (f : List ℕ → List ℕ) (l h : List ℕ) (before : ℕ → ℕ → Type 0) (q image u : ℕ) → IsRuleOf r caps f → IsBoxOf r caps l h → q < r.queues
    → (CanMoveAll r l h → (x : List ℕ) × IsBetween l h x × (slice_index (f x) q ≡ image))
    → IsEnd (CanMoveAll r l h) (λ v. CanKeep r l h q v) before (slice_index l q) (slice_index h q) image u → (x : List ℕ) × IsBetween l h x × (slice_index (f x) q ≡ u)
reached r caps f l h before q image u is fit place meets end = elim end.reached [
  | inl a ↦ (let found = meets a.0 in (found.0, found.1, found.2 ∙ sym a.1))
  | inr b ↦ reach_kept r caps f l h q u is fit place b.1.0 b.1.1 b.0
]

-- the two ends of a queue
pub record AreEnds (r : Rule) (l h : List ℕ) (q u w : ℕ) : Type 0 where
  pub low : IsLow r l h q u
  pub high : IsHigh r l h q w

-- the box of the ends of all queues is tight around the image
pub ends-tight : (r : Rule) (caps : List ℕ) (f : List ℕ → List ℕ) (l h u w : List ℕ) → IsRuleOf r caps f → IsBoxOf r caps l h
    → length u ≡ r.queues → length w ≡ r.queues → ((q : ℕ) → q < r.queues → AreEnds r l h q (slice_index u q) (slice_index w q)) → IsTight (image f (box l h)) u w
ends-tight r caps f l h u w is fit long longer ends =
    tight-by f l h u w
    (λ x between. (let made = is.makes x (below-through x h caps between.high fit.within) in record {
      low = record {
        same_length = long ∙ sym made.long;
        each = λ q small. (let place : q < r.queues = omega (arith, long) in low_inside r caps f l h x q (slice_index u q) is fit between place (ends q place).low);
      };
      high = record {
        same_length = made.long ∙ sym longer;
        each = λ q small. (let place : q < r.queues = omega (arith, made.long) in high_inside r caps f l h x q (slice_index w q) is fit between place (ends q place).high);
      };
    }))
    (λ q small. (let place : q < r.queues = omega (arith, long) in
    reached r caps f l h _ q _ (slice_index u q) is fit place
    (reach r caps f l h (λ p. max (slice_index l p) (r.least p)) q is fit place (λ p a b c d. (omega arith, omega arith, omega arith, omega arith))) (ends q place).low))
    (λ q small. (let place : q < r.queues = omega (arith, longer) in
    reached r caps f l h _ q _ (slice_index w q) is fit place
    (reach r caps f l h (λ p. min (slice_index h p) (r.most p)) q is fit place (λ p a b c d. (omega arith, omega arith, omega arith, omega arith))) (ends q place).high))
