-- Which queues of a box can hold numbers within and outside their guards.
use Rattle.std.specs.Prelude.{◌≡◌, ℕ, ◌+◌, ◌<◌, ◌≤◌, Bool, true, false, MatchBool, ◌⊎◌, nat_eq, List, length, slice_index, slice_set}
use Rattle.std.proofs.Common.{inl, inr, ap, sym, ◌∙◌, subst, arith, rules}
use Rattle.std.proofs.lemmas.Bool.{cases_lt, cases_eq, cases_Bool, eqb-false, not-true, not-false, eqb-true, true_from_ne_false, MatchBool-at_true, MatchBool-at_false}
use Rattle.psi_state.specs.State.{IsBelow, box}
use Rattle.psi_state.specs.Sets.{image}
use Rattle.psi_state.specs.Hull.{IsTight}
use Rattle.psi_event.specs.Setting.{AreSet}
use Rattle.psi_event.proofs.SettingLemmas.{set-next, set-more}
use Rattle.psi_guard.specs.declared.parts.Part.{Part}
use Rattle.psi_guard.specs.declared.envelope.Leaving.{Leaving}
use Rattle.psi_guard.specs.declared.envelope.Leaving.TheVariants.{Nowhere, One, Several}
use Rattle.psi_guard.specs.Guarding.{moved, part_of, guarded}
use Rattle.psi_guard.specs.Refusals.{AreGuards, at}
use Rattle.psi_guard.specs.Places.{IsFree}
use Rattle.psi_guard.specs.Inner.PlacesLaws.{named_or_free, part_of-each, part_of-at}
use Rattle.psi_guard.specs.Rule.{Rule, rule}
use Rattle.psi_guard.specs.Envelope.{Leaves, CanMoveAll, MissesSome, OtherLeaves, CanKeep, IsEnd, Knows, others, MayKeep, IsLeastOf, IsGreatestOf, CanTurn}
use Rattle.psi_guard.proofs.OrderLemmas.{is_rule_of}
use Rattle.psi_guard.proofs.HullsLemmas.{AreEnds, ends-tight}

-- a part whose queue meets its guard
abbrev pub PartMeets : List ℕ → List ℕ → Part → Type 0
PartMeets l h part = (slice_index l part.queue ≤ part.most) × (part.least ≤ slice_index h part.queue)

-- one whose queue doesn't
abbrev pub PartMisses : List ℕ → List ℕ → Part → Type 0
PartMisses l h part = (slice_index h part.queue < part.least) ⊎ (part.most < slice_index l part.queue)

-- one whose queue can leave its guard
abbrev pub PartLeaves : List ℕ → List ℕ → Part → Type 0
PartLeaves l h part = (slice_index l part.queue < part.least) ⊎ (part.most < slice_index h part.queue)

pub meets-all : (caps : List ℕ) (parts : List Part) (l h : List ℕ) → IsBelow l h → IsBelow h caps
    → ((i : ℕ) → i < length parts → PartMeets l h (at parts i)) → CanMoveAll (rule caps parts) l h
meets-all caps parts l h ordered within each =
    let meet = λ (p : ℕ) (place : p < length caps). part_of-each caps parts (λ q part. (slice_index l q ≤ part.most) × (part.least ≤ slice_index h q)) p each
    (let high = within.each p (omega (arith, place, within.same_length)) in
    let step = ordered.each p (omega (arith, place, ordered.same_length, within.same_length)) in (omega arith, omega arith)) in
    record { low = λ p place. (meet p place).0; high = λ p place. (meet p place).1 }

pub misses-one : (caps : List ℕ) (parts : List Part) (l h : List ℕ) (i : ℕ) → AreGuards caps parts → i < length parts
    → PartMisses l h (at parts i) → MissesSome (rule caps parts) l h
misses-one caps parts l h i guards small out = record {
  queue = (at parts i).queue;
  place = (guards.each i small).queue;
  out = subst (λ (part : Part). (slice_index h (at parts i).queue < part.least) ⊎ (part.most < slice_index l (at parts i).queue))
      (sym (part_of-at caps parts i guards.apart small)) out;
}

-- which of the first i parts can leave their guards
abbrev pub KnowsParts : List Part → List ℕ → List ℕ → ℕ → Leaving → Type 0
KnowsParts parts l h i Nowhere = (k : ℕ) → k < i → PartLeaves l h (at parts k) → ⊥
KnowsParts parts l h i (One q) = (j : ℕ) × (j < i) × ((at parts j).queue ≡ q) × PartLeaves l h (at parts j)
    × ((k : ℕ) → k < i → ((at parts k).queue ≡ q → ⊥) → PartLeaves l h (at parts k) → ⊥)
KnowsParts parts l h i Several = (j : ℕ) × (k : ℕ) × (j < i) × (k < i) × ((at parts j).queue ≡ (at parts k).queue → ⊥)
    × PartLeaves l h (at parts j) × PartLeaves l h (at parts k)

leaves-at : (caps : List ℕ) (parts : List Part) (l h : List ℕ) (i : ℕ) → AreGuards caps parts → i < length parts → PartLeaves l h (at parts i)
    → Leaves (rule caps parts) l h (at parts i).queue
leaves-at caps parts l h i guards small out =
    subst (λ (part : Part). (slice_index l (at parts i).queue < part.least) ⊎ (part.most < slice_index h (at parts i).queue))
    (sym (part_of-at caps parts i guards.apart small)) out

-- a queue that leaves its guard is named by a part that does
record LeavesBy (parts : List Part) (l h : List ℕ) (p : ℕ) : Type 0 where
  place : ℕ
  small : place < length parts
  queue : (at parts place).queue ≡ p
  out : PartLeaves l h (at parts place)

leaves-by : (caps : List ℕ) (parts : List Part) (l h : List ℕ) (p : ℕ) → IsBelow h caps → p < length caps → Leaves (rule caps parts) l h p → LeavesBy parts l h p
leaves-by caps parts l h p within place out =
    elim (named_or_free caps parts p) [
      | inl named ↦ record {
        place = named.place;
        small = named.small;
        queue = named.queue;
        out = subst (λ q. (slice_index l q < (at parts named.place).least) ⊎ ((at parts named.place).most < slice_index h q)) (sym named.queue)
            (subst (λ (part : Part). (slice_index l p < part.least) ⊎ (part.most < slice_index h p)) named.part out);
      }
      | inr free ↦ absurd (let there : p < length h = omega (arith, within.same_length) in
          let high : slice_index h p ≤ slice_index caps p = within.each p there in
          elim (subst (λ (part : Part). (slice_index l p < part.least) ⊎ (part.most < slice_index h p)) free.part out) [ inl low ↦ omega arith | inr over ↦ omega arith ])
    ]

pub knows-end : (caps : List ℕ) (parts : List Part) (l h : List ℕ) (i : ℕ) (leaving : Leaving) → AreGuards caps parts → IsBelow h caps → length parts ≡ i
    → KnowsParts parts l h i leaving → Knows (rule caps parts) l h leaving
knows-end caps parts l h i Nowhere guards within all known =
    λ p place out. (let by = leaves-by caps parts l h p within place out in known by.place (omega (arith, by.small)) by.out)
knows-end caps parts l h i (One q) guards within all known =
    let less : known.0 < i = known.1 in
    let small : known.0 < length parts = omega arith in (
      subst (λ p. p < length caps) known.2 (guards.each known.0 small).queue,
      subst (λ p. Leaves (rule caps parts) l h p) known.2 (leaves-at caps parts l h known.0 guards small known.3),
      λ p place other out. (let by = leaves-by caps parts l h p within place out in
          known.4 by.place (omega (arith, by.small)) (λ same. other (sym by.queue ∙ same)) by.out),
    )
knows-end caps parts l h i Several guards within all known = search (rules, leaves-at)

pub others-true : (r : Rule) (l h : List ℕ) (leaving : Leaving) (q : ℕ) → Knows r l h leaving → others leaving q ≡ true → OtherLeaves r l h q
others-true r l h Nowhere q known is = absurd cc
others-true r l h (One p) q known is = record { queue = p; place = known.0; other = eqb-false p q (not-true (nat_eq p q) is); out = known.1 }
others-true r l h Several q known is =
    elim (cases_eq known.0 q) [
      | inl e ↦ record { queue = known.1; place = known.3; other = λ d. known.4 (e ∙ sym d); out = known.6 }
      | inr ne ↦ record { queue = known.0; place = known.2; other = ne; out = known.5 }
    ]

pub others-false : (r : Rule) (l h : List ℕ) (leaving : Leaving) (q : ℕ) → Knows r l h leaving → others leaving q ≡ false → OtherLeaves r l h q → ⊥
others-false r l h leaving q known is other = search (rules, eqb-true, not-false)

-- what the answers of the two questions to a box mean
pub record Answers (r : Rule) (l h : List ℕ) (moves : Bool) (leaving : Leaving) : Type 0 where
  pub turn : MatchBool moves (CanMoveAll r l h) (MissesSome r l h)
  pub known : Knows r l h leaving

-- where some queue misses its guard, no state is moved
moves-all : (r : Rule) (l h : List ℕ) (moves : Bool) → MatchBool moves (CanMoveAll r l h) (MissesSome r l h) → CanMoveAll r l h → moves ≡ true
moves-all r l h moves turn can = search (rules, cases_Bool, MatchBool-at_false)

-- a queue that misses its guard is queue q or lets every other one stay
pub can-turn : (caps : List ℕ) (parts : List Part) (l h : List ℕ) (q : ℕ) (moves : Bool) (leaving : Leaving) → Answers (rule caps parts) l h moves leaving → IsBelow l h
    → length l ≡ length caps → CanTurn (part_of caps parts q) (slice_index l q) (slice_index h q) moves (others leaving q)
can-turn caps parts l h q moves leaving answers ordered long = search (rules, cases_Bool, MatchBool-at_false, cases_eq, true_from_ne_false, others-false)

-- an end among what becomes of the numbers of a part's queue is one among what becomes of those of the box
pub end-from : (caps : List ℕ) (parts : List Part) (l h : List ℕ) (q : ℕ) (before : ℕ → ℕ → Type 0) (image u : ℕ) (moves : Bool) (leaving : Leaving) → Answers (rule caps parts) l h moves leaving
    → IsEnd (moves ≡ true) (λ v. MayKeep (part_of caps parts q) (others leaving q) v) before (slice_index l q) (slice_index h q) image u
    → IsEnd (CanMoveAll (rule caps parts) l h) (λ v. CanKeep (rule caps parts) l h q v) before (slice_index l q) (slice_index h q) image u
end-from caps parts l h q before image u moves leaving answers end = search (rules, moves-all, true_from_ne_false, others-false, MatchBool-at_true, others-true)

-- the queues of the first i parts have their ends
pub record AreEnding (parts : List Part) (l h : List ℕ) (moves : Bool) (leaving : Leaving) (i : ℕ) (u w : List ℕ) : Type 0 where
  pub low : AreSet (λ k. (at parts k).queue) (λ k v. IsLeastOf (at parts k) (slice_index l (at parts k).queue) (slice_index h (at parts k).queue) moves (others leaving (at parts k).queue) v) l u i
  pub high : AreSet (λ k. (at parts k).queue) (λ k v. IsGreatestOf (at parts k) (slice_index l (at parts k).queue) (slice_index h (at parts k).queue) moves (others leaving (at parts k).queue) v) h w i

-- a part that isn't looked at yet finds the old ends of its queue
own-ends : (caps : List ℕ) (parts : List Part) (l h u w : List ℕ) (i a b : ℕ) (part : Part) (moves stays : Bool) (leaving : Leaving) → AreGuards caps parts
    → AreEnding parts l h moves leaving i u w → i < length parts → part ≡ at parts i → a ≡ slice_index u part.queue → b ≡ slice_index w part.queue → stays ≡ others leaving part.queue
    → (a ≡ slice_index l (at parts i).queue) × (b ≡ slice_index h (at parts i).queue) × (stays ≡ others leaving (at parts i).queue)
own-ends caps parts l h u w i a b part moves stays leaving guards ending small is first last other = search (rules, set-next)

pub part-turns : (caps : List ℕ) (parts : List Part) (l h u w : List ℕ) (i a b : ℕ) (part : Part) (moves stays : Bool) (leaving : Leaving) → AreGuards caps parts
    → Answers (rule caps parts) l h moves leaving → IsBelow l h → length l ≡ length caps → AreEnding parts l h moves leaving i u w → i < length parts → part ≡ at parts i
    → a ≡ slice_index u part.queue → b ≡ slice_index w part.queue → stays ≡ others leaving part.queue → CanTurn part a b moves stays
part-turns caps parts l h u w i a b part moves stays leaving guards answers ordered long ending small is first last other =
    let old = own-ends caps parts l h u w i a b part moves stays leaving guards ending small is first last other in
    rw (old.0, old.1, old.2, is) (rw (part_of-at caps parts i guards.apart small) at (can-turn caps parts l h (at parts i).queue moves leaving answers ordered long))

pub ending-step : (caps : List ℕ) (parts : List Part) (l h u w : List ℕ) (i a b c d : ℕ) (part : Part) (moves stays : Bool) (leaving : Leaving) → AreGuards caps parts → IsBelow l h → IsBelow h caps
    → AreEnding parts l h moves leaving i u w → i < length parts → part ≡ at parts i → a ≡ slice_index u part.queue → b ≡ slice_index w part.queue → stays ≡ others leaving part.queue
    → IsLeastOf part a b moves stays c → IsGreatestOf part a b moves stays d → AreEnding parts l h moves leaving (i + 1) (slice_set u part.queue c) (slice_set w part.queue d)
ending-step caps parts l h u w i a b c d part moves stays leaving guards ordered within ending small is first last other least greatest =
    let old = own-ends caps parts l h u w i a b part moves stays leaving guards ending small is first last other in
    let place : (at parts i).queue < length caps = (guards.each i small).queue in
    subst (λ q. AreEnding parts l h moves leaving (i + 1) (slice_set u q c) (slice_set w q d)) (sym (ap (λ (p : Part). p.queue) is)) (record {
      low = set-more _ _ l u i (length parts) c ending.low small guards.apart.each (omega (arith, ordered.same_length, within.same_length)) (rw (old.0, old.1, old.2, is) at least);
      high = set-more _ _ h w i (length parts) d ending.high small guards.apart.each (omega (arith, within.same_length)) (rw (old.0, old.1, old.2, is) at greatest);
    })

-- a queue that no part names keeps its ends
free-ends : (caps : List ℕ) (parts : List Part) (l h : List ℕ) (q : ℕ) (moves : Bool) (leaving : Leaving) → Answers (rule caps parts) l h moves leaving → IsBelow l h → IsBelow h caps
    → q < length caps → IsFree caps parts q → AreEnds (rule caps parts) l h q (slice_index l q) (slice_index h q)
free-ends caps parts l h q moves leaving answers ordered within place free =
    let most : slice_index h q ≤ slice_index caps q = within.each q (omega (arith, within.same_length)) in
    let step : slice_index l q ≤ slice_index h q = ordered.each q (omega (arith, ordered.same_length, within.same_length)) in
    let told : (moves ≡ true) ⊎ (others leaving q ≡ true) =
    elim (rw free.part at (can-turn caps parts l h q moves leaving answers ordered (ordered.same_length ∙ within.same_length))) [
      | inl move ↦ inl move
      | inr stay ↦ elim stay [
        | inl other ↦ inr other
        | inr own ↦ elim own [ inl out ↦ absurd (omega arith) | inr out ↦ absurd (omega arith) ]
      ]
    ] in
    record {
      low = end-from caps parts l h q _ _ (slice_index l q) moves leaving answers (rw free.part (record {
        moved = λ _. omega arith;
        kept = λ v start stop may. start;
        reached = elim told [ inl move ↦ inl (move, omega arith) | inr other ↦ inr (inl other, (omega arith, step)) ];
      }));
      high = end-from caps parts l h q _ _ (slice_index h q) moves leaving answers (rw free.part (record {
        moved = λ _. omega arith;
        kept = λ v start stop may. stop;
        reached = elim told [ inl move ↦ inl (move, omega arith) | inr other ↦ inr (inl other, (step, omega arith)) ];
      }));
    }

-- all parts looked at, both ends of each queue are known
pub ending-tight : (caps : List ℕ) (parts : List Part) (l h u w : List ℕ) (i : ℕ) (moves : Bool) (leaving : Leaving) → AreGuards caps parts → Answers (rule caps parts) l h moves leaving
    → IsBelow l h → IsBelow h caps → AreEnding parts l h moves leaving i u w → length parts ≡ i → IsTight (image (guarded parts) (box l h)) u w
ending-tight caps parts l h u w i moves leaving guards answers ordered within ending all =
    let long = ordered.same_length ∙ within.same_length in
    ends-tight (rule caps parts) caps (guarded parts) l h u w (is_rule_of caps parts guards)
    (record { ordered = ordered; within = within; long = long; longer = within.same_length }) (ending.low.count ∙ long) (ending.high.count ∙ within.same_length)
    (λ q place. elim (named_or_free caps parts q) [
      | inl named ↦ record {
        low = end-from caps parts l h q _ _ (slice_index u q) moves leaving answers (rw named.part (rw named.queue at (ending.low.set named.place (omega (arith, named.small)))));
        high = end-from caps parts l h q _ _ (slice_index w q) moves leaving answers (rw named.part (rw named.queue at (ending.high.set named.place (omega (arith, named.small)))));
      }
      | inr free ↦ rw (ending.low.rest q (λ k less. free.other k (omega arith)), ending.high.rest q (λ k less. free.other k (omega arith)))
          (free-ends caps parts l h q moves leaving answers ordered within place free)
    ])

-- the least number of a part's queue is at most the greatest: some number is kept, or all are moved
pub least-greatest : (part : Part) (l h : ℕ) (moves stays : Bool) (u w : ℕ) → l ≤ h → IsLeastOf part l h moves stays u → IsGreatestOf part l h moves stays w → u ≤ w
least-greatest part l h moves stays u w step least greatest = search (rules, cases_lt)
