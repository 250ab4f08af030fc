-- Sets of arcs that are written row by row, and queue by queue.
use Rattle.std.proofs.Common.{rules, ◌≡◌, ◌⊎◌, ◌↔◌, ℕ, suc, ◌+◌, ◌-◌, ◌<◌, ◌≤◌, true, List, [], ◌∷◌, length, slice_index, min, max, inl, inr, sym, ◌∙◌, subst, arith}
use Rattle.std.specs.Prelude.{Option, Some, None, MatchOption, false}
use Rattle.std.specs.Option.{is_some}
use Rattle.std.proofs.lemmas.Bool.{cases_lt, true≢false, false≢true}
use Rattle.std.proofs.lemmas.Grind.{common_steps}
use Rattle.psi_closed_arcs.specs.declared.ends.Arc.{Arc}
use Rattle.psi_closed_arcs.specs.declared.sums.Sums.{Sums}
use Rattle.psi_closed_arcs.specs.declared.marks.Marks.{Marks}
use Rattle.psi_closed_arcs.specs.declared.marks.Reach.{Reach}
use Rattle.psi_closed_arcs.specs.declared.spans.Span.{Span}
use Rattle.psi_closed_arcs.specs.Sums.{has, Leads}
use Rattle.psi_closed_arcs.specs.Walks.{Walk, Held, Useful}
use Rattle.psi_closed_arcs.specs.Held.{Listed, IsThis, IsFirst}
use Rattle.psi_closed_arcs.specs.Joining.{past, here, Only, IsChanging, IsShort, IsFull, IsShiftable, IsOutside, Joined}
use Rattle.psi_closed_arcs.specs.Inner.SpansKept.{IsSpan}
use Rattle.psi_closed_arcs.specs.Inner.MarksKept.{IsReached, Keeps, TellsUseful, Gives}
use Rattle.psi_closed_arcs.proofs.WalksLemmas.{held-useful, useful-held}
use Rattle.psi_closed_arcs.proofs.MarkedLemmas.{past-small, past-yes, past-no, here-no}

-- the rows of a queue from `low` to below n are written, and the others are as they were
pub record IsPut (level : ℕ) (P : ℕ → ℕ → Type 0) (first now : List Arc) (low n : ℕ) : Type 0 where
  pub own : (s v : ℕ) → low ≤ s → s < n → Listed now level s v ↔ P s v
  pub rest : (l s v : ℕ) → (l ≡ level → low ≤ s → s < n → ⊥) → Listed now l s v ↔ Listed first l s v

pub iff-trans : {P Q R : Type 0} → (P ↔ Q) → (Q ↔ R) → P ↔ R
iff-trans first second = (λ p. second.0 (first.0 p), λ r. first.1 (second.1 r))

pub put-more : (level : ℕ) (P : ℕ → ℕ → Type 0) (first now new : List Arc) (low n : ℕ) → IsPut level P first now low n → low ≤ n → ((v : ℕ) → Listed new level n v ↔ P n v)
    → ((l s v : ℕ) → (l ≡ level → s ≡ n → ⊥) → Listed new l s v ↔ Listed now l s v) → IsPut level P first new low (n + 1)
put-more level P first now new low n before order own others = search rules

-- where no arc leaves an end elsewhere, nor is to, all of the queue is as it is to be
pub put-all : (level : ℕ) (P : ℕ → ℕ → Type 0) (first now : List Arc) (low n : ℕ) → IsPut level P first now low n → ((s v : ℕ) → Listed first level s v → (low ≤ s) × (s < n))
    → ((s v : ℕ) → P s v → (low ≤ s) × (s < n)) → (s v : ℕ) → Listed now level s v ↔ P s v
put-all level P first now low n done ranged small s v = search rules

-- the queues from `low` to below n are written, and the others are as they were
pub record AreDone (low : ℕ) (Q : ℕ → ℕ → ℕ → Type 0) (first now : List Arc) (n : ℕ) : Type 0 where
  pub own : (l s v : ℕ) → low ≤ l → l < n → Listed now l s v ↔ Q l s v
  pub rest : (l s v : ℕ) → (low ≤ l → l < n → ⊥) → Listed now l s v ↔ Listed first l s v

pub done-more : (low : ℕ) (Q : ℕ → ℕ → ℕ → Type 0) (first now new : List Arc) (n : ℕ) → AreDone low Q first now n → low ≤ n → ((s v : ℕ) → Listed new n s v ↔ Q n s v)
    → ((l s v : ℕ) → (l ≡ n → ⊥) → Listed new l s v ↔ Listed now l s v) → AreDone low Q first new (n + 1)
done-more low Q first now new n before order own others = search rules

-- the arcs of the queue that comes next are those that were there at first
pub done-next : (low : ℕ) (Q : ℕ → ℕ → ℕ → Type 0) (first now : List Arc) (n : ℕ) → AreDone low Q first now n → (s v : ℕ) → Listed now n s v ↔ Listed first n s v
done-next low Q first now n done s v = done.rest n s v (λ above less. omega arith)

-- an arc is put in
pub insert-arcs : (old new : List Arc) (b : Arc) (row next : Sums) → b.before + b.value < 320 → ((v : ℕ) → Leads row b.before v ↔ Listed old b.level b.before v)
    → ((t : ℕ) → t < 320 → (has next t ≡ true) ↔ ((t ≡ b.before + b.value) ⊎ (has row t ≡ true))) → ((v : ℕ) → Listed new b.level b.before v ↔ Leads next b.before v)
    → ((l s v : ℕ) → (l ≡ b.level → s ≡ b.before → ⊥) → Listed new l s v ↔ Listed old l s v) → (l s v : ℕ) → Listed new l s v ↔ (Listed old l s v ⊎ IsThis b l s v)
insert-arcs old new b row next small leads joined own others l s v = search rules

-- what is kept, shifted or given of two sets that agree on an arc, or on a queue
pub keeps-at : (A B : ℕ → ℕ → ℕ → Type 0) (marks : Marks) (l s v : ℕ) → (A l s v ↔ B l s v) → Keeps A marks l s v ↔ Keeps B marks l s v
keeps-at A B marks l s v same = (λ k. record { there = same.0 k.there; reached = k.reached }, λ k. record { there = same.1 k.there; reached = k.reached })

gives-map : (A B : ℕ → ℕ → ℕ → Type 0) (reach : Reach) (from to l : ℕ) → ((s v : ℕ) → A l s v → B l s v) → (s v : ℕ) → Gives A reach from to l s v → Gives B reach from to l s v
gives-map A B reach from to l there s v gives = search rules

pub gives-same : (A B : ℕ → ℕ → ℕ → Type 0) (reach : Reach) (from to l : ℕ) → ((s v : ℕ) → A l s v ↔ B l s v) → (s v : ℕ) → Gives A reach from to l s v ↔ Gives B reach from to l s v
gives-same A B reach from to l same s v = (gives-map A B reach from to l (λ r u. (same r u).0) s v, gives-map B A reach from to l (λ r u. (same r u).1) s v)

-- what is kept are the useful arcs
pub keeps-useful : (A : ℕ → ℕ → ℕ → Type 0) (n t low high : ℕ) (P : ℕ → ℕ → Type 0) (marks : Marks) → TellsUseful A n t low high P marks → (l s v : ℕ) → low ≤ l → l ≤ high
    → Keeps A marks l s v ↔ Useful (Only A P) n t l s v
keeps-useful A n t low high P marks tells l s v above below = search rules

-- what is given are the arcs after the move
pub gives-joined : (A : ℕ → ℕ → ℕ → Type 0) (n t low high from k to room : ℕ) (reach : Reach) → TellsUseful A n t low high (IsChanging from k to room) reach.changing
    → TellsUseful A n t low high (IsShort from k) reach.short → TellsUseful A n t low high (IsFull to room) reach.full → (l s v : ℕ) → low ≤ l → l ≤ high
    → Gives A reach from to l s v ↔ Joined A n t from k to room l s v
gives-joined A n t low high from k to room reach changing short full l s v above below = search rules

-- a walk whose numbers a rule allows
walk-allowed : (A : ℕ → ℕ → ℕ → Type 0) (P : ℕ → ℕ → Type 0) (i s : ℕ) (xs : List ℕ) (t : ℕ) → ((j : ℕ) → j < length xs → P (i + j) (slice_index xs j)) → Walk A i s xs t
    → Walk (Only A P) i s xs t
walk-allowed A P i s [] t each walk = walk
walk-allowed A P i s (v ∷ vs) t each walk =
    let e : i + 0 ≡ i = omega arith in (
      (walk.0, subst (λ k. P k v) e (each 0 (omega arith))),
      walk-allowed A P (suc i) (s + v) vs t (λ j less. (let f : i + suc j ≡ suc i + j = omega arith in subst (λ k. P k (slice_index vs j)) f (each (suc j) (omega arith)))) walk.1,
    )

pub held-allowed : (A : ℕ → ℕ → ℕ → Type 0) (P : ℕ → ℕ → Type 0) (n t : ℕ) (x : List ℕ) → Held A n t x → ((l : ℕ) → P l (slice_index x l)) → Held (Only A P) n t x
held-allowed A P n t x held each = (held.0, walk-allowed A P 0 0 x t (λ j less. (let e : j ≡ 0 + j = omega arith in subst (λ k. P k (slice_index x j)) e (each j))) held.1)

-- a move leaves the arcs of the queues that are neither its own nor between them, where all arcs are useful
outside-past : (from to l : ℕ) → IsOutside from to l → (past from l ≡ past to l) × ((here from l ≡ 0) × (here to l ≡ 0))
outside-past from to l outside = grind (arith, common_steps, past-no, here-no, past-yes)

pub outside-joined : (A : ℕ → ℕ → ℕ → Type 0) (n t from k to room : ℕ) → ((l s v : ℕ) → A l s v → Useful A n t l s v) → (l s v : ℕ) → IsOutside from to l
    → A l s v ↔ Joined A n t from k to room l s v
outside-joined A n t from k to room whole l s v outside =
    let at = outside-past from to l outside in
    let same = at.0 in
    let source_off = at.1.0 in
    let target_off = at.1.1 in (
      λ there. (let found = useful-held A n t l s v (whole l s v there) in
          let x = found.0 in
          elim (cases_lt (slice_index x from) k) [
            | inl short ↦ inr (inl (held-useful (Only A (IsShort from k)) n t l s v x
                (held-allowed A (IsShort from k) n t x found.1 (λ q e. subst (λ i. slice_index x i < k) (sym e) short)) found.2))
            | inr enough ↦ elim (cases_lt (slice_index x to) room) [
              | inr full ↦ inr (inr (held-useful (Only A (IsFull to room)) n t l s v x
                  (held-allowed A (IsFull to room) n t x found.1 (λ q e. subst (λ i. room ≤ slice_index x i) (sym e) full)) found.2))
              | inl free ↦ inl (record {
                sum = s;
                own = v;
                useful = held-useful (Only A (IsChanging from k to room)) n t l s v x (held-allowed A (IsChanging from k to room) n t x found.1 (λ q. record {
                  source = λ e. subst (λ i. k ≤ slice_index x i) (sym e) enough;
                  target = λ e. subst (λ i. slice_index x i < room) (sym e) free;
                })) found.2;
                shifted = record { sums = omega arith; owns = omega arith };
              })
            ]
          ]),
      λ joined. elim joined [
        | inl has ↦ (let sums = has.shifted.sums in
            let owns = has.shifted.owns in
            let e : has.sum ≡ s = omega arith in
            let f : has.own ≡ v = omega arith in
            subst (λ i. A l s i) f (subst (λ i. A l i has.own) e has.useful.arc.0))
        | inr stays ↦ elim stays [ inl useful ↦ useful.arc.0 | inr useful ↦ useful.arc.0 ]
      ],
    )

-- all queues are written
pub done-all : (Q : ℕ → ℕ → ℕ → Type 0) (first now : List Arc) (n : ℕ) → AreDone 0 Q first now n → ((l s v : ℕ) → Listed first l s v → l < n) → ((l s v : ℕ) → Q l s v → l < n)
    → (l s v : ℕ) → Listed now l s v ↔ Q l s v
done-all Q first now n done ranged small l s v = search rules

-- a row of an end that is filled
pub reached-leads : (row : Sums) (before most total whole : ℕ) → total ≡ whole → total ≤ 256
    → ((t : ℕ) → t < 320 → (has row t ≡ true) ↔ ((before ≤ t) × ((t ≤ before + most) × (t ≤ total)))) → (v : ℕ) → Leads row before v ↔ ((v ≤ most) × (before + v ≤ whole))
reached-leads row before most total whole same small is v = search rules

-- a queue outside the move's
pub outside-is : (from to l : ℕ) → (l < min from to) ⊎ (max from to < l) → IsOutside from to l
outside-is from to l either = elim either [ inl low ↦ inl (omega arith, omega arith) | inr high ↦ inr (omega arith, omega arith) ]

-- what is given is in range
pub gives-range : (A : ℕ → ℕ → ℕ → Type 0) (reach : Reach) (from to l total : ℕ) → ((s v : ℕ) → A l s v → s + v ≤ total)
    → ((s v : ℕ) → A l s v → IsReached reach.changing l s v → IsShiftable from to total l s v) → (s v : ℕ) → Gives A reach from to l s v → s ≤ total
gives-range A reach from to l total ranged shiftable s v gives = search rules

-- an empty row is left by no arc
pub none-left : (arcs : List Arc) (l s : ℕ) (row : Sums) → ((v : ℕ) → Leads row s v ↔ Listed arcs l s v) → ((t : ℕ) → t < 320 → has row t ≡ false) → (v : ℕ) → Listed arcs l s v → ⊥
none-left arcs l s row leads none v listed = (let led = (leads v).1 listed in true≢false (sym led.there ∙ none (s + v) led.small))

-- the end of what is given is in the span or beside it
pub gives-near : (arcs : List Arc) (reach : Reach) (from to l total : ℕ) (span : Span) → IsSpan arcs total l span → ((s v : ℕ) → Listed arcs l s v → s + v ≤ total)
    → ((s v : ℕ) → Listed arcs l s v → IsReached reach.changing l s v → IsShiftable from to total l s v) → (s v : ℕ) → Gives (Listed arcs) reach from to l s v
    → (span.first ≤ s + 1) × ((s < span.end + 1) × (s ≤ total))
gives-near arcs reach from to l total span is ranged shiftable s v gives = grind (arith, common_steps, gives-range, past-small)

other-told : (o : Option ℕ) (P : Type 0) (Q : ℕ → Type 0) → MatchOption o P Q → ((is_some o ≡ true) → (w : ℕ) × Q w) × ((is_some o ≡ false) → P)
other-told None P Q told = (λ e. absurd (false≢true e), λ _. told)
other-told (Some w) P Q told = (λ _. (w, told), λ e. absurd (true≢false e))

-- the least sum of a row, and whether there is another
pub first-is : (arcs : List Arc) (l before total sum : ℕ) (row : Sums) (o : Option ℕ) → ((v : ℕ) → Leads row before v ↔ Listed arcs l before v)
    → ((t : ℕ) → t < 320 → has row t ≡ true → (before ≤ t) × (t ≤ total)) → total ≤ 256 → before ≤ sum → sum ≤ total → has row sum ≡ true
    → ((t : ℕ) → before ≤ t → t < sum → has row t ≡ true → ⊥)
    → MatchOption o ((t : ℕ) → sum + 1 ≤ t → t ≤ total → has row t ≡ true → ⊥)
    (λ t. (sum + 1 ≤ t) × ((t ≤ total) × ((has row t ≡ true) × ((u : ℕ) → sum + 1 ≤ u → u < t → has row u ≡ true → ⊥))))
    → IsFirst arcs l before (sum - before) (is_some o)
first-is arcs l before total sum row o leads ranged small low high there least other =
    let told = other-told o ((t : ℕ) → sum + 1 ≤ t → t ≤ total → has row t ≡ true → ⊥)
    (λ t. (sum + 1 ≤ t) × ((t ≤ total) × ((has row t ≡ true) × ((u : ℕ) → sum + 1 ≤ u → u < t → has row u ≡ true → ⊥)))) other in
    let whole : before + (sum - before) ≡ sum = omega arith in
    record {
      there = (leads (sum - before)).0 (record { small = omega arith; there = subst (λ k. has row k ≡ true) (sym whole) there });
      others = (
        λ yes_other. (let found = told.0 yes_other in
            let more = found.1.0 in
            let few = found.1.1.0 in
            let sum_of : before + (found.0 - before) ≡ found.0 = omega arith in
            (found.0 - before, (leads (found.0 - before)).0 (record { small = omega arith; there = subst (λ k. has row k ≡ true) (sym sum_of) found.1.1.1.0 }), λ e. omega arith)),
        λ another. (let led = (leads another.0).1 another.1 in
            let range = ranged (before + another.0) led.small led.there in
            let few = range.1 in
            let apart = another.2 in
            (grind (arith, common_steps))),
      );
    }
