-- Marks tell which ends of arcs are reached, and so which arcs are useful.
use Rattle.std.proofs.Common.{rules, ◌≡◌, ◌⊎◌, ◌↔◌, ℕ, zero, suc, ◌+◌, ◌-◌, ◌^◌, ◌<◌, ◌≤◌, true, false, List, [], ◌∷◌, length, slice_index, slice_set, min, max, inl, inr, ap, sym, ◌∙◌, subst, arith, refl}
use Rattle.std.proofs.lemmas.Bool.{cases_eq, cases_lt, lt-ltb, le-ltb, eq-eqb, ne_eqb, true≢false}
use Rattle.std.proofs.lemmas.Grind.{common_steps}
use Rattle.psi_closed_arcs.specs.declared.ends.Arc.{Arc}
use Rattle.psi_closed_arcs.specs.declared.sums.Sums.{Sums}
use Rattle.psi_closed_arcs.specs.declared.marks.Marks.{Marks}
use Rattle.psi_closed_arcs.specs.declared.windows.Window.{Window}
use Rattle.psi_closed_arcs.specs.declared.windows.Rule.{Rule}
use Rattle.psi_closed_arcs.specs.Sums.{has, Leads}
use Rattle.psi_closed_arcs.specs.Walks.{customers, Walk, Before, After, Useful}
use Rattle.psi_closed_arcs.specs.Held.{Listed, AreRanged}
use Rattle.psi_closed_arcs.specs.Inner.RowsKept.{sums_at}
use Rattle.psi_closed_arcs.specs.Joining.{past, here, Only, IsChanging, IsShiftable}
use Rattle.psi_closed_arcs.specs.Windows.{IsWithin, window_at, Allows, is_marked, Enters, EntersBelow, Exits, MarkBefore, MarkAfter}
use Rattle.psi_closed_arcs.specs.Inner.MarksKept.{AreMarked, IsReached, Keeps, TellsUseful, Shifts}
use Rattle.psi_closed_arcs.proofs.RowsLemmas.{arc_of, read-own, read-other}
use Rattle.psi_closed_arcs.proofs.WalksLemmas.{walk-at, walk-sum, before-more, before-split, after-more, after-split, useful-map}

-- one end more from which arcs may enter
module _ (arcs : List Arc) (l : ℕ) (window : Window) (marks row old now : Sums) (n : ℕ) where
  pub enters-kept : (t : ℕ) → EntersBelow arcs l t window marks n → EntersBelow arcs l t window marks (n + 1)
  enters-kept t below = (let less = below.less in record { enters = below.enters; less = omega arith })

  -- it is not marked
  pub enters-skip : (has marks n ≡ false) → (t : ℕ) → EntersBelow arcs l t window marks (n + 1) → EntersBelow arcs l t window marks n
  enters-skip bare t below =
      let less = below.less in
      record {
        enters = below.enters;
        less = grind (arith, common_steps, true≢false, true);
      }

  -- it is marked, and its row leads to the sums
  pub enters-more : (has marks n ≡ true) → ((v : ℕ) → Leads row n v ↔ (Listed arcs l n v × IsWithin window v)) → ((t : ℕ) → t < 320 → has row t ≡ true → (n ≤ t) × (t ≤ 256))
      → ((t : ℕ) → t < 320 → (has now t ≡ true) ↔ ((has old t ≡ true) ⊎ (has row t ≡ true))) → (t : ℕ) → t < 320 → (has old t ≡ true) ↔ EntersBelow arcs l t window marks n
      → (has now t ≡ true) ↔ EntersBelow arcs l t window marks (n + 1)
  enters-more marked leads ranged joined t small before = (
    λ given. elim ((joined t small).0 given) [
      | inl there ↦ enters-kept t (before.0 there)
      | inr new ↦ (let low = (ranged t small new).0 in
          let sum : n + (t - n) ≡ t = omega arith in
          let arc = (leads (t - n)).0 (record { small = omega arith; there = subst (λ k. has row k ≡ true) (sym sum) new }) in
          record { enters = record { before = n; value = t - n; listed = arc.0; comes = sum; within = arc.1; marked = marked }; less = omega arith })
    ],
    λ below. (joined t small).1 (
        let less = below.less in
        elim (cases_lt below.enters.before n) [
          | inl fits ↦ inl (before.1 (record { enters = below.enters; less = fits }))
          | inr more ↦ (let same : below.enters.before ≡ n = omega arith in
              let led = (leads below.enters.value).1 (subst (λ k. Listed arcs l k below.enters.value) same below.enters.listed, below.enters.within) in
              let sum : n + below.enters.value ≡ t = ap (λ k. k + below.enters.value) (sym same) ∙ below.enters.comes in
              inr (subst (λ k. has row k ≡ true) sum led.there))
        ]),
  )

-- a row leads to a marked end exactly where an arc exits there
pub exits-some : (arcs : List Arc) (l s : ℕ) (window : Window) (marks row both : Sums) → ((v : ℕ) → Leads row s v ↔ (Listed arcs l s v × IsWithin window v))
    → ((t : ℕ) → t < 320 → has row t ≡ true → (s ≤ t) × (t ≤ 256)) → ((t : ℕ) → t < 320 → (has both t ≡ true) ↔ ((has row t ≡ true) × (has marks t ≡ true)))
    → (t : ℕ) → t < 320 → has both t ≡ true → Exits arcs l s window marks
exits-some arcs l s window marks row both leads ranged joined t small given =
    let parts = (joined t small).0 given in
    let low = (ranged t small parts.0).0 in
    let sum : s + (t - s) ≡ t = omega arith in
    let arc = (leads (t - s)).0 (record { small = omega arith; there = subst (λ k. has row k ≡ true) (sym sum) parts.0 }) in
    record { value = t - s; listed = arc.0; within = arc.1; marked = subst (λ k. has marks k ≡ true) (sym sum) parts.1 }

-- a walk whose arcs are of another set
walk-only : (A B : ℕ → ℕ → ℕ → Type 0) (i s : ℕ) (xs : List ℕ) (t : ℕ) → ((l r v : ℕ) → i ≤ l → l < i + length xs → A l r v → B l r v) → Walk A i s xs t → Walk B i s xs t
walk-only A B i s [] t each walk = walk
walk-only A B i s (v ∷ vs) t each walk = grind (arith, common_steps, (walk-only A B (suc i) (s + v) vs t (λ l r u low high. each l r u (omega arith) (omega arith)) walk.1))

module _ (arcs : List Arc) (rule : Rule) (n t : ℕ) (ranged : AreRanged n t arcs) (fits : t ≤ 256) where
  -- the marks of the first queue are given
  pub behind-begun : (low start : ℕ) (marks : List Sums) (first : Sums) → ((i : ℕ) → low ≤ i → i ≤ start → sums_at marks i ≡ first)
      → ((l s v : ℕ) → low ≤ l → l ≤ start → Listed arcs l s v → (has first s ≡ true) ↔ Before (Only (Listed arcs) (Allows rule)) l s)
      → MarkBefore (Listed arcs) (Only (Listed arcs) (Allows rule)) low start marks
  behind-begun low start marks first filled begin = search rules

  -- one queue more from the front
  pub behind-next : (low level : ℕ) (window : Window) (marks : List Sums) (own next : Sums) → low ≤ level → suc level < length marks → own ≡ sums_at marks level → window ≡ window_at rule level
      → ((s : ℕ) → s < 320 → (has next s ≡ true) ↔ Enters arcs level s window own) → MarkBefore (Listed arcs) (Only (Listed arcs) (Allows rule)) low level marks
      → MarkBefore (Listed arcs) (Only (Listed arcs) (Allows rule)) low (level + 1) (slice_set marks (level + 1) next)
  behind-next low level window marks own next order within read is row marked = record {
    each = λ l s v above below listed. elim (cases_lt level l) [
      | inr less ↦ subst (λ (x : Sums). (has x s ≡ true) ↔ Before (Only (Listed arcs) (Allows rule)) l s) (sym (read-other marks (level + 1) l next (λ hit. omega arith)))
          (marked.each l s v above less listed)
      | inl more ↦ (let e : suc level ≡ l = omega arith in
          let f : level + 1 ≡ l = omega arith in
          let sum = (ranged (arc_of l s v) listed).sum in
          let told = row s (omega arith) in
          subst (λ k. (is_marked (slice_set marks (level + 1) next) l s ≡ true) ↔ Before (Only (Listed arcs) (Allows rule)) k s) e
          (subst (λ (x : Sums). (has x s ≡ true) ↔ Before (Only (Listed arcs) (Allows rule)) (suc level) s) (sym (ap (λ k. sums_at (slice_set marks (level + 1) next) k) (sym f) ∙ read-own marks (level + 1) next (omega arith))) (
            λ given. (let enters = told.0 given in
                let behind = (marked.each level enters.before enters.value order (omega arith) enters.listed).0 (subst (λ (x : Sums). has x enters.before ≡ true) read enters.marked) in
                subst (λ k. Before (Only (Listed arcs) (Allows rule)) (suc level) k) enters.comes
                (before-more (Only (Listed arcs) (Allows rule)) level enters.before enters.value behind (enters.listed, subst (λ (w : Window). IsWithin w enters.value) is enters.within))),
            λ before. (let split = before-split (Only (Listed arcs) (Allows rule)) level s before in
                told.1 (record {
                  before = split.0;
                  value = split.1;
                  listed = split.3.0;
                  comes = split.4;
                  within = subst (λ (w : Window). IsWithin w split.1) (sym is) split.3.1;
                  marked = subst (λ (x : Sums). has x split.0 ≡ true) (sym read) ((marked.each level split.0 split.1 order (omega arith) split.3.0).1 split.2);
                })),
          )))
    ];
  }

  -- the marks past the last queue are given
  pub ahead-begun : (stop high : ℕ) (marks : List Sums) (last : Sums) → ((i : ℕ) → stop + 1 ≤ i → i ≤ high + 1 → sums_at marks i ≡ last)
      → ((l s v : ℕ) → stop ≤ l → l ≤ high → Listed arcs l s v → (has last (s + v) ≡ true) ↔ After (Only (Listed arcs) (Allows rule)) n t (suc l) (s + v))
      → MarkAfter (Listed arcs) (Only (Listed arcs) (Allows rule)) n t stop high marks
  ahead-begun stop high marks last filled begin = search rules

  -- one queue more from the back
  pub ahead-previous : (high level : ℕ) (window : Window) (marks : List Sums) (own left : Sums) → 0 < level → level ≤ high → level < n → level < length marks → own ≡ sums_at marks (level + 1)
      → window ≡ window_at rule level → ((s : ℕ) → s < 320 → (has left s ≡ true) ↔ Exits arcs level s window own)
      → MarkAfter (Listed arcs) (Only (Listed arcs) (Allows rule)) n t level high marks
      → MarkAfter (Listed arcs) (Only (Listed arcs) (Allows rule)) n t (level - 1) high (slice_set marks level left)
  ahead-previous high level window marks own left some order inside within read is row marked = record {
    each = λ l s v above below listed. elim (cases_lt l level) [
      | inr more ↦ subst (λ (x : Sums). (has x (s + v) ≡ true) ↔ After (Only (Listed arcs) (Allows rule)) n t (suc l) (s + v)) (sym (read-other marks level (suc l) left (λ hit. omega arith)))
          (marked.each l s v more below listed)
      | inl less ↦ (let e : level ≡ suc l = omega arith in
          let f : level + 1 ≡ suc level = omega arith in
          let sum = (ranged (arc_of l s v) listed).sum in
          let told = row (s + v) (omega arith) in
          subst (λ k. (is_marked (slice_set marks level left) k (s + v) ≡ true) ↔ After (Only (Listed arcs) (Allows rule)) n t k (s + v)) e
          (subst (λ (x : Sums). (has x (s + v) ≡ true) ↔ After (Only (Listed arcs) (Allows rule)) n t level (s + v)) (sym (read-own marks level left within)) (
            λ given. (let exits = told.0 given in
                let ahead = (marked.each level (s + v) exits.value (omega arith) order exits.listed).0
                (subst (λ k. is_marked marks k (s + v + exits.value) ≡ true) f (subst (λ (x : Sums). has x (s + v + exits.value) ≡ true) read exits.marked)) in
                after-more (Only (Listed arcs) (Allows rule)) n t level (s + v) exits.value (exits.listed, subst (λ (w : Window). IsWithin w exits.value) is exits.within) ahead),
            λ after. (let split = after-split (Only (Listed arcs) (Allows rule)) n t level (s + v) inside after in
                told.1 (record {
                  value = split.0;
                  listed = split.1.0;
                  within = subst (λ (w : Window). IsWithin w split.0) (sym is) split.1.1;
                  marked = grind (arith, common_steps, true);
                })),
          )))
    ];
  }

  -- all ends are marked where each arc is useful, and the rule allows all before the first queue, or after the last
  module _ (whole : (l s v : ℕ) → Listed arcs l s v → Useful (Listed arcs) n t l s v) (all : Sums) (full : (s : ℕ) → s < 320 → has all s ≡ true) where
    pub whole-before : (low : ℕ) → ((l v : ℕ) → l < low → v < 2 ^ 16 → Allows rule l v) → (s v : ℕ) → Listed arcs low s v
        → (has all s ≡ true) ↔ Before (Only (Listed arcs) (Allows rule)) low s
    whole-before low free s v listed =
        let behind = (whole low s v listed).before in
        let sum = (ranged (arc_of low s v) listed).sum in
        let long = behind.1 in (
          λ given. (
            behind.0,
            behind.1,
            walk-only (Listed arcs) (Only (Listed arcs) (Allows rule)) 0 0 behind.0 s
                (λ l r u above below there. (let own = (ranged (arc_of l r u) there).sum in (there, free l u (omega arith) (omega arith)))) behind.2,
          ),
          λ before. full s (omega arith),
        )

    pub whole-after : (high : ℕ) → ((l v : ℕ) → high < l → v < 2 ^ 16 → Allows rule l v) → (s v : ℕ) → Listed arcs high s v
        → (has all (s + v) ≡ true) ↔ After (Only (Listed arcs) (Allows rule)) n t (suc high) (s + v)
    whole-after high free s v listed =
        let ahead = (whole high s v listed).after in
        let sum = (ranged (arc_of high s v) listed).sum in (
          λ given. (
            ahead.0,
            ahead.1,
            walk-only (Listed arcs) (Only (Listed arcs) (Allows rule)) (suc high) (s + v) ahead.0 t
                (λ l r u above below there. (let own = (ranged (arc_of l r u) there).sum in (there, free l u (omega arith) (omega arith)))) ahead.2,
          ),
          λ after. full (s + v) (omega arith),
        )

  -- so they tell which arcs are useful among those that P allows, where the rule says P
  module _ (low high : ℕ) (marks : Marks) (P : ℕ → ℕ → Type 0) (marked : AreMarked (Listed arcs) n t low high marks) (is : marks.rule ≡ rule)
      (says : (l v : ℕ) → v < 2 ^ 16 → Allows rule l v ↔ P l v) where
    only-there : (l s v : ℕ) → Only (Listed arcs) (Allows marks.rule) l s v → Only (Listed arcs) P l s v
    only-there l s v both =
        let sum = (ranged (arc_of l s v) both.0).sum in
        (both.0, (says l v (omega arith)).0 (subst (λ (r : Rule). Allows r l v) is both.1))

    only-back : (l s v : ℕ) → Only (Listed arcs) P l s v → Only (Listed arcs) (Allows marks.rule) l s v
    only-back l s v both =
        let sum = (ranged (arc_of l s v) both.0).sum in
        (both.0, subst (λ (r : Rule). Allows r l v) (sym is) ((says l v (omega arith)).1 both.1))

    tells-each : (l s v : ℕ) → low ≤ l → l ≤ high → Listed arcs l s v → IsReached marks l s v ↔ Useful (Only (Listed arcs) P) n t l s v
    tells-each l s v above below listed =
        let behind = marked.behind.each l s v above below listed in
        let ahead = marked.ahead.each l s v above below listed in (
          λ reached. useful-map (Only (Listed arcs) (Allows marks.rule)) (Only (Listed arcs) P) only-there n t l s v (record {
            before = behind.0 reached.behind;
            arc = (listed, reached.allowed);
            after = ahead.0 reached.ahead;
          }),
          λ useful. (let held = useful-map (Only (Listed arcs) P) (Only (Listed arcs) (Allows marks.rule)) only-back n t l s v useful in record {
            allowed = held.arc.1;
            behind = behind.1 held.before;
            ahead = ahead.1 held.after;
          }),
        )

    pub tells-useful : TellsUseful (Listed arcs) n t low high P marks
    tells-useful = record { each = tells-each }

-- and so from the first of two queues to the last
pub tells-between : (arcs : List Arc) (n t : ℕ) → AreRanged n t arcs → t ≤ 256 → (from to low high : ℕ) → low ≡ min from to → high ≡ max from to → (marks : Marks) (rule : Rule)
    (P : ℕ → ℕ → Type 0) → AreMarked (Listed arcs) n t low high marks → marks.rule ≡ rule → ((l v : ℕ) → v < 2 ^ 16 → Allows rule l v ↔ P l v)
    → TellsUseful (Listed arcs) n t (min from to) (max from to) P marks
tells-between arcs n t ranged fits from to low high least most marks rule P marked is says =
    subst (λ i. TellsUseful (Listed arcs) n t i (max from to) P marks) least
    (subst (λ i. TellsUseful (Listed arcs) n t low i P marks) most (tells-useful arcs rule n t ranged fits low high marks P marked is says))

-- the numbers of `past` and `here`
pub past-small : (i l : ℕ) → past i l ≤ 1
unfolding past
past-small i l = search rules

pub past-yes : (i l : ℕ) → i < l → past i l ≡ 1
unfolding past
past-yes i l less = (let t = lt-ltb i l less in rw t refl)

pub past-no : (i l : ℕ) → l ≤ i → past i l ≡ 0
unfolding past
past-no i l more = (let f = le-ltb i l more in rw f refl)

pub here-yes : (i l : ℕ) → i ≡ l → here i l ≡ 1
unfolding here
here-yes i l e = (let t = eq-eqb i l e in rw t refl)

pub here-no : (i l : ℕ) → (i ≡ l → ⊥) → here i l ≡ 0
unfolding here
here-no i l other = (let f = ne_eqb i l other in rw f refl)

pub here-small : (i l : ℕ) → here i l ≤ 1
here-small i l = elim (cases_eq i l) [ inl e ↦ omega (arith, here-yes i l e) | inr other ↦ omega (arith, here-no i l other) ]

-- a queue is before another or at it, but not both
pub past-here-small : (i l : ℕ) → past i l + here i l ≤ 1
past-here-small i l = grind (arith, common_steps, past-small, here-no, past-no, here-small)

own-le : (xs : List ℕ) (i : ℕ) → slice_index xs i ≤ customers xs
own-le [] i = omega arith
own-le (x ∷ xs) zero = omega arith
own-le (x ∷ xs) (suc i) = (let e = own-le xs i in omega arith)

-- a customer can go over each arc of the states that the move changes
pub useful-shiftable : (A : ℕ → ℕ → ℕ → Type 0) (n t from k to room l s v : ℕ) → from < n → 1 ≤ k → Useful (Only A (IsChanging from k to room)) n t l s v
    → IsShiftable from to t l s v
useful-shiftable A n t from k to room l s v source some useful =
    let front = useful.before in
    let back = useful.after in
    let front_long = front.1 in
    let back_long = back.1 in
    let front_sum = walk-sum (Only A (IsChanging from k to room)) 0 0 front.0 s front.2 in
    let back_sum = walk-sum (Only A (IsChanging from k to room)) (suc l) (s + v) back.0 t back.2 in
    let to_small = past-here-small to l in
    elim (cases_lt from l) [
      | inl before ↦ (let arc = walk-at (Only A (IsChanging from k to room)) 0 0 front.0 s from (omega arith) front.2 in
          let held = arc.1.source (omega arith) in
          let bound = own-le front.0 from in
          let gone = past-yes from l before in
          let not_here = here-no from l (λ e. omega arith) in
          record { behind = omega arith; source = omega arith; room = omega arith })
      | inr not_before ↦ (let still = past-no from l not_before in elim (cases_eq from l) [
        | inl e ↦ (let held = useful.arc.1.source (sym e) in
            let at = here-yes from l e in
            record { behind = omega arith; source = omega arith; room = omega arith })
        | inr other ↦ (let arc = walk-at (Only A (IsChanging from k to room)) (suc l) (s + v) back.0 t (from - suc l) (omega arith) back.2 in
            let held = arc.1.source (omega arith) in
            let bound = own-le back.0 (from - suc l) in
            let not_here = here-no from l other in
            record { behind = omega arith; source = omega arith; room = omega arith })
      ])
    ]

-- a queue is before the next one exactly where it is before it, or there
pub past-next : (i l : ℕ) → past i (l + 1) ≡ past i l + here i l
past-next i l = grind (arith, common_steps, past-yes, here-no, past-no, here-yes)

-- the rows of shifted arcs
module _ (A : ℕ → ℕ → ℕ → Type 0) (marks : Marks) (from to total l s sum : ℕ) (kept turned : Sums) (source : s + past from l ≡ sum + past to l)
    (keeps : (v : ℕ) → Leads kept sum v ↔ Keeps A marks l sum v) (ranged : (t : ℕ) → t < 320 → has kept t ≡ true → (sum ≤ t) × (t ≤ total))
    (moved : (t u : ℕ) → t < 320 → u < 320 → t + past from (l + 1) ≡ u + past to (l + 1) → has turned t ≡ has kept u)
    (low : (t : ℕ) → t + past from (l + 1) < past to (l + 1) → has turned t ≡ false) (high : (t : ℕ) → t < 320 → 320 + past to (l + 1) ≤ t + past from (l + 1) → has turned t ≡ false)
    (shiftable : (r v : ℕ) → A l r v → IsReached marks l r v → IsShiftable from to total l r v) (fits : total ≤ 256) where
  -- a number of the set comes from one of the other
  shifts-from : (t : ℕ) → t < 320 → has turned t ≡ true → (u : ℕ) × (u < 320) × (t + past from (l + 1) ≡ u + past to (l + 1)) × (has kept u ≡ true)
  shifts-from t small given =
      elim (cases_lt (t + past from (l + 1)) (past to (l + 1))) [
        | inl less ↦ absurd (true≢false (sym given ∙ low t less))
        | inr more ↦ elim (cases_lt (t + past from (l + 1)) (320 + past to (l + 1))) [
          | inr past_all ↦ absurd (true≢false (sym given ∙ high t small past_all))
          | inl inside ↦ (let e : t + past from (l + 1) ≡ (t + past from (l + 1) - past to (l + 1)) + past to (l + 1) = omega arith in
              let less : t + past from (l + 1) - past to (l + 1) < 320 = omega arith in
              (t + past from (l + 1) - past to (l + 1), less, e, sym (moved t (t + past from (l + 1) - past to (l + 1)) small less e) ∙ given))
        ]
      ]

  shifts-own : (t : ℕ) → t < 320 → has turned t ≡ true → (own : ℕ) × Keeps A marks l sum own × (t + (past from l + here from l) ≡ (sum + own) + (past to l + here to l))
  shifts-own t small given =
      let found = shifts-from t small given in
      let u = found.0 in
      let less = found.1 in
      let e = found.2 in
      let front = past-next from l in
      let back = past-next to l in
      let range = (ranged u found.1 found.3).0 in
      let whole : sum + (u - sum) ≡ u = omega arith in
      let keep = (keeps (u - sum)).0 (record { small = omega arith; there = subst (λ k. has kept k ≡ true) (sym whole) found.3 }) in
      (u - sum, keep, omega arith)

  shifts-lead : (v : ℕ) → Leads turned s v ↔ Shifts A marks from to l s v
  shifts-lead v = grind (arith, common_steps, shifts-own, past-next)

  shifts-ranged : (t : ℕ) → t < 320 → has turned t ≡ true → (s ≤ t) × (t ≤ total)
  shifts-ranged t small given = grind (arith, common_steps, shifts-own)

  pub shifts-both : ((v : ℕ) → Leads turned s v ↔ Shifts A marks from to l s v) × ((t : ℕ) → t < 320 → has turned t ≡ true → (s ≤ t) × (t ≤ total))
  shifts-both = (shifts-lead, shifts-ranged)
