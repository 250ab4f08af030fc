-- What a step makes of the sums of a path.
use Rattle.std.specs.Prelude.{◌≡◌, ℕ, zero, suc, ◌+◌, ◌-◌, ◌*◌, ◌^◌, ◌<◌, ◌≤◌, ℤ, pos, ◌+ℤ◌, ◌-ℤ◌, ◌*ℤ◌, List, length, slice_index, slice_index_or, Bool, true, false, ◌&&◌, nat_eq, if◌then◌else◌}
use Rattle.std.specs.Int.RustNames.{unsigned_abs}
use Rattle.std.proofs.Common.{inl, inr, ap, sym, ◌∙◌, subst, set, arith}
use Rattle.std.proofs.lemmas.Bool.{cases_Bool, eqb-true, eq-eqb}
use Rattle.std.proofs.lemmas.List.{length-set, get_or-set_same, get_or-set_other}
use Rattle.psi_rate.specs.Rates.{event_of}
use Rattle.psi_rate.specs.Composition.{picked}
use Rattle.psi_path.specs.Path.{Path, first_place, state_of, event_after, is_changed}
use Rattle.psi_path.specs.Sums.{count_until, Worth, worth_at, worth_until}
use Rattle.psi_path.specs.Running.{QueuesStand, RewardsStand, CountsStand}
use Rattle.psi_path.proofs.IntegerLemmas.{unsigned_abs-add, turned-integer, nothing-risen, sum-few}

-- ---- the next time

pub state-next : (path : Path) (k word : ℕ) → path.words (first_place + k) ≡ word → state_of path (suc k) ≡ picked path.functions path.rates word (state_of path k)
state-next path k word is =
    let e : suc k - 1 ≡ k = omega arith in
    ap (λ i. picked path.functions path.rates (path.words (first_place + i)) (state_of path k)) e
    ∙ ap (λ w. picked path.functions path.rates w (state_of path k)) is

pub event-next : (path : Path) (k word : ℕ) → path.words (first_place + k) ≡ word → event_after path (suc k) ≡ event_of path.rates word
event-next path k word is =
    let e : suc k - 1 ≡ k = omega arith in
    ap (λ i. event_of path.rates (path.words (first_place + i))) e ∙ ap (λ w. event_of path.rates w) is

-- ---- queues

pub queues-next : (count : ℕ) (path : Path) (k left later : ℕ) (state next sums new : List ℕ) → left ≡ suc later → next ≡ state_of path (suc k)
    → ((q : ℕ) → q < count → slice_index next q ≤ 65535) → length new ≡ length sums
    → ((q : ℕ) → q < length sums → slice_index new q + left * slice_index state q ≡ slice_index sums q + left * slice_index next q)
    → QueuesStand count path k left state sums → QueuesStand count path (suc k) later next new
queues-next count path k left later state next sums new one is bound long turned stand = record {
  sized = long ∙ stand.sized;
  each = λ q small.
      (let own : q < length sums = (let s = stand.sized in omega arith) in
      let before = stand.each q small in
      let after = turned q own in
      let same : slice_index (state_of path (suc k)) q ≡ slice_index next q = ap (λ (x : List ℕ). slice_index x q) (sym is) in
      let times : left * slice_index next q ≡ suc later * slice_index next q = ap (λ n. n * slice_index next q) one in omega arith);
  few = λ q small.
      (let before = stand.few q small in
      let more = bound q small in
      let same : slice_index (state_of path (suc k)) q ≡ slice_index next q = ap (λ (x : List ℕ). slice_index x q) (sym is) in omega arith);
}

-- ---- rewards

pub rewards-next : (worths : List Worth) (path : Path) (k left later : ℕ) (state next : List ℕ) (sums values new present : List ℤ) → left ≡ suc later → next ≡ state_of path (suc k)
    → length new ≡ length sums → length present ≡ length values
    → ((r : ℕ) → r < length worths → slice_index_or new r (pos 0) ≡ slice_index_or sums r (pos 0) +ℤ (pos left *ℤ (worth_at worths r next -ℤ slice_index_or values r (pos 0))))
    → ((r : ℕ) → r < length worths → slice_index_or present r (pos 0) ≡ worth_at worths r next)
    → ((r : ℕ) → r < length worths → unsigned_abs (worth_at worths r next) ≤ 2 ^ 63)
    → RewardsStand worths path k left state sums values → RewardsStand worths path (suc k) later next new present
rewards-next worths path k left later state next sums values new present one is long also_long turned read small stand =
    let same : (r : ℕ) → worth_at worths r next ≡ worth_at worths r (state_of path (suc k)) = λ r. ap (λ (x : List ℕ). worth_at worths r x) is in
    record {
      sized = long ∙ stand.sized;
      valued = also_long ∙ stand.valued;
      each = λ r within.
          (let w = worth_at worths r next in
          let v = worth_at worths r state in
          let after = turned r within ∙ ap (λ z. slice_index_or sums r (pos 0) +ℤ (pos left *ℤ (w -ℤ z))) (stand.present r within) in
          turned-integer left later (worth_until path (worth_at worths r) k) (slice_index_or sums r (pos 0)) (slice_index_or new r (pos 0)) v w one (stand.each r within) after
          ∙ ap (λ z. (worth_until path (worth_at worths r) k +ℤ z) +ℤ (pos later *ℤ w)) (same r));
      present = read;
      small = small;
      few = λ r within.
          (let before = stand.few r within in
          let more = small r within in
          let e : unsigned_abs (worth_at worths r next) ≡ unsigned_abs (worth_at worths r (state_of path (suc k))) = ap (λ z. unsigned_abs z) (same r) in
          let both = unsigned_abs-add (worth_until path (worth_at worths r) k) (worth_at worths r (state_of path (suc k))) in omega arith);
    }

-- where the state is the same, nothing is to be turned
pub rewards-kept : (worths : List Worth) (path : Path) (k left : ℕ) (state next : List ℕ) (sums values : List ℤ) → next ≡ state → RewardsStand worths path k left state sums values
    → (r : ℕ) → r < length worths → slice_index_or sums r (pos 0) ≡ slice_index_or sums r (pos 0) +ℤ (pos left *ℤ (worth_at worths r next -ℤ slice_index_or values r (pos 0)))
rewards-kept worths path k left state next sums values same stand r within =
    let e : slice_index_or values r (pos 0) ≡ worth_at worths r next = stand.present r within ∙ ap (λ (x : List ℕ). worth_at worths r x) (sym same) in
    nothing-risen left (slice_index_or sums r (pos 0)) (worth_at worths r next) (slice_index_or values r (pos 0)) e

-- the sums fit
pub rewards-few : (worths : List Worth) (path : Path) (k left steps : ℕ) (state : List ℕ) (sums values : List ℤ) → k + left ≡ steps → steps < 2 ^ 32 → RewardsStand worths path k left state sums values
    → (r : ℕ) → r < length worths → unsigned_abs (slice_index_or sums r (pos 0)) ≤ 2 ^ 96
rewards-few worths path k left steps state sums values all few stand r within =
    sum-few k left (worth_until path (worth_at worths r) k) (worth_at worths r state) (slice_index_or sums r (pos 0)) (omega arith) (stand.few r within) (stand.small r within) (stand.each r within)

-- ---- counts

pub apart-nat_eq : (n e : ℕ) → (n ≡ e → ⊥) → nat_eq n e ≡ false
apart-nat_eq n e apart = elim (cases_Bool (nat_eq n e)) [ inl so ↦ absurd (apart (eqb-true n e so)) | inr not_so ↦ not_so ]

pub count-few : (has : ℕ → Bool) (n : ℕ) → count_until has n ≤ n
count-few has zero = omega arith
count-few has (suc n) = (let rest = count-few has n in elim (cases_Bool (has (suc n))) [
  | inl so ↦ (let e : count_until has (suc n) ≡ count_until has n + 1 = ap (λ (b : Bool). count_until has n + (if b then 1 else 0)) so in omega arith)
  | inr not_so ↦ (let e : count_until has (suc n) ≡ count_until has n + 0 = ap (λ (b : Bool). count_until has n + (if b then 1 else 0)) not_so in omega arith)
])

-- counts by number, of which none has the next time
counts-same : (has : ℕ → ℕ → Bool) (k count : ℕ) (xs : List ℕ) → ((e : ℕ) → e < count → has e (suc k) ≡ false)
    → ((e : ℕ) → e < count → slice_index xs e ≡ count_until (has e) k) → (e : ℕ) → e < count → slice_index xs e ≡ count_until (has e) (suc k)
counts-same has k count xs none each e small =
    let before = each e small in
    let after : count_until (has e) (suc k) ≡ count_until (has e) k + 0 = ap (λ (b : Bool). count_until (has e) k + (if b then 1 else 0)) (none e small) in omega arith

-- or of which one has it
counts-more : (has : ℕ → ℕ → Bool) (k count n : ℕ) (xs : List ℕ) → length xs ≡ count → n < count → has n (suc k) ≡ true
    → ((e : ℕ) → (n ≡ e → ⊥) → has e (suc k) ≡ false) → ((e : ℕ) → e < count → slice_index xs e ≡ count_until (has e) k)
    → (e : ℕ) → e < count → slice_index (set xs n (slice_index xs n + 1)) e ≡ count_until (has e) (suc k)
counts-more has k count n xs long within own others each e small =
    elim (cases_Bool (nat_eq n e)) [
      | inl so ↦
          (let same : n ≡ e = eqb-true n e so in
          let next : count_until (has n) (suc k) ≡ count_until (has n) k + 1 = ap (λ (b : Bool). count_until (has n) k + (if b then 1 else 0)) own in
          let before = each n within in
          let read : slice_index (set xs n (slice_index xs n + 1)) n ≡ slice_index xs n + 1 = get_or-set_same xs n (slice_index xs n + 1) 0 (omega arith) in
          let is : slice_index (set xs n (slice_index xs n + 1)) n ≡ count_until (has n) (suc k) = omega arith in
          subst (λ (i : ℕ). slice_index (set xs n (slice_index xs n + 1)) i ≡ count_until (has i) (suc k)) same is)
      | inr not_so ↦
          (let apart : n ≡ e → ⊥ = λ same. (let so = eq-eqb n e same in absurd cc) in
          let next : count_until (has e) (suc k) ≡ count_until (has e) k + 0 = ap (λ (b : Bool). count_until (has e) k + (if b then 1 else 0)) (others e apart) in
          let before = each e small in
          let read : slice_index (set xs n (slice_index xs n + 1)) e ≡ slice_index xs e = get_or-set_other xs n e (slice_index xs n + 1) 0 (λ same. apart (sym same)) in omega arith)
    ]

module _ (path : Path) (k : ℕ) where
  abbrev is_chosen : ℕ → ℕ → Bool
  is_chosen e t = nat_eq (event_after path t) e

  abbrev is_turned : ℕ → ℕ → Bool
  is_turned e t = nat_eq (event_after path t) e && is_changed path t

  not-chosen : (n e : ℕ) → event_after path (suc k) ≡ n → (n ≡ e → ⊥) → is_chosen e (suc k) ≡ false
  not-chosen n e is apart = ap (λ m. nat_eq m e) is ∙ apart-nat_eq n e apart

  not-turned : (n e : ℕ) → event_after path (suc k) ≡ n → (n ≡ e → ⊥) → is_turned e (suc k) ≡ false
  not-turned n e is apart = ap (λ (b : Bool). b && is_changed path (suc k)) (not-chosen n e is apart)

  own-chosen : (n : ℕ) → event_after path (suc k) ≡ n → is_chosen n (suc k) ≡ true
  own-chosen n is = eq-eqb (event_after path (suc k)) n is

  own-turned : (n : ℕ) (b : Bool) → event_after path (suc k) ≡ n → is_changed path (suc k) ≡ b → is_turned n (suc k) ≡ b
  own-turned n b is changed = ap (λ (c : Bool). c && is_changed path (suc k)) (own-chosen n is) ∙ changed

  pub counts-idle : (chosen changed : List ℕ) → event_after path (suc k) ≡ length path.rates → CountsStand path k chosen changed → CountsStand path (suc k) chosen changed
  counts-idle chosen changed idle stand =
      let apart : (e : ℕ) → e < length path.rates → length path.rates ≡ e → ⊥ = λ e small same. omega (arith, small, same) in
      record {
        sized = stand.sized;
        also_sized = stand.also_sized;
        each = counts-same is_chosen k (length path.rates) chosen (λ e small. not-chosen (length path.rates) e idle (apart e small)) stand.each;
        also = counts-same is_turned k (length path.rates) changed (λ e small. not-turned (length path.rates) e idle (apart e small)) stand.also;
      }

  pub counts-chosen : (n : ℕ) (chosen changed : List ℕ) → event_after path (suc k) ≡ n → n < length path.rates → is_changed path (suc k) ≡ false
      → CountsStand path k chosen changed → CountsStand path (suc k) (set chosen n (slice_index chosen n + 1)) changed
  counts-chosen n chosen changed is small same stand = record {
    sized = length-set chosen n (slice_index chosen n + 1) ∙ stand.sized;
    also_sized = stand.also_sized;
    each = counts-more is_chosen k (length path.rates) n chosen stand.sized small (own-chosen n is) (λ e apart. not-chosen n e is apart) stand.each;
    also = counts-same is_turned k (length path.rates) changed (λ e within. elim (cases_Bool (nat_eq n e)) [
      | inl so ↦ subst (λ (i : ℕ). is_turned i (suc k) ≡ false) (eqb-true n e so) (own-turned n false is same)
      | inr not_so ↦ not-turned n e is (λ own. (let so = eq-eqb n e own in absurd cc))
    ]) stand.also;
  }

  pub counts-changed : (n : ℕ) (chosen changed : List ℕ) → event_after path (suc k) ≡ n → n < length path.rates → is_changed path (suc k) ≡ true
      → CountsStand path k chosen changed
      → CountsStand path (suc k) (set chosen n (slice_index chosen n + 1)) (set changed n (slice_index changed n + 1))
  counts-changed n chosen changed is small turned stand = record {
    sized = length-set chosen n (slice_index chosen n + 1) ∙ stand.sized;
    also_sized = length-set changed n (slice_index changed n + 1) ∙ stand.also_sized;
    each = counts-more is_chosen k (length path.rates) n chosen stand.sized small (own-chosen n is) (λ e apart. not-chosen n e is apart) stand.each;
    also = counts-more is_turned k (length path.rates) n changed stand.also_sized small (own-turned n true is turned) (λ e apart. not-turned n e is apart) stand.also;
  }
