-- The keys of a state, where one number changes, and the least of them.
use Rattle.std.specs.Prelude.{◌≡◌, ◌≢◌, ℕ, ◌+◌, ◌-◌, ◌%◌, ◌<◌, ◌≤◌, min, List, length, replicate, slice_index, slice_set, Bool, true, false, nat_le, if◌then◌else◌}
use Rattle.std.proofs.Common.{inl, inr, ap, sym, ◌∙◌, subst, arith, length-set, get_or-set_same, get_or-set_other, below_more}
use Rattle.std.proofs.lemmas.Bool.{cases_lt, cases_eq}
use Rattle.std.proofs.lemmas.List.{set-get_or, get_or-replicate}
use Rattle.psi_state.specs.State.{IsBelow}
use Rattle.psi_event.specs.Law.{Function}
use Rattle.psi_follow_keyed.specs.Keys.{Keys, no_key, cap_at, AreRanked, key_at, key_in, AreKeys, IsChosen, left, joined, Joins}

-- the number of a target is at most its capacity
pub held-most : (k : Keys) (x : List ℕ) (i : ℕ) → AreRanked k → IsBelow x k.caps → i < length k.targets
    → slice_index x (slice_index k.targets i) ≤ cap_at k.caps k.targets i
held-most k x i ranked below small =
    let named : slice_index k.targets i < length k.caps = ranked.named i small in
    let long : length x ≡ length k.caps = below.same_length in
    below.each (slice_index k.targets i) (omega arith)

-- the number of a target changes, and its key
pub keys-set : (k : Keys) (x keys : List ℕ) (j q v key : ℕ) → AreRanked k → AreKeys k x keys → IsBelow x k.caps → j < length k.targets
    → slice_index k.targets j ≡ q → key ≡ key_at k j v → AreKeys k (slice_set x q v) (slice_set keys j key)
keys-set k x keys j q v key ranked are below small at is =
    let count : length keys ≡ 32 = are.count in
    let few : length k.targets ≤ 32 = ranked.few in
    let named : slice_index k.targets j < length k.caps = ranked.named j small in
    let long : length x ≡ length k.caps = below.same_length in
    record {
      count = length-set {A = ℕ} keys j key ∙ count;
      own = λ i within. elim (cases_eq i j) [
        | inl e ↦ (let here : slice_index (slice_set keys j key) j ≡ key = get_or-set_same {A = ℕ} keys j key 0 (omega arith) in
            let there : slice_index (slice_set x q v) q ≡ v = get_or-set_same {A = ℕ} x q v 0 (omega arith) in
            let same : slice_index (slice_set keys j key) j ≡ key_in k (slice_set x q v) j =
            here ∙ is ∙ ap (λ n. key_at k j n) (sym there) ∙ ap (λ p. key_at k j (slice_index (slice_set x q v) p)) (sym at) in
            subst (λ n. slice_index (slice_set keys j key) n ≡ key_in k (slice_set x q v) n) (sym e) same)
        | inr ne ↦ (let other : slice_index k.targets i ≢ q = λ e. ne (ranked.apart i j within small (e ∙ sym at)) in
            get_or-set_other {A = ℕ} keys j i key 0 ne ∙ are.own i within
            ∙ ap (λ n. key_at k i n) (sym (get_or-set_other {A = ℕ} x q (slice_index k.targets i) v 0 other)))
      ];
      past = λ i past within. (let ne : i ≢ j = λ e. absurd (omega arith) in get_or-set_other {A = ℕ} keys j i key 0 ne ∙ are.past i past within);
    }

-- the number of a queue changes that is no target
pub keys-beside : (k : Keys) (x keys : List ℕ) (q v : ℕ) → AreKeys k x keys → ((i : ℕ) → i < length k.targets → slice_index k.targets i ≢ q)
    → AreKeys k (slice_set x q v) keys
keys-beside k x keys q v are none = record {
  count = are.count;
  own = λ i within. are.own i within ∙ ap (λ n. key_at k i n) (sym (get_or-set_other {A = ℕ} x q (slice_index k.targets i) v 0 (none i within)));
  past = are.past;
}

-- a place without room has no key
key-full : (k : Keys) (x : List ℕ) (i : ℕ) → AreRanked k → IsBelow x k.caps → i < length k.targets → cap_at k.caps k.targets i ≤ slice_index x (slice_index k.targets i)
    → key_in k x i ≡ no_key
key-full k x i ranked below small full =
    let same : slice_index x (slice_index k.targets i) ≡ cap_at k.caps k.targets i = omega (arith, held-most k x i ranked below small) in
    ap (λ n. key_at k i n) same ∙ ranked.full i small

-- a place with a key has room
pub key-room : (k : Keys) (x : List ℕ) (i : ℕ) → AreRanked k → IsBelow x k.caps → i < length k.targets → key_in k x i < no_key
    → slice_index x (slice_index k.targets i) < cap_at k.caps k.targets i
key-room k x i ranked below small has =
    elim (cases_lt (slice_index x (slice_index k.targets i)) (cap_at k.caps k.targets i)) [
      | inl less ↦ less
      | inr more ↦ absurd (omega (arith, key-full k x i ranked below small more))
    ]

-- and its key tells it
pub key-place : (k : Keys) (x : List ℕ) (i : ℕ) → AreRanked k → IsBelow x k.caps → i < length k.targets → key_in k x i < no_key → key_in k x i % 32 ≡ i
key-place k x i ranked below small has =
    ranked.placed i (slice_index x (slice_index k.targets i)) small (key-room k x i ranked below small has)

-- no key is above that of no room
pub key-most : (k : Keys) (x : List ℕ) (i : ℕ) → AreRanked k → IsBelow x k.caps → i < length k.targets → key_in k x i ≤ no_key
key-most k x i ranked below small =
    elim (cases_lt (slice_index x (slice_index k.targets i)) (cap_at k.caps k.targets i)) [
      | inl less ↦ omega (arith, ranked.roomy i (slice_index x (slice_index k.targets i)) small less)
      | inr more ↦ omega (arith, key-full k x i ranked below small more)
    ]

-- the place has the least key, and room
record IsLeastAt (k : Keys) (x : List ℕ) (least j : ℕ) : Type 0 where
  place : j < length k.targets
  own : key_in k x j ≡ least
  room : slice_index x (slice_index k.targets j) < cap_at k.caps k.targets j
  others : (i : ℕ) → i < length k.targets → i ≢ j → key_in k x j < key_in k x i

pub least-chosen : (k : Keys) (x keys : List ℕ) (least : ℕ) → AreRanked k → AreKeys k x keys → IsBelow x k.caps
    → ((i : ℕ) → i < 32 → least ≤ slice_index keys i) → ((i : ℕ) × (i < 32) × (slice_index keys i ≡ least)) → least < no_key → IsChosen k x least
least-chosen k x keys least ranked are below lower reached has =
    let j = reached.0 in
    let read : slice_index keys j ≡ least = reached.2 in
    let small : j < length k.targets = elim (cases_lt j (length k.targets)) [
      | inl less ↦ less
      | inr past ↦ (let none : slice_index keys j ≡ no_key = are.past j past reached.1 in absurd (omega arith))
    ] in
    let own : key_in k x j ≡ least = sym (are.own j small) ∙ read in
    let is : least % 32 ≡ j = ap (λ n. n % 32) (sym own) ∙ key-place k x j ranked below small (omega arith) in
    let chosen : IsLeastAt k x least j = record {
      place = small;
      own = own;
      room = key-room k x j ranked below small (omega arith);
      others = λ i within ne. (let few : length k.targets ≤ 32 = ranked.few in
          let at : slice_index keys i ≡ key_in k x i = are.own i within in
          let more : least ≤ slice_index keys i = lower i (omega arith) in
          elim (cases_lt (key_in k x j) (key_in k x i)) [
            | inl less ↦ less
            | inr not_less ↦ (let same : key_in k x i ≡ least = omega arith in
                let tells : least % 32 ≡ i = ap (λ n. n % 32) (sym same) ∙ key-place k x i ranked below within (omega arith) in
                absurd (ne (sym tells ∙ is)))
          ]);
    } in
    let told : IsLeastAt k x least (least % 32) = subst (λ n. IsLeastAt k x least n) (sym is) chosen in
    record { place = told.place; own = told.own; room = told.room; others = told.others }

-- a customer joins the place that the least key tells
pub joins-least : (k : Keys) (f : Function) (x : List ℕ) (least : ℕ) → Joins k f → IsBelow x k.caps → IsChosen k x least → least < no_key
    → joined k (least % 32) x ≡ f x
joins-least k f x least joins below chosen has =
    let own : key_in k x (least % 32) ≡ least = chosen.own in
    sym (joins.chosen x (least % 32) below chosen.place (omega arith) chosen.others)

-- and none where no place has room
pub joins-none : (k : Keys) (f : Function) (x keys : List ℕ) → Joins k f → AreRanked k → AreKeys k x keys → IsBelow x k.caps
    → ((i : ℕ) → i < 32 → no_key ≤ slice_index keys i) → x ≡ f x
joins-none k f x keys joins ranked are below lower =
    sym (joins.full x below (λ i small. (let few : length k.targets ≤ 32 = ranked.few in
    let at : slice_index keys i ≡ key_in k x i = are.own i small in
    let least : no_key ≤ slice_index keys i = lower i (omega arith) in
    let most : key_in k x i ≤ no_key = key-most k x i ranked below small in
    omega arith)))

-- the least of one number more
pub least-below : (keys : List ℕ) (n least m : ℕ) → m ≡ min least (slice_index keys n) → ((j : ℕ) → j < n → least ≤ slice_index keys j)
    → (j : ℕ) → j < n + 1 → m ≤ slice_index keys j
least-below keys n least m is each = below_more (λ j. m ≤ slice_index keys j) n (λ j under. (let old = each j under in omega arith)) (omega arith)

pub least-reached : (keys : List ℕ) (n least m : ℕ) → n < 32 → m ≡ min least (slice_index keys n) → ((j : ℕ) × (j < 32) × (slice_index keys j ≡ least))
    → (j : ℕ) × (j < 32) × (slice_index keys j ≡ m)
least-reached keys n least m within is found =
    elim (cases_lt (slice_index keys n) least) [
      | inl less ↦ (n, within, omega arith)
      | inr more ↦ (found.0, found.1, found.2 ∙ omega arith)
    ]

-- one customer leaves where there are enough
pub left-by : (x : List ℕ) (queue least held : ℕ) (byte : Bool → ℕ) → byte true ≡ 1 → byte false ≡ 0 → held ≡ slice_index x queue
    → slice_set x queue (held - byte (nat_le least held)) ≡ left queue least x
left-by x queue least held byte takes keeps reads =
    let same : slice_set x queue (held - byte (nat_le least held)) ≡ slice_set x queue (slice_index x queue - byte (nat_le least (slice_index x queue))) =
    ap (λ n. slice_set x queue (n - byte (nat_le least n))) reads in
    same ∙ taking x queue byte (nat_le least (slice_index x queue)) takes keeps
  where
    taking : (x : List ℕ) (queue : ℕ) (byte : Bool → ℕ) (b : Bool) → byte true ≡ 1 → byte false ≡ 0
        → slice_set x queue (slice_index x queue - byte b) ≡ (if b then slice_set x queue (slice_index x queue - 1) else x)
    taking x queue byte true takes keeps = ap (λ n. slice_set x queue (slice_index x queue - n)) takes
    taking x queue byte false takes keeps =
        let same : slice_index x queue - byte false ≡ slice_index x queue = omega arith in
        ap (λ n. slice_set x queue n) same ∙ set-get_or x queue 0

-- one more joins the queue of a place
pub joined-by : (k : Keys) (x : List ℕ) (j queue held : ℕ) → queue ≡ slice_index k.targets j → held ≡ slice_index x queue
    → slice_set x queue (held + 1) ≡ joined k j x
joined-by k x j queue held at reads =
    ap (λ n. slice_set x queue (n + 1)) reads ∙ ap (λ q. slice_set x q (slice_index x q + 1)) at

-- the chosen queue is one of the network, and has room
pub chosen-queue : (k : Keys) (x : List ℕ) (least queue : ℕ) → AreRanked k → IsBelow x k.caps → IsChosen k x least → queue ≡ slice_index k.targets (least % 32)
    → queue < length x
chosen-queue k x least queue ranked below chosen at =
    let named : slice_index k.targets (least % 32) < length k.caps = ranked.named (least % 32) chosen.place in
    let long : length x ≡ length k.caps = below.same_length in
    omega arith

pub chosen-room : (k : Keys) (x : List ℕ) (least queue held : ℕ) → IsChosen k x least → queue ≡ slice_index k.targets (least % 32) → held ≡ slice_index x queue
    → held < slice_index k.caps (slice_index k.targets (least % 32))
chosen-room k x least queue held chosen at reads =
    let same : held ≡ slice_index x (slice_index k.targets (least % 32)) = reads ∙ ap (λ q. slice_index x q) at in
    let room : slice_index x (slice_index k.targets (least % 32)) < cap_at k.caps k.targets (least % 32) = chosen.room in
    omega arith

-- 32 keys above all others
pub none-marked : (i : ℕ) → i < 32 → slice_index (replicate 32 no_key) i ≡ no_key
none-marked i small = get_or-replicate 32 i no_key 0 small
