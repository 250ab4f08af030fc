-- The queue that is chosen of a list: the first with room, and the one with the least pair of value and place.
use Rattle.std.specs.Prelude.{◌≡◌, ◌≢◌, ℕ, zero, suc, ◌+◌, ◌*◌, ◌<◌, ◌≤◌, List, [], ◌∷◌, length, true, false, cond, Some, None, slice_index, slice_index_or, ◌⊎◌, refl}
use Rattle.std.proofs.Common.{inl, inr, ap, sym, ◌∙◌, subst, arith}
use Rattle.std.proofs.lemmas.Bool.{cases_lt, cases_eq, cases_Bool, le-leb, lt-leb}
use Rattle.std.proofs.lemmas.Bool.Decides.{nat_tests}
use Rattle.psi_kinds.specs.Kinds.{has_room, first_with_room, Offer, is_less, offers, lesser, least_of}

-- a queue lacks room for b
abbrev pub Lacking : List ℕ → List ℕ → ℕ → ℕ → Type 0
Lacking caps x b q = slice_index caps q < slice_index x q + b

-- no queue of the list has room
pub record AreFull (caps queues x : List ℕ) (b : ℕ) : Type 0 where
  pub each : (i : ℕ) → i < length queues → Lacking caps x b (slice_index queues i)

-- the first queue of the list with room
pub record IsFirst (caps queues x : List ℕ) (b q : ℕ) : Type 0 where
  pub place : ℕ
  pub small : place < length queues
  pub queue : slice_index queues place ≡ q
  pub room : slice_index x q + b ≤ slice_index caps q
  pub before : (i : ℕ) → i < place → Lacking caps x b (slice_index queues i)

lacking_more : (caps queues x : List ℕ) (b q n : ℕ) → Lacking caps x b q → ((i : ℕ) → i < n → Lacking caps x b (slice_index queues i))
    → (i : ℕ) → i < suc n → Lacking caps x b (slice_index (q ∷ queues) i)
lacking_more caps queues x b q n here there zero small = here
lacking_more caps queues x b q n here there (suc i) small = there i (omega arith)

pub room-true : (caps x : List ℕ) (b q : ℕ) → slice_index x q + b ≤ slice_index caps q → has_room caps b x q ≡ true
room-true caps x b q room = le-leb (slice_index x q + b) (slice_index caps q) room

pub room-false : (caps x : List ℕ) (b q : ℕ) → Lacking caps x b q → has_room caps b x q ≡ false
room-false caps x b q lacks = lt-leb (slice_index x q + b) (slice_index caps q) lacks

-- there is a first queue with room, or all are full
pub first_cases : (caps queues x : List ℕ) (b : ℕ)
    → ((q : ℕ) × (first_with_room caps queues b x ≡ Some q) × IsFirst caps queues x b q)
    ⊎ ((first_with_room caps queues b x ≡ None) × AreFull caps queues x b)
first_cases caps [] x b = inr (refl, record { each = λ i small. absurd (omega arith) })
first_cases caps (q ∷ queues) x b =
    elim (cases_lt (slice_index caps q) (slice_index x q + b)) [
      | inr room ↦ inl (
        q,
        ap (λ t. cond t (Some q) (first_with_room caps queues b x)) (room-true caps x b q room),
        record { place = 0; small = omega arith; queue = refl; room = room; before = λ i small. absurd (omega arith) },
      )
      | inl lacks ↦ (let step = ap (λ t. cond t (Some q) (first_with_room caps queues b x)) (room-false caps x b q lacks) in
          elim (first_cases caps queues x b) [
            | inl found ↦ (let small : found.2.place < length queues = found.2.small in
                inl (
                  found.0,
                  step ∙ found.1,
                  record {
                    place = suc found.2.place;
                    small = omega arith;
                    queue = found.2.queue;
                    room = found.2.room;
                    before = lacking_more caps queues x b q found.2.place lacks found.2.before;
                  },
                ))
            | inr none ↦ inr (step ∙ none.0, record { each = lacking_more caps queues x b q (length queues) lacks none.1.each })
          ])
    ]

-- what a table says at a place
abbrev pub value_at : List (List ℕ) → ℕ → ℕ → ℕ
value_at tables k v = slice_index (slice_index_or tables k []) v

-- the value and the place as one number, where places are below 32
abbrev pub key_of : ℕ → ℕ → ℕ
key_of value place = 32 * value + place

-- the queue of the list, whose first place is p, with the least pair among those with room
pub record IsLeast (caps queues : List ℕ) (tables : List (List ℕ)) (x : List ℕ) (b p : ℕ) (o : Offer) : Type 0 where
  pub place : ℕ
  pub small : place < length queues
  pub queue : slice_index queues place ≡ o.queue
  pub own : o.place ≡ p + place
  pub value : o.value ≡ value_at tables (p + place) (slice_index x o.queue)
  pub room : slice_index x o.queue + b ≤ slice_index caps o.queue
  pub others : (i : ℕ) → i < length queues → i ≢ place
      → Lacking caps x b (slice_index queues i)
      ⊎ (key_of o.value o.place < key_of (value_at tables (p + i) (slice_index x (slice_index queues i))) (p + i))

less-true : (a b : Offer) → a.place < 32 → b.place < 32 → is_less a b ≡ true → key_of a.value a.place < key_of b.value b.place
less-true a b first second is = grind (arith, nat_tests)

less-false : (a b : Offer) → a.place < 32 → b.place < 32 → a.place ≢ b.place → is_less a b ≡ false → key_of b.value b.place < key_of a.value a.place
less-false a b first second apart is = grind (arith, nat_tests)

-- the queue q at place m lacks room, or its key is above k
abbrev pub Beaten : List ℕ → List (List ℕ) → List ℕ → ℕ → ℕ → ℕ → ℕ → Type 0
Beaten caps tables x b k m q = Lacking caps x b q ⊎ (k < key_of (value_at tables m (slice_index x q)) m)

beaten_more : (caps queues : List ℕ) (tables : List (List ℕ)) (x : List ℕ) (b p q k n j : ℕ) → Beaten caps tables x b k p q
    → ((i : ℕ) → i < n → i ≢ j → Beaten caps tables x b k (suc p + i) (slice_index queues i))
    → (i : ℕ) → i < suc n → i ≢ suc j → Beaten caps tables x b k (p + i) (slice_index (q ∷ queues) i)
beaten_more caps queues tables x b p q k n j here there zero small other =
    let e : p ≡ p + 0 = omega arith in subst (λ m. Beaten caps tables x b k m q) e here
beaten_more caps queues tables x b p q k n j here there (suc i) small other =
    let e : suc p + i ≡ p + suc i = omega arith in
    subst (λ m. Beaten caps tables x b k m (slice_index queues i)) e (there i (omega arith) (λ same. other (ap suc same)))

beaten_rest : (caps queues : List ℕ) (tables : List (List ℕ)) (x : List ℕ) (b p q k n : ℕ)
    → ((i : ℕ) → i < n → Beaten caps tables x b k (suc p + i) (slice_index queues i))
    → (i : ℕ) → i < suc n → i ≢ 0 → Beaten caps tables x b k (p + i) (slice_index (q ∷ queues) i)
beaten_rest caps queues tables x b p q k n there zero small other = absurd (other refl)
beaten_rest caps queues tables x b p q k n there (suc i) small other =
    let e : suc p + i ≡ p + suc i = omega arith in
    subst (λ m. Beaten caps tables x b k m (slice_index queues i)) e (there i (omega arith))

-- the offer of queue q at place p
abbrev pub offer_of : List (List ℕ) → List ℕ → ℕ → ℕ → Offer
offer_of tables x p q = record { value = value_at tables p (slice_index x q); place = p; queue = q }

-- what is least of the rest is so of the whole where the first is beaten
least-later : (caps queues : List ℕ) (tables : List (List ℕ)) (x : List ℕ) (b p q : ℕ) (o : Offer) → IsLeast caps queues tables x b (suc p) o
    → Beaten caps tables x b (key_of o.value o.place) p q → IsLeast caps (q ∷ queues) tables x b p o
least-later caps queues tables x b p q o least here =
    let small : least.place < length queues = least.small in
    let e : suc p + least.place ≡ p + suc least.place = omega arith in
    record {
      place = suc least.place;
      small = omega arith;
      queue = least.queue;
      own = least.own ∙ e;
      value = least.value ∙ ap (λ m. value_at tables m (slice_index x o.queue)) e;
      room = least.room;
      others = beaten_more caps queues tables x b p q (key_of o.value o.place) (length queues) least.place here least.others;
    }

-- the first is the least where it beats the rest
least-here : (caps queues : List ℕ) (tables : List (List ℕ)) (x : List ℕ) (b p q : ℕ) → slice_index x q + b ≤ slice_index caps q
    → ((i : ℕ) → i < length queues → Beaten caps tables x b (key_of (value_at tables p (slice_index x q)) p) (suc p + i) (slice_index queues i))
    → IsLeast caps (q ∷ queues) tables x b p (offer_of tables x p q)
least-here caps queues tables x b p q room rest =
    let e : p ≡ p + 0 = omega arith in
    record {
      place = 0;
      small = omega arith;
      queue = refl;
      own = e;
      value = ap (λ m. value_at tables m (slice_index x q)) e;
      room = room;
      others = beaten_rest caps queues tables x b p q (key_of (value_at tables p (slice_index x q)) p) (length queues) rest;
    }

-- the key of the least offer is that of its queue at its place
least-key : (caps queues : List ℕ) (tables : List (List ℕ)) (x : List ℕ) (b p : ℕ) (o : Offer) → (least : IsLeast caps queues tables x b p o)
    → key_of o.value o.place ≡ key_of (value_at tables (p + least.place) (slice_index x (slice_index queues least.place))) (p + least.place)
least-key caps queues tables x b p o least =
    let there : value_at tables (p + least.place) (slice_index x (slice_index queues least.place)) ≡ value_at tables (p + least.place) (slice_index x o.queue) =
    ap (λ q. value_at tables (p + least.place) (slice_index x q)) least.queue in
    let value : o.value ≡ value_at tables (p + least.place) (slice_index x o.queue) = least.value in
    let own : o.place ≡ p + least.place = least.own in
    omega arith

-- a lesser first one beats all
least-first : (caps queues : List ℕ) (tables : List (List ℕ)) (x : List ℕ) (b p q : ℕ) (o : Offer) → slice_index x q + b ≤ slice_index caps q
    → IsLeast caps queues tables x b (suc p) o → key_of (value_at tables p (slice_index x q)) p < key_of o.value o.place
    → IsLeast caps (q ∷ queues) tables x b p (offer_of tables x p q)
least-first caps queues tables x b p q o room least less =
    least-here caps queues tables x b p q room (λ i small. elim (cases_eq i least.place) [
      | inl e ↦ subst (λ j. Beaten caps tables x b (key_of (value_at tables p (slice_index x q)) p) (suc p + j) (slice_index queues j)) (sym e)
          (inr (omega (arith, less, least-key caps queues tables x b (suc p) o least)))
      | inr ne ↦ elim (least.others i small ne) [ inl lacks ↦ inl lacks | inr more ↦ inr (omega (arith, less, more)) ]
    ])

-- there is a least offer, or all are full
pub least_cases : (caps queues : List ℕ) (tables : List (List ℕ)) (x : List ℕ) (b p : ℕ) → p + length queues ≤ 32
    → ((o : Offer) × (least_of (offers caps queues tables b x p) ≡ Some o) × IsLeast caps queues tables x b p o)
    ⊎ ((least_of (offers caps queues tables b x p) ≡ None) × AreFull caps queues x b)
least_cases caps [] tables x b p few = inr (refl, record { each = λ i small. absurd (omega arith) })
least_cases caps (q ∷ queues) tables x b p few =
    elim (cases_lt (slice_index caps q) (slice_index x q + b)) [
      | inl lacks ↦ (let step = ap (λ t. least_of (cond t (offer_of tables x p q ∷ offers caps queues tables b x (suc p)) (offers caps queues tables b x (suc p))))
          (room-false caps x b q lacks) in
          elim (least_cases caps queues tables x b (suc p) (omega arith)) [
            | inl found ↦ inl (found.0, step ∙ found.1, least-later caps queues tables x b p q found.0 found.2 (inl lacks))
            | inr full ↦ inr (step ∙ full.0, record { each = lacking_more caps queues x b q (length queues) lacks full.1.each })
          ])
      | inr room ↦ (let step = ap (λ t. least_of (cond t (offer_of tables x p q ∷ offers caps queues tables b x (suc p)) (offers caps queues tables b x (suc p))))
          (room-true caps x b q room) in
          elim (least_cases caps queues tables x b (suc p) (omega arith)) [
            | inr full ↦ inl (
              offer_of tables x p q,
              step ∙ ap (λ o. lesser (offer_of tables x p q) o) full.0,
              least-here caps queues tables x b p q room (λ i small. inl (full.1.each i small)),
            )
            | inl found ↦ (let o = found.0 in
                let least = found.2 in
                let small : least.place < length queues = least.small in
                let own : o.place ≡ suc p + least.place = least.own in
                let apart : o.place ≢ p = λ e. absurd (omega arith) in
                let joined = step ∙ ap (λ r. lesser (offer_of tables x p q) r) found.1 in
                elim (cases_Bool (is_less o (offer_of tables x p q))) [
                  | inl less ↦ inl (
                    o,
                    joined ∙ ap (λ t. cond t (Some o) (Some (offer_of tables x p q))) less,
                    least-later caps queues tables x b p q o least (inr (less-true o (offer_of tables x p q) (omega arith) (omega arith) less)),
                  )
                  | inr more ↦ inl (
                    offer_of tables x p q,
                    joined ∙ ap (λ t. cond t (Some o) (Some (offer_of tables x p q))) more,
                    least-first caps queues tables x b p q o room least (less-false o (offer_of tables x p q) (omega arith) (omega arith) apart more),
                  )
                ])
          ])
    ]
