-- The least keys that places offer, and what they say of a target's number.
use Rattle.std.proofs.Common.{◌≡◌, ◌≢◌, ◌⊎◌, ℕ, ◌+◌, ◌<◌, ◌≤◌, List, slice_index, Option, Some, None, is_none, if◌then◌else◌, MatchOption, inl, inr, sym, ◌∙◌, subst, arith, rules}
use Rattle.std.specs.Bool.{MatchBool}
use Rattle.std.proofs.lemmas.Bool.{cases_lt, cases_eq, eq-eqb, ne_eqb}
use Rattle.psi_route.specs.Routing.{Routing, HasRoom, Lacks}
use Rattle.psi_route.specs.Keys.{key_of, IsLesser}
use Rattle.psi_route.specs.Ends.{CanChoose, CanPass, IsLeastAfter, IsGreatestAfter, IsLowEnd, IsHighEnd}
use Rattle.psi_route.specs.Offers.{IsRival, IsBar, IsLeastKey, IsLeastOffer, AreLeastTwo, IsAdded, beside, MayStay, MustRise, MayRise, MustStay}
use Rattle.psi_route.specs.Coming.{Comes, Misses}
use Rattle.psi_route.specs.declared.keys.Key.{Key}

-- place i offers no lesser key
abbrev NoLesser : (ℕ → Option Key → Type 0) → Key → ℕ → Type 0
NoLesser O key i = O i None ⊎ ((k : Key) × O i (Some k) × (key_of key ≤ key_of k))

-- the next place is left out, or changes nothing
least-step : (O : ℕ → Option Key → Type 0) (n j : ℕ) (found : Option Key) → IsLeastOffer O n j found
    → (n ≢ j → MatchOption found (O n None) (λ best. NoLesser O best n)) → IsLeastOffer O (n + 1) j found
least-step O n j None is last = search (rules, cases_lt)
least-step O n j (Some best) is last = record {
  place = (let before = is.place in omega arith);
  other = is.other;
  own = is.own;
  least = λ i small ne. elim (cases_lt i n) [
    | inl old ↦ is.least i old ne
    | inr new ↦ (let e : n ≡ i = omega arith in subst (λ m. m ≢ j → NoLesser O best m) e last ne)
  ];
}

-- the next place's key is the least
least-new : (O : ℕ → Option Key → Type 0) (n j : ℕ) (found : Option Key) (key : Key) → IsLeastOffer O n j found
    → MatchOption found (Unit {0}) (λ best. key_of key ≤ key_of best) → key.place ≡ n → n ≢ j → O n (Some key) → IsLeastKey O (n + 1) j key
least-new O n j found key is less at apart own = record {
  place = omega arith;
  other = (λ e. apart (sym at ∙ e));
  own = subst (λ m. O m (Some key)) (sym at) own;
  least = λ i small ne. elim (cases_lt i n) [
    | inl old ↦ before found is less i old ne
    | inr new ↦ (let e : n ≡ i = omega arith in subst (λ m. NoLesser O key m) e (inr (key, own, omega arith)))
  ];
}
  where
    before : (o : Option Key) → IsLeastOffer O n j o → MatchOption o (Unit {0}) (λ best. key_of key ≤ key_of best) → (i : ℕ) → i < n → i ≢ j → NoLesser O key i
    before None is less i old ne = inl (is i old ne)
    before (Some best) is less i old ne = elim (is.least i old ne) [
      | inl empty ↦ inl empty
      | inr more ↦ (let far : key_of best ≤ key_of more.0 = more.2 in inr (more.0, more.1, omega arith))
    ]

-- the lesser of it and the least one before
least-lesser : (O : ℕ → Option Key → Type 0) (n j : ℕ) (found : Option Key) (key : Key) (result : Option Key) → IsLeastOffer O n j found → key.place ≡ n → n ≢ j
    → O n (Some key) → IsLesser found (Some key) result → IsLeastOffer O (n + 1) j result
least-lesser O n j None key result is at apart own lesser =
    subst (λ (o : Option Key). IsLeastOffer O (n + 1) j o) (sym lesser) (least-new O n j None key is tt at apart own)
least-lesser O n j (Some best) key result is at apart own lesser =
    elim lesser [
      | inl new ↦ subst (λ (o : Option Key). IsLeastOffer O (n + 1) j o) (sym new.1) (least-new O n j (Some best) key is new.0 at apart own)
      | inr old ↦ subst (λ (o : Option Key). IsLeastOffer O (n + 1) j o) (sym old.1) (least-step O n j (Some best) is (λ ne. inr (key, own, old.0)))
    ]

-- a place that offers none
two-kept : (O : ℕ → Option Key → Type 0) (n : ℕ) (first second : Option Key) → AreLeastTwo O n first second → O n None → AreLeastTwo O (n + 1) first second
two-kept O n first second two own = search (rules, least-step)

-- one whose key isn't less than the least before
two-old : (O : ℕ → Option Key → Type 0) (n : ℕ) (first second : Option Key) (key : Key) (next : Option Key) → AreLeastTwo O n first second → key.place ≡ n → O n (Some key)
    → MatchOption first ⊥ (λ best. key_of best ≤ key_of key) → IsLesser second (Some key) next → AreLeastTwo O (n + 1) first next
two-old O n None second key next two at own less lesser = absurd less
two-old O n (Some best) second key next two at own less lesser =
    let head = two.first_is n (omega arith) in
    let before = head.place in
    record {
      first_is = λ j past. least-step O n j (Some best) (two.first_is j (omega arith)) (λ ne. inr (key, own, less));
      second_is = least-lesser O n best.place second key next two.second_is at (λ e. omega arith) own lesser;
    }

-- one whose key is the least
two-new : (O : ℕ → Option Key → Type 0) (n : ℕ) (first second : Option Key) (key : Key) → AreLeastTwo O n first second → key.place ≡ n → O n (Some key)
    → MatchOption first (Unit {0}) (λ best. key_of key ≤ key_of best) → AreLeastTwo O (n + 1) (Some key) first
two-new O n first second key two at own less = record {
  first_is = λ j past. least-new O n j first key (two.first_is j (omega arith)) less at (omega arith) own;
  second_is = least-step O n key.place first (two.first_is key.place (omega arith)) (λ ne. absurd (ne (sym at)));
}

-- so after a place more these are the two least
pub two-more : (O : ℕ → Option Key → Type 0) (n : ℕ) (first second offered least next : Option Key)
    → ((key : Key) → O n (Some key) → key.place ≡ n) → AreLeastTwo O n first second → O n offered → IsAdded first second offered least next → AreLeastTwo O (n + 1) least next
two-more O n first second None least next placed two own added =
    subst (λ (o : Option Key). AreLeastTwo O (n + 1) o next) (sym added.0)
    (subst (λ (o : Option Key). AreLeastTwo O (n + 1) first o) (sym added.1) (two-kept O n first second two own))
two-more O n first second (Some key) least next placed two own added =
    elim added [
      | inl new ↦ subst (λ (o : Option Key). AreLeastTwo O (n + 1) o next) (sym new.1)
          (subst (λ (o : Option Key). AreLeastTwo O (n + 1) (Some key) o) (sym new.2) (two-new O n first second key two (placed key own) own new.0))
      | inr old ↦ subst (λ (o : Option Key). AreLeastTwo O (n + 1) o next) (sym old.1)
          (two-old O n first second key next two (placed key own) own old.0 old.2)
    ]

-- what is offered by one measure is offered by another one that it implies
least-as : (O P : ℕ → Option Key → Type 0) (n j : ℕ) (found : Option Key) → ((i : ℕ) (offer : Option Key) → i < n → O i offer → P i offer)
    → IsLeastOffer O n j found → IsLeastOffer P n j found
least-as O P n j None means is = λ i small ne. means i None small (is i small ne)
least-as O P n j (Some best) means is = record {
  place = is.place;
  other = is.other;
  own = means best.place (Some best) is.place is.own;
  least = λ i small ne. elim (is.least i small ne) [
    | inl empty ↦ inl (means i None small empty)
    | inr found ↦ inr (found.0, means i (Some found.0) small found.1, found.2)
  ];
}

pub two-as : (O P : ℕ → Option Key → Type 0) (n : ℕ) (first second : Option Key) → ((i : ℕ) (offer : Option Key) → i < n → O i offer → P i offer)
    → AreLeastTwo O n first second → AreLeastTwo P n first second
two-as O P n None second means two = record { first_is = λ j past. least-as O P n j None means (two.first_is j past); second_is = tt }
two-as O P n (Some best) second means two = record {
  first_is = λ j past. least-as O P n j (Some best) means (two.first_is j past);
  second_is = least-as O P n best.place second means two.second_is;
}

-- the least key of the places but j is one of the two
pub least-beside : (O : ℕ → Option Key → Type 0) (n j : ℕ) (first second : Option Key) → j < n → AreLeastTwo O n first second → IsLeastOffer O n j (beside first second j)
least-beside O n j None second small two = λ i within apart. two.first_is n (omega arith) i within (omega arith)
least-beside O n j (Some key) second small two =
    elim (cases_eq key.place j) [
      | inl e ↦ subst (λ b. IsLeastOffer O n j (if b then second else Some key)) (sym (eq-eqb key.place j e))
          (subst (λ m. IsLeastOffer O n m second) e two.second_is)
      | inr ne ↦ (let head = two.first_is n (omega arith) in
          subst (λ b. IsLeastOffer O n j (if b then second else Some key)) (sym (ne_eqb key.place j ne))
          (record { place = head.place; other = ne; own = head.own; least = λ i within apart. head.least i within (omega arith) }))
    ]

-- a number can stay where the least rival key is less than its own
pub passed-rival : (r : Routing) (l h : List ℕ) (j v : ℕ) (key : Key) → IsLeastOffer (IsRival r l h) r.places j (Some key) → key_of key < r.key j v → CanPass r l h j v
passed-rival r l h j v key is less = search rules

-- a target's number that passes where there is room and the source serves has a rival with a lesser key
abbrev HasRival : Routing → List ℕ → List ℕ → ℕ → ℕ → Type 0
HasRival r l h j v = (i : ℕ) × (i < r.places) × (i ≢ j) × ((w : ℕ) × (slice_index l (r.queue i) ≤ w) × (w ≤ slice_index h (r.queue i)) × HasRoom r i w × (r.key i w < r.key j v))

passed-has_rival : (r : Routing) (l h : List ℕ) (j v : ℕ) → HasRoom r j v → r.least ≤ slice_index l r.source → CanPass r l h j v → HasRival r l h j v
passed-has_rival r l h j v room serve can = search rules

-- so it can't where no rival has a lesser key
pub no_rival-passed : (r : Routing) (l h : List ℕ) (j v : ℕ) → IsLeastOffer (IsRival r l h) r.places j None → HasRoom r j v → r.least ≤ slice_index l r.source
    → CanPass r l h j v → ⊥
no_rival-passed r l h j v is room serve can = search (rules, passed-has_rival)

pub rival-passed : (r : Routing) (l h : List ℕ) (j v : ℕ) (key : Key) → IsLeastOffer (IsRival r l h) r.places j (Some key) → r.key j v ≤ key_of key → HasRoom r j v
    → r.least ≤ slice_index l r.source → CanPass r l h j v → ⊥
rival-passed r l h j v key is most room serve can =
    let found = passed-has_rival r l h j v room serve can in
    let w = found.3 in
    let less : r.key found.0 w.0 < r.key j v = w.4 in
    elim (is.least found.0 found.1 found.2) [
      | inl empty ↦ (let lacks : Lacks r found.0 w.0 = empty w.0 w.1 w.2 in let fits : HasRoom r found.0 w.0 = w.3 in omega arith)
      | inr other ↦ (let near : key_of other.0 ≤ r.key found.0 w.0 = other.1.least w.0 w.1 w.2 w.3 in
          let far : key_of key ≤ key_of other.0 = other.2 in omega arith)
    ]

-- a number can be chosen where there is room, the source serves and no other place always has a lesser key
pub no_bar-chosen : (r : Routing) (l h : List ℕ) (j v : ℕ) → ((i : ℕ) → i < r.places → slice_index l (r.queue i) ≤ slice_index h (r.queue i))
    → IsLeastOffer (IsBar r l h) r.places j None → HasRoom r j v → r.least ≤ slice_index h r.source → CanChoose r l h j v
no_bar-chosen r l h j v ordered is room serve = search rules

pub bar-chosen : (r : Routing) (l h : List ℕ) (j v : ℕ) (key : Key) → ((i : ℕ) → i < r.places → slice_index l (r.queue i) ≤ slice_index h (r.queue i))
    → IsLeastOffer (IsBar r l h) r.places j (Some key) → r.key j v < key_of key → HasRoom r j v → r.least ≤ slice_index h r.source → CanChoose r l h j v
bar-chosen r l h j v key ordered is less room serve = record {
  room = room;
  serve = serve;
  others = λ i small apart.
      elim (is.least i small apart) [
        | inl lacks ↦ (slice_index h (r.queue i), ordered i small, omega arith, inl lacks)
        | inr other ↦ (let met = other.1.met in
            let same : r.key i met.0 ≡ key_of other.0 = met.3 in
            let far : key_of key ≤ key_of other.0 = other.2 in
            (met.0, met.1, met.2, inr (omega arith)))
      ];
}

-- and can't where some other place always has room and a lesser key
pub bar-not_chosen : (r : Routing) (l h : List ℕ) (j v : ℕ) (key : Key) → IsLeastOffer (IsBar r l h) r.places j (Some key) → key_of key ≤ r.key j v
    → CanChoose r l h j v → ⊥
bar-not_chosen r l h j v key is most can =
    let own = is.own in
    let w = can.others key.place is.place is.other in
    let high : w.0 ≤ slice_index h (r.queue key.place) = w.2 in
    let room : HasRoom r key.place (slice_index h (r.queue key.place)) = own.room in
    elim w.3 [
      | inl lacks ↦ omega arith
      | inr less ↦ (let near : r.key key.place w.0 ≤ key_of key = own.most w.0 w.1 w.2 in omega arith)
    ]

pub stay-can : (r : Routing) (l h : List ℕ) (j : ℕ) (rival : Option Key) (v : ℕ) → IsLeastOffer (IsRival r l h) r.places j rival → MayStay r j rival v → CanPass r l h j v
stay-can r l h j None v is may = elim may [ inl lacks ↦ inl lacks | inr less ↦ absurd less ]
stay-can r l h j (Some key) v is may = elim may [ inl lacks ↦ inl lacks | inr less ↦ passed-rival r l h j v key is less ]

pub rise-must : (r : Routing) (l h : List ℕ) (j : ℕ) (rival : Option Key) (v : ℕ) → IsLeastOffer (IsRival r l h) r.places j rival → r.least ≤ slice_index l r.source
    → MustRise r j rival v → CanPass r l h j v → ⊥
rise-must r l h j None v is serve must can = no_rival-passed r l h j v is must.0 serve can
rise-must r l h j (Some key) v is serve must can = rival-passed r l h j v key is must.1 must.0 serve can

pub rise-can : (r : Routing) (l h : List ℕ) (j : ℕ) (bar : Option Key) (v : ℕ) → ((i : ℕ) → i < r.places → slice_index l (r.queue i) ≤ slice_index h (r.queue i))
    → IsLeastOffer (IsBar r l h) r.places j bar → r.least ≤ slice_index h r.source → MayRise r j bar v → CanChoose r l h j v
rise-can r l h j None v ordered is serve may = no_bar-chosen r l h j v ordered is may.0 serve
rise-can r l h j (Some key) v ordered is serve may = bar-chosen r l h j v key ordered is may.1 may.0 serve

pub stay-must : (r : Routing) (l h : List ℕ) (j : ℕ) (bar : Option Key) (v : ℕ) → IsLeastOffer (IsBar r l h) r.places j bar → MustStay r j bar v → CanChoose r l h j v → ⊥
stay-must r l h j None v is must can =
    (let room : HasRoom r j v = can.room in elim must [ inl lacks ↦ omega arith | inr less ↦ less ])
stay-must r l h j (Some key) v is must can =
    (let room : HasRoom r j v = can.room in elim must [ inl lacks ↦ omega arith | inr less ↦ bar-not_chosen r l h j v key is less can ])

-- ---- the ends at a target

-- the least number after the route, where the source always serves
pub low-weighed : (r : Routing) (l h : List ℕ) (j u : ℕ) (rival : Option Key) → IsLeastOffer (IsRival r l h) r.places j rival → r.least ≤ slice_index l r.source
    → IsLeastAfter (MayStay r j rival) (MustRise r j rival) r.size (slice_index l (r.queue j)) (slice_index h (r.queue j)) u → IsLowEnd r l h j u
low-weighed r l h j u rival offers serve end =
    elim end [
      | inl found ↦ inl (found.0, found.1, found.2, found.3, stay-can r l h j rival found.0 offers found.4, (λ t over under. rise-must r l h j rival t offers serve (found.5 t over under)), found.6)
      | inr all ↦ inr (λ t over under near. rise-must r l h j rival t offers serve (all.0 t over under near), all.1)
    ]

-- the greatest one, where it sometimes serves
pub high-weighed : (r : Routing) (l h : List ℕ) (j u : ℕ) (bar : Option Key) → ((i : ℕ) → i < r.places → slice_index l (r.queue i) ≤ slice_index h (r.queue i))
    → IsLeastOffer (IsBar r l h) r.places j bar → r.least ≤ slice_index h r.source
    → IsGreatestAfter (MayRise r j bar) (MustStay r j bar) r.size (slice_index l (r.queue j)) (slice_index h (r.queue j)) u → IsHighEnd r l h j u
high-weighed r l h j u bar ordered offers serve end =
    elim end [
      | inl found ↦ inl (found.0, found.1, found.2, found.3, rise-can r l h j bar found.0 ordered offers serve found.4, (λ t over under. stay-must r l h j bar t offers (found.5 t over under)), found.6)
      | inr all ↦ inr (λ t over under near. stay-must r l h j bar t offers (all.0 t over under near), all.1)
    ]

-- no rival at all: the customers come past every target
pub rival-passes : (r : Routing) (l h : List ℕ) (first : Option Key) → IsLeastOffer (IsRival r l h) r.places r.places first → r.least ≤ slice_index l r.source
    → ((i : ℕ) → i < r.places → slice_index l (r.queue i) ≤ slice_index h (r.queue i)) → MatchBool (is_none first) (Comes r l r.places) (Misses r l r.places)
rival-passes r l h first offers serve ordered = search rules

pub bar-passes : (r : Routing) (l h : List ℕ) (first : Option Key) → IsLeastOffer (IsBar r l h) r.places r.places first → r.least ≤ slice_index h r.source
    → MatchBool (is_none first) (Comes r h r.places) (Misses r h r.places)
bar-passes r l h None offers serve = record { serve = serve; before = λ i small. offers i small (omega arith) }
bar-passes r l h (Some key) offers serve = (let own = offers.own in inr (key.place, offers.place, own.room))
