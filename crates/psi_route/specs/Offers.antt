-- What each place offers in a box of states: its least key with room in some state of the box, and its greatest one where it always has room.
use Rattle.std.specs.Prelude.{◌≡◌, ◌≢◌, ◌⊎◌, ℕ, ◌<◌, ◌≤◌, List, slice_index, Option, Some, None, nat_eq, if◌then◌else◌, MatchOption}
use Rattle.psi_route.specs.Routing.{Routing, HasRoom, Lacks}
use Rattle.psi_route.specs.Keys.{key_of, IsLesser}
use Rattle.psi_route.specs.declared.keys.Key.{Key}

-- place i of a route in the box from l to h
module _ (r : Routing) (l h : List ℕ) (i : ℕ) where
  -- the least key of place i with a number of customers that leaves room
  pub record IsRivalKey (key : Key) : Type 0 where
    pub place : key.place ≡ i
    pub met : (w : ℕ) × (slice_index l (r.queue i) ≤ w) × (w ≤ slice_index h (r.queue i)) × HasRoom r i w × (r.key i w ≡ key_of key)
    pub least : (w : ℕ) → slice_index l (r.queue i) ≤ w → w ≤ slice_index h (r.queue i) → HasRoom r i w → key_of key ≤ r.key i w

  -- that key, or none where no number leaves room
  abbrev pub IsRival : Option Key → Type 0
  IsRival offer =
      MatchOption offer ((w : ℕ) → slice_index l (r.queue i) ≤ w → w ≤ slice_index h (r.queue i) → Lacks r i w) (λ key. IsRivalKey key)

  -- the greatest key of place i, where each number of customers leaves room
  pub record IsBarKey (key : Key) : Type 0 where
    pub place : key.place ≡ i
    pub room : HasRoom r i (slice_index h (r.queue i))
    pub met : (w : ℕ) × (slice_index l (r.queue i) ≤ w) × (w ≤ slice_index h (r.queue i)) × (r.key i w ≡ key_of key)
    pub most : (w : ℕ) → slice_index l (r.queue i) ≤ w → w ≤ slice_index h (r.queue i) → r.key i w ≤ key_of key

  -- that key, or none where the greatest number leaves no room
  abbrev pub IsBar : Option Key → Type 0
  IsBar offer = MatchOption offer (Lacks r i (slice_index h (r.queue i))) (λ key. IsBarKey key)

-- the least of two keys that isn't of place j, where the second is the least beside the first
abbrev pub beside : Option Key → Option Key → ℕ → Option Key
beside None second j = None
beside (Some key) second j = if nat_eq key.place j then second else Some key

-- the first n places, of which each may offer a key
module _ (O : ℕ → Option Key → Type 0) (n : ℕ) where
  -- the least of the keys that the first n places but j offer
  pub record IsLeastKey (j : ℕ) (key : Key) : Type 0 where
    pub place : key.place < n
    pub other : key.place ≢ j
    pub own : O key.place (Some key)
    pub least : (i : ℕ) → i < n → i ≢ j → O i None ⊎ ((k : Key) × O i (Some k) × (key_of key ≤ key_of k))

  -- that key, or none where none of them offers one
  abbrev pub IsLeastOffer : ℕ → Option Key → Type 0
  IsLeastOffer j found = MatchOption found ((i : ℕ) → i < n → i ≢ j → O i None) (λ key. IsLeastKey j key)

  -- the least of all keys, and the least of those of the other places
  pub record AreLeastTwo (first second : Option Key) : Type 0 where
    pub first_is : (j : ℕ) → n ≤ j → IsLeastOffer j first
    pub second_is : MatchOption first (Unit {0}) (λ key. IsLeastOffer key.place second)

-- the two least keys once a later place offers one, or none
abbrev pub IsAdded : Option Key → Option Key → Option Key → Option Key → Option Key → Type 0
IsAdded first second offered least next =
    MatchOption offered ((least ≡ first) × (next ≡ second))
    (λ key. (MatchOption first (Unit {0}) (λ best. key_of key ≤ key_of best) × (least ≡ Some key) × (next ≡ first))
    ⊎ (MatchOption first ⊥ (λ best. key_of best ≤ key_of key) × (least ≡ first) × IsLesser second (Some key) next))

-- place j of a route
module _ (r : Routing) (j : ℕ) where
  -- where the source serves, v customers can stay as they are at place j: there is no room, or another place has a lesser key
  abbrev pub MayStay : Option Key → ℕ → Type 0
  MayStay rival v = Lacks r j v ⊎ MatchOption rival ⊥ (λ key. key_of key < r.key j v)

  -- they can't
  abbrev pub MustRise : Option Key → ℕ → Type 0
  MustRise rival v = HasRoom r j v × MatchOption rival (Unit {0}) (λ key. r.key j v ≤ key_of key)

  -- and they can become more: there is room, and no other place always has a lesser key
  abbrev pub MayRise : Option Key → ℕ → Type 0
  MayRise bar v = HasRoom r j v × MatchOption bar (Unit {0}) (λ key. r.key j v < key_of key)

  -- they can't
  abbrev pub MustStay : Option Key → ℕ → Type 0
  MustStay bar v = Lacks r j v ⊎ MatchOption bar ⊥ (λ key. key_of key ≤ r.key j v)
