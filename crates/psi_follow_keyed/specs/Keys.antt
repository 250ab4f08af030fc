-- The keys of targets, each at its queue's number of customers: the target with the least key is the chosen one.
use Rattle.std.specs.Prelude.{◌≡◌, ◌≢◌, ◌⊎◌, ℕ, ◌+◌, ◌-◌, ◌%◌, ◌^◌, ◌<◌, ◌≤◌, List, length, slice_index, slice_set, nat_le, if◌then◌else◌}
use Rattle.psi_state.specs.State.{IsBelow}
use Rattle.psi_event.specs.Law.{Function}

-- above all keys: where a target has no room
abbrev pub no_key : ℕ
no_key = 2 ^ 32 - 1

-- targets among queues of these capacities, and the keys of all places, one place after another, with where those of each begin
pub record Keys : Type 0 where
  pub caps : List ℕ
  pub targets : List ℕ
  pub bases : List ℕ
  pub entries : List ℕ

-- the key of a place at a number of customers
abbrev pub key_by : List ℕ → List ℕ → ℕ → ℕ → ℕ
key_by bases entries i v = slice_index entries (slice_index bases i + v)

abbrev pub key_at : Keys → ℕ → ℕ → ℕ
key_at k i v = key_by k.bases k.entries i v

-- the capacity of the target at a place
abbrev pub cap_at : List ℕ → List ℕ → ℕ → ℕ
cap_at caps targets i = slice_index caps (slice_index targets i)

-- at most 32 different targets; each has keys that tell its place where it has room, and none where it is full
pub record AreRanked (k : Keys) : Type 0 where
  pub few : length k.targets ≤ 32
  pub named : (i : ℕ) → i < length k.targets → slice_index k.targets i < length k.caps
  pub apart : (i j : ℕ) → i < length k.targets → j < length k.targets → slice_index k.targets i ≡ slice_index k.targets j → i ≡ j
  pub most : (q : ℕ) → q < length k.caps → slice_index k.caps q ≤ 65535
  pub roomy : (i v : ℕ) → i < length k.targets → v < cap_at k.caps k.targets i → key_at k i v < no_key
  pub placed : (i v : ℕ) → i < length k.targets → v < cap_at k.caps k.targets i → key_at k i v % 32 ≡ i
  pub full : (i : ℕ) → i < length k.targets → key_at k i (cap_at k.caps k.targets i) ≡ no_key

-- so it is, and the keys of each place are there
pub record IsBoard (k : Keys) : Type 0 where
  pub ranked : AreRanked k
  pub inside : (i : ℕ) → i < length k.targets → slice_index k.bases i + cap_at k.caps k.targets i < length k.entries

-- the key of a place in a state
abbrev pub key_in : Keys → List ℕ → ℕ → ℕ
key_in k x i = key_at k i (slice_index x (slice_index k.targets i))

-- 32 numbers are the keys of the places in a state, and none past the last place
pub record AreKeys (k : Keys) (x keys : List ℕ) : Type 0 where
  pub count : length keys ≡ 32
  pub own : (i : ℕ) → i < length k.targets → slice_index keys i ≡ key_in k x i
  pub past : (i : ℕ) → length k.targets ≤ i → i < 32 → slice_index keys i ≡ no_key

-- the least of the keys is that of the place that it tells
pub record IsChosen (k : Keys) (x : List ℕ) (least : ℕ) : Type 0 where
  pub place : least % 32 < length k.targets
  pub own : key_in k x (least % 32) ≡ least
  pub room : slice_index x (slice_index k.targets (least % 32)) < cap_at k.caps k.targets (least % 32)
  pub others : (i : ℕ) → i < length k.targets → i ≢ least % 32 → key_in k x (least % 32) < key_in k x i

-- the place of a queue in a list of targets, or 32 where it is none of them
abbrev pub IsPlaceOf : List ℕ → ℕ → ℕ → Type 0
IsPlaceOf targets queue place =
    ((place < length targets) × (slice_index targets place ≡ queue))
    ⊎ ((place ≡ 32) × ((i : ℕ) → i < length targets → slice_index targets i ≢ queue))

-- one customer leaves a queue that holds at least so many
abbrev pub left : ℕ → ℕ → List ℕ → List ℕ
left queue least x = if nat_le least (slice_index x queue) then slice_set x queue (slice_index x queue - 1) else x

-- one customer joins the target at a place
abbrev pub joined : Keys → ℕ → List ℕ → List ℕ
joined k i x = slice_set x (slice_index k.targets i) (slice_index x (slice_index k.targets i) + 1)

-- a function lets one customer join the target with the least key, where one has room
pub record Joins (k : Keys) (f : Function) : Type 0 where
  pub chosen : (x : List ℕ) (j : ℕ) → IsBelow x k.caps → j < length k.targets → key_in k x j < no_key
      → ((i : ℕ) → i < length k.targets → i ≢ j → key_in k x j < key_in k x i) → f x ≡ joined k j x
  pub full : (x : List ℕ) → IsBelow x k.caps → ((i : ℕ) → i < length k.targets → key_in k x i ≡ no_key) → f x ≡ x

-- the keys of these capacities by which a function lets customers join
pub record IsBoardFor (caps : List ℕ) (f : Function) (k : Keys) : Type 0 where
  pub same_caps : k.caps ≡ caps
  pub joins : Joins k f
