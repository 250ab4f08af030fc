-- What routes do, by keys: one by which customers from outside join, and one by which customers leave.
use Rattle.std.specs.Prelude.{◌≡◌, ◌≢◌, ℕ, ◌+◌, ◌-◌, ◌*◌, ◌^◌, ◌<◌, ◌≤◌, List, length, slice_index, slice_set, Option, Some, None, is_some, nat_eq, ◌||◌, Bool, true, false, if◌then◌else◌, refl}
use Rattle.std.proofs.Common.{inl, inr, ap, sym, ◌∙◌, subst, arith}
use Rattle.std.proofs.lemmas.Bool.{cases_lt, lt-leb, le-leb}
use Rattle.psi_state.specs.State.{IsBelow}
use Rattle.psi_route.specs.declared.parts.Source.{Source}
use Rattle.psi_route.specs.Routing.{Shape, Routing, routing, weight, source_queue, source_least, taken, moved, routed, IsBest}
use Rattle.psi_route.specs.Acting.{NoRoom}
use Rattle.psi_route.specs.Inner.ActingLaws.{act-idle, act-serves}
use Rattle.psi_route.specs.Accepted.{IsRouteShape}
use Rattle.psi_route.proofs.ActingLemmas.{act-some, act-lost, best-none, taken-past}
use Rattle.psi_follow_keyed.specs.Keys.{Keys, no_key, cap_at, AreRanked, key_in, left, Joins, IsBoardFor}
use Rattle.psi_follow_keyed.specs.RowsKept.{AreRowsOf}
use Rattle.psi_follow_keyed.proofs.MarkingLemmas.{key-room}

-- the keys of a shape, as they are kept
abbrev pub keys_of : Shape → List ℕ → List ℕ → Keys
keys_of s bases entries = record { caps = s.caps; targets = s.targets; bases = bases; entries = entries }

pub rows-ranked : (s : Shape) (bases entries : List ℕ) → IsRouteShape s → AreRowsOf s (length s.targets) bases entries → AreRanked (keys_of s bases entries)
rows-ranked s bases entries is rows = record {
  few = is.few;
  named = is.named;
  apart = is.apart;
  most = is.caps.most;
  roomy = λ i v small room. (let row = rows.each i small in
      let key : slice_index entries (slice_index bases i + v) ≡ 32 * weight s i v + i = row.keys v room in
      let value : weight s i v ≤ 2 ^ 27 - 2 = row.values v room in
      let few : length s.targets ≤ 32 = is.few in
      omega arith);
  placed = λ i v small room. (let few : length s.targets ≤ 32 = is.few in omega (arith, (rows.each i small).keys v room));
  full = λ i small. (rows.each i small).full;
}

-- the place of the least key is the best one
best-by_keys : (s : Shape) (bases entries : List ℕ) (x : List ℕ) (j : ℕ) → IsRouteShape s → s.size ≡ 1 → AreRowsOf s (length s.targets) bases entries → IsBelow x s.caps
    → j < length s.targets → key_in (keys_of s bases entries) x j < no_key
    → ((i : ℕ) → i < length s.targets → i ≢ j → key_in (keys_of s bases entries) x j < key_in (keys_of s bases entries) x i) → IsBest (routing s) x j
best-by_keys s bases entries x j is one rows below small has others =
    let k = keys_of s bases entries in
    let ranked = rows-ranked s bases entries is rows in
    let room : slice_index x (slice_index s.targets j) < cap_at s.caps s.targets j = key-room k x j ranked below small has in
    let own : key_in k x j ≡ 32 * weight s j (slice_index x (slice_index s.targets j)) + j = (rows.each j small).keys (slice_index x (slice_index s.targets j)) room in
    record {
      place = small;
      room = omega arith;
      others = λ i within ne. elim (cases_lt (slice_index x (slice_index s.targets i)) (cap_at s.caps s.targets i)) [
        | inr full ↦ inl (omega arith)
        | inl less ↦ (let at : key_in k x i ≡ 32 * weight s i (slice_index x (slice_index s.targets i)) + i = (rows.each i within).keys (slice_index x (slice_index s.targets i)) less in
            let lower : key_in k x j < key_in k x i = others i within ne in
            inr (omega arith))
      ];
    }

-- where no place has a key, none has room
none-by_keys : (s : Shape) (bases entries : List ℕ) (x : List ℕ) → IsRouteShape s → s.size ≡ 1 → AreRowsOf s (length s.targets) bases entries
    → ((i : ℕ) → i < length s.targets → key_in (keys_of s bases entries) x i ≡ no_key) → NoRoom (routing s) x (length s.targets)
none-by_keys s bases entries x is one rows none = record {
  each = λ i small. elim (cases_lt (slice_index x (slice_index s.targets i)) (cap_at s.caps s.targets i)) [
    | inr full ↦ omega arith
    | inl less ↦ (let roomy = (rows-ranked s bases entries is rows).roomy i (slice_index x (slice_index s.targets i)) small less in
        let no : key_in (keys_of s bases entries) x i ≡ no_key = none i small in
        absurd (omega (arith, roomy)))
  ];
}

-- a source that isn't there
pub none-from : (o : Option Source) → false ≡ is_some o → o ≡ None
none-from None tells = refl
none-from (Some source) tells = absurd cc

-- without a source a route serves in each state, and takes nobody
unsourced : (s : Shape) (x : List ℕ) → s.source ≡ None → IsBelow x s.caps → ((routing s).least ≡ 0) × (taken (routing s) x ≡ x)
unsourced s x none below =
    let long : length x ≡ length s.caps = below.same_length in
    let past : (routing s).source ≡ length s.caps = ap (λ (o : Option Source). source_queue o (length s.caps)) none in
    (ap source_least none, taken-past (routing s) x (omega arith))

moved-none : (r : Routing) (x : List ℕ) (b : Bool) → taken r x ≡ x → (if b then taken r x else x) ≡ x
moved-none r x true same = same
moved-none r x false same = refl

pub routed-joins : (s : Shape) (bases entries : List ℕ) → IsRouteShape s → s.source ≡ None → s.size ≡ 1 → AreRowsOf s (length s.targets) bases entries
    → Joins (keys_of s bases entries) (routed s)
unfolding routed
routed-joins s bases entries is none one rows = record {
  chosen = λ x j below small has others. (let free = unsourced s x none below in
      let least : (routing s).least ≡ 0 = free.0 in
      act-some (routing s) x j (omega arith) (best-by_keys s bases entries x j is one rows below small has others)
      ∙ ap (λ (y : List ℕ). slice_set y (slice_index s.targets j) (slice_index x (slice_index s.targets j) + s.size)) free.1
      ∙ ap (λ n. slice_set x (slice_index s.targets j) (slice_index x (slice_index s.targets j) + n)) one);
  full = λ x below full. (let free = unsourced s x none below in
      let least : (routing s).least ≡ 0 = free.0 in
      act-serves (routing s) x (omega arith)
      ∙ ap (λ o. moved (routing s) x o) (best-none (routing s) x (none-by_keys s bases entries x is one rows full))
      ∙ moved-none (routing s) x ((routing s).lost || nat_eq ((routing s).places) 0) free.1);
}

-- where there is no target, one leaves the source where it serves
pub routed-leaves : (s : Shape) (source : Source) (x : List ℕ) → length s.targets ≡ 0 → s.source ≡ Some source → routed s x ≡ left source.queue source.k x
unfolding routed
routed-leaves s source x empty from =
    let queue : (routing s).source ≡ source.queue = ap (λ (o : Option Source). source_queue o (length s.caps)) from in
    let least : (routing s).least ≡ source.k = ap source_least from in
    elim (cases_lt (slice_index x ((routing s).source)) ((routing s).least)) [
      | inl idle ↦ act-idle (routing s) x idle
          ∙ sym (ap (λ t. if t then slice_set x source.queue (slice_index x source.queue - 1) else x)
          (lt-leb source.k (slice_index x source.queue) (subst (λ q. slice_index x q < source.k) queue (subst (λ n. slice_index x ((routing s).source) < n) least idle))))
      | inr serves ↦ act-lost (routing s) x serves (record { each = λ i small. absurd (omega arith) }) (inr empty)
          ∙ ap (λ q. slice_set x q (slice_index x q - 1)) queue
          ∙ sym (ap (λ t. if t then slice_set x source.queue (slice_index x source.queue - 1) else x)
          (le-leb source.k (slice_index x source.queue) (subst (λ q. source.k ≤ slice_index x q) queue (subst (λ n. n ≤ slice_index x ((routing s).source)) least serves))))
    ]

-- and nothing changes where there is no source either
pub routed-still : (s : Shape) (x : List ℕ) → length s.targets ≡ 0 → s.source ≡ None → IsBelow x s.caps → routed s x ≡ x
unfolding routed
routed-still s x empty none below =
    let free = unsourced s x none below in
    let least : (routing s).least ≡ 0 = free.0 in
    act-lost (routing s) x (omega arith) (record { each = λ i small. absurd (omega arith) }) (inr empty) ∙ free.1

-- the keys of a route's targets, by what is kept of them
pub board-for : (s : Shape) (caps targets bases entries : List ℕ) → IsRouteShape s → s.source ≡ None → s.size ≡ 1 → AreRowsOf s (length s.targets) bases entries
    → caps ≡ s.caps → targets ≡ s.targets → IsBoardFor s.caps (routed s) (record { caps = caps; targets = targets; bases = bases; entries = entries })
board-for s caps targets bases entries is none one rows same_caps same = record {
  same_caps = same_caps;
  joins = rw (same_caps, same) (routed-joins s bases entries is none one rows);
}
