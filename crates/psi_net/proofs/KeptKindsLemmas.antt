-- Every kind that is read is accepted: it names queues of the network, and nothing of it is refused.
use Rattle.std.specs.Prelude.{◌≡◌, ℕ, ◌+◌, ◌<◌, ◌≤◌, ℤ, pos, List, [], ◌∷◌, ◌++◌, length, take, slice_index, codes, IfSome, IfOk, true, false, not, nat_eq, nat_lt, nat_le, Option, Some, None, Result, is_some, Ok, refl}
use Rattle.std.proofs.Common.{ap, sym, subst, arith, length-append, lit≤}
use Rattle.std.specs.List.{list_all, list_any}
use Rattle.std.specs.Int.RustNames.{unsigned_abs}
use Rattle.std.proofs.lemmas.Bool.{and_from, eq-eqb, leb-true}
use Rattle.std.proofs.lemmas.List.{take_more, take_all, append-nil, append_assoc}
use Rattle.toml.specs.Data.{Data, Members, get_member}
use Rattle.psi_state.specs.State.{AreCapacities}
use Rattle.psi_guard.specs.Refusals.{refusal_at, refusal_after, FitsQueue}
use Rattle.psi_guard.specs.Refusals.{names as is_named}
use Rattle.psi_guard.specs.Refusals.{refusal_of as parts_refusal}
use Rattle.psi_guard.specs.declared.Part.{Part}
use Rattle.psi_route.specs.Refusals.{is_self_target, are_tables, is_size_off}
use Rattle.psi_route.specs.declared.Source.{Source}
use Rattle.psi_route.specs.declared.Full.TheVariants.{Lost}
use Rattle.psi_route.specs.Accepted.{IsSource}
use Rattle.psi_kinds.specs.Refusals.{is_empty}
use Rattle.psi_kinds.specs.declared.Kind.{Kind}
use Rattle.psi_kinds.specs.declared.Kind.TheVariants as kind
use Rattle.psi_net_document.specs.Refusal.{holds_or}
use Rattle.psi_net_document.specs.Values.{no_unknown, required, optional, number_in, integer_in, elements_in, counted_in, each}
use Rattle.psi_net_document.specs.References.{is_in, queue_in, targets_in, some_targets_in}
use Rattle.psi_net_document.specs.Targets.{AreTargets}
use Rattle.psi_state.specs.Repeats.{repeats}
use Rattle.psi_net.specs.KindTables.{source_in, queue_of_source, full_in, number_step, row_step, table_of, size_fits, arrival_of, service_of, index_of, batch_of, negative_of, fork_of, joined_in, join_of}
use Rattle.psi_net_model.specs.Expansion.{first_server}
use Rattle.psi_net.specs.PartTables.{part_keys, part_queue, part_numbers, unless_empty, part_of, part_step, parts_in, guarded_of}
use Rattle.psi_net.specs.EventTables.{kind_of}
use Rattle.psi_net_model.specs.Valid.{IsAccepted}
use Rattle.psi_net_document.specs.declared.refusals.NetCause.TheVariants.{OutOfRange}
use Rattle.psi_net_document.specs.declared.refusals.Place.{Place}
use Rattle.psi_net_document.specs.declared.refusals.NetRefusal.{NetRefusal}
use Rattle.psi_net.specs.declared.words.KindWord.{KindWord}
use Rattle.psi_net.specs.declared.words.KindWord.TheVariants as word
use Rattle.psi_net_document.proofs.ReadingLemmas.{if_ok, bind_ok, ok_same, held, required_ok, optional_kept, number_range, integer_range, elements_count, each_kept, counted_kept, queue_small}
use Rattle.psi_net_document.proofs.PigeonLemmas.{no_targets}
use Rattle.psi_net_document.proofs.TargetLemmas.{AreSomeTargets, targets_kept, some_targets_kept, target_small, target_apart, away, among}
use Rattle.psi_net_model.proofs.KindLemmas.{accepted, first_source}

-- a list of at least one isn't empty
pub not_empty : {A : Type 0} (xs : List A) → 0 < length xs → is_empty xs ≡ false
not_empty [] some = absurd (omega arith)
not_empty (x ∷ xs) some = refl

-- no target is the source
self_away : (s : Option Source) (qs : List ℕ) → list_all (λ q. not (is_in q (queue_of_source s))) qs ≡ true → is_self_target s qs ≡ false
self_away None qs h = refl
self_away (Some source) qs h = away source.queue qs h

-- what the list at a required key keeps, fact by fact
module _ (caps : List ℕ) (names : List (List ℕ)) (sources : List ℕ) (same : length names ≡ length caps) (place : Place) (key : List ℕ) (found : Option Data) (qs : List ℕ)
    (h : required place key (some_targets_in place key names sources) found ≡ Ok qs) where
  targets_at : AreSomeTargets (length caps) sources qs
  targets_at =
      let read = required_ok place key (some_targets_in place key names sources) found qs h in
      subst (λ (n : ℕ). AreSomeTargets n sources qs) same (some_targets_kept place key names sources read.0 qs read.1)

  some_at : is_empty qs ≡ false
  some_at = not_empty qs targets_at.some

  distinct_at : repeats qs ≡ false
  distinct_at = targets_at.distinct

  apart_at : list_all (λ q. not (is_in q sources)) qs ≡ true
  apart_at = targets_at.apart

  below_at : (i : ℕ) → i < length qs → slice_index qs i < length caps
  below_at i small = among (length caps) qs targets_at.within i small

  away_at : (s : Option Source) → sources ≡ queue_of_source s → is_self_target s qs ≡ false
  away_at s is = self_away s qs (subst (λ (ps : List ℕ). list_all (λ q. not (is_in q ps)) qs ≡ true) is apart_at)

-- one row more is one table more
tables_more : (caps qs : List ℕ) (ts : List (List ℕ)) (q : ℕ) (t : List ℕ) → are_tables caps qs ts ≡ true → nat_eq (length t) (slice_index caps q) ≡ true
    → are_tables caps (qs ++ q ∷ []) (ts ++ t ∷ []) ≡ true
tables_more caps [] [] q t all one = and_from (nat_eq (length t) (slice_index caps q)) true one refl
tables_more caps [] (u ∷ ts) q t all one = absurd cc
tables_more caps (p ∷ qs) [] q t all one = absurd cc
tables_more caps (p ∷ qs) (u ∷ ts) q t all one = grind (arith, tables_more caps qs ts q t)

tables_next : (caps to : List ℕ) (ts : List (List ℕ)) (t : List ℕ) → length ts < length to → are_tables caps (take (length ts) to) ts ≡ true
    → length t ≡ slice_index caps (slice_index to (length ts)) → are_tables caps (take (length ts + 1) to) (ts ++ t ∷ []) ≡ true
tables_next caps to ts t small all one = rw (take_more to (length ts) 0 small) (tables_more caps (take (length ts) to) ts (slice_index to (length ts)) t all (eq-eqb (length t) (slice_index caps (slice_index to (length ts))) one))

-- what the rows read so far keep
record AreRows (caps to : List ℕ) (n : ℕ) (rows : List (List ℕ)) : Type 0 where
  tables : are_tables caps (take (length rows) to) rows ≡ true
  count : n ≡ length rows + 1

number_step_kept : (place : Place) (n : ℕ) (s t : List ℕ) (d : Data) → n ≡ length s + 1 → number_step place n s d ≡ Ok t → n + 1 ≡ length t + 1
unfolding number_step
number_step_kept place n s t d count h = grind (arith, length-append {A = ℕ})

numbers_count : (place : Place) (ds : List Data) (ns : List ℕ) → each (number_step place) 1 [] ds ≡ Ok ns → length ns ≡ length ds
numbers_count place ds ns h =
    let all : 1 + length ds ≡ length ns + 1 = each_kept (λ n (s : List ℕ). n ≡ length s + 1) (number_step place) (λ n s t d k r. number_step_kept place n s t d k r) ds 1 (1 + length ds) [] ns refl refl h in
    omega arith

row_step_kept : (place : Place) (caps to : List ℕ) (n : ℕ) (s t : List (List ℕ)) (d : Data) → n < 1 + length to → AreRows caps to n s → row_step place caps to n s d ≡ Ok t → AreRows caps to (n + 1) t
unfolding row_step counted_in
row_step_kept place caps to n s t d small kept h = grind (arith, numbers_count, length-append {A = List ℕ}, tables_next)

table_kept : (place : Place) (caps to : List ℕ) (d : Data) (table : List (List ℕ)) → table_of place caps to d ≡ Ok table → are_tables caps to table ≡ true
unfolding table_of
table_kept place caps to d table h =
    let kept : AreRows caps to (1 + length to) table =
    counted_kept place (codes "table") (length to) d (AreRows caps to) (row_step place caps to) (λ n s t e small k r. row_step_kept place caps to n s t e small k r) [] table
    (record { tables = refl; count = refl }) h in
    let count = kept.count in
    subst (λ (qs : List ℕ). are_tables caps qs table ≡ true) (take_all (length table) to (omega arith)) kept.tables

-- a size that fits is in its range
fit_all : (caps : List ℕ) (size : ℕ) (qs : List ℕ) → list_all (λ q. nat_le size (slice_index caps q)) qs ≡ true → list_any (λ q. nat_lt (slice_index caps q) size) qs ≡ false
fit_all caps size [] h = refl
fit_all caps size (q ∷ qs) h = grind (arith, fit_all caps size qs)

size_kept : (place : Place) (caps : List ℕ) (source : Option Source) (to : List ℕ) (size fitting : ℕ) → 1 ≤ size → is_empty to ≡ false → size_fits place caps (is_some source) to size ≡ Ok fitting
    → is_size_off caps source fitting to ≡ false
unfolding size_fits
size_kept place caps source to size fitting least some h = grind (arith, fit_all)

on_away : (s : Option Source) (q : ℕ) → is_in q (queue_of_source s) ≡ false → is_self_target s (q ∷ []) ≡ false
on_away s q h = grind arith

-- a part that is read can follow those before it
part_queue_kept : (place : Place) (names : List (List ℕ)) (earlier : List Part) (d : Data) (q : ℕ) → part_queue place names earlier d ≡ Ok q
    → (q < length names) × (is_named earlier q ≡ false)
unfolding part_queue
part_queue_kept place names earlier d q h = grind (arith, queue_small)

-- a number of a part, from 0 to the capacity of its queue
abbrev optional_number : Place → List ℕ → ℕ → ℕ → Members → Result ℕ NetRefusal
optional_number place key default cap ms = optional default (number_in place key 0 cap) (get_member key ms)

at_most : (place : Place) (key : List ℕ) (default cap : ℕ) (ms : Members) (n : ℕ) → default ≡ cap → optional_number place key default cap ms ≡ Ok n → n ≤ cap
at_most place key default cap ms n same h = grind (arith, number_range)

-- a part that fits its queue, of another queue than the earlier parts, isn't refused
follows : (caps : List ℕ) (earlier : List Part) (part : Part) → FitsQueue caps part → is_named earlier part.queue ≡ false → refusal_at caps earlier part ≡ None
follows caps earlier part fits new = grind arith

-- a part whose guard and limits leave room
record HasRoom (read part : Part) : Type 0 where
  same : read ≡ part
  guard : read.least ≤ read.most
  limits : read.floor ≤ read.ceiling

ranges_kept : (place : Place) (read part : Part) → unless_empty place read ≡ Ok part → HasRoom read part
unfolding unless_empty
ranges_kept place read part h =
    let guarded = bind_ok (holds_or _ _) _ part h in
    let bounded = bind_ok (holds_or _ _) _ part guarded.2 in
    record {
      same = ok_same read part bounded.2;
      guard = leb-true read.least read.most (held _ _ guarded.0 guarded.1);
      limits = leb-true read.floor read.ceiling (held _ _ bounded.0 bounded.1);
    }

-- the numbers that were read of a part of a queue that holds so many
record HasNumbers (queue cap : ℕ) (part : Part) : Type 0 where
  same_queue : part.queue ≡ queue
  most : part.most ≤ cap
  ceiling : part.ceiling ≤ cap
  shift : unsigned_abs part.shift ≤ 65535

numbers_kept : (place : Place) (queue cap : ℕ) (ms : Members) (part : Part) → part_numbers place queue cap ms ≡ Ok part → HasNumbers queue cap part
unfolding part_numbers
numbers_kept place queue cap ms part h =
    let least = bind_ok (optional_number place (codes "least") 0 cap ms) _ part h in
    let most = bind_ok (optional_number place (codes "most") cap cap ms) _ part least.2 in
    let shift = bind_ok (optional (pos 0) (integer_in place (codes "shift") 65535) (get_member (codes "shift") ms)) _ part most.2 in
    let floor = bind_ok (optional_number place (codes "floor") 0 cap ms) _ part shift.2 in
    let ceiling = bind_ok (optional_number place (codes "ceiling") cap cap ms) _ part floor.2 in
    subst (λ (p : Part). HasNumbers queue cap p)
    (ok_same (record { queue = queue; least = least.0; most = most.0; shift = shift.0; floor = floor.0; ceiling = ceiling.0 }) part ceiling.2) (record {
      same_queue = refl;
      most = at_most place (codes "most") cap cap ms most.0 refl most.1;
      ceiling = at_most place (codes "ceiling") cap cap ms ceiling.0 refl ceiling.1;
      shift = optional_kept (λ (z : ℤ). unsigned_abs z ≤ 65535) (pos 0) (integer_in place (codes "shift") 65535) (get_member (codes "shift") ms) shift.0 (lit≤ tt) (λ d r. integer_range place (codes "shift") 65535 d shift.0 r) shift.1;
    })

part_kept : (place : Place) (keys : List (List ℕ)) (caps : List ℕ) → length keys ≡ length caps → (earlier : List Part) (ms : Members) (part : Part) → part_of place keys caps earlier ms ≡ Ok part
    → refusal_at caps earlier part ≡ None
unfolding part_of
part_kept place keys caps same earlier ms part h =
    let known = bind_ok (no_unknown place part_keys ms) _ part h in
    let queue = bind_ok (required place (codes "queue") (part_queue place keys earlier) (get_member (codes "queue") ms)) _ part known.2 in
    let numbers = bind_ok (part_numbers place queue.0 (slice_index caps queue.0) ms) (unless_empty place) part queue.2 in
    let kept = numbers_kept place queue.0 (slice_index caps queue.0) ms numbers.0 numbers.1 in
    let ranges = ranges_kept place numbers.0 part numbers.2 in
    let read = required_ok place (codes "queue") (part_queue place keys earlier) (get_member (codes "queue") ms) queue.0 queue.1 in
    let named = part_queue_kept place keys earlier read.0 queue.0 read.1 in
    let here = sym kept.same_queue in
    subst (λ (p : Part). refusal_at caps earlier p ≡ None) ranges.same
    (follows caps earlier numbers.0 (record {
      queue = subst (λ (q : ℕ). q < length caps) here (subst (λ (n : ℕ). queue.0 < n) same named.0);
      guard = ranges.guard;
      most = subst (λ (q : ℕ). numbers.0.most ≤ slice_index caps q) here kept.most;
      limits = ranges.limits;
      ceiling = subst (λ (q : ℕ). numbers.0.ceiling ≤ slice_index caps q) here kept.ceiling;
      shift = kept.shift;
    }) (subst (λ (q : ℕ). is_named earlier q ≡ false) here named.1))

-- one part more
after_more : (caps : List ℕ) (earlier parts : List Part) (part : Part) → refusal_after caps earlier parts ≡ None → refusal_at caps (earlier ++ parts) part ≡ None
    → refusal_after caps earlier (parts ++ part ∷ []) ≡ None
after_more caps earlier [] part so at = grind (arith, append-nil {A = Part})
after_more caps earlier (p ∷ parts) part so at = grind (arith, append_assoc {A = Part}, after_more caps (earlier ++ p ∷ []) parts part)

-- what the parts read so far keep
record AreParts (caps : List ℕ) (n : ℕ) (parts : List Part) : Type 0 where
  follow : parts_refusal caps parts ≡ None
  count : n ≡ length parts + 1

part_step_kept : (place : Place) (names : List (List ℕ)) (caps : List ℕ) → length names ≡ length caps → (n : ℕ) (s t : List Part) (d : Data) → AreParts caps n s → part_step place names caps n s d ≡ Ok t → AreParts caps (n + 1) t
unfolding part_step
part_step_kept place names caps same n s t d kept h = grind (arith, after_more, part_kept, length-append {A = Part})

record ArePartsOf (caps : List ℕ) (parts : List Part) : Type 0 where
  follow : parts_refusal caps parts ≡ None
  some : is_empty parts ≡ false

parts_kept : (place : Place) (names : List (List ℕ)) (caps : List ℕ) → length names ≡ length caps → (d : Data) (parts : List Part) → parts_in place names caps d ≡ Ok parts → ArePartsOf caps parts
unfolding parts_in
parts_kept place names caps same d parts h =
    let tables = bind_ok (elements_in place (codes "part") OutOfRange 32 d) _ parts h in
    let least = (elements_count place (codes "part") OutOfRange 32 d tables.0 tables.1).0 in
    let kept : AreParts caps (1 + length tables.0) parts =
    each_kept (AreParts caps) (part_step place names caps) (λ n s t e k r. part_step_kept place names caps same n s t e k r) tables.0 1 (1 + length tables.0) [] parts refl
    (record { follow = refl; count = refl }) tables.2 in
    let count = kept.count in
    record { follow = kept.follow; some = not_empty parts (omega arith) }

source_kept : (caps : List ℕ) (names : List (List ℕ)) → length names ≡ length caps → AreCapacities caps → (place : Place) (found : Option Data) (s : Option Source)
    → optional None (source_in place names) found ≡ Ok s → IfSome s (λ source. IsSource caps source)
unfolding source_in
source_kept caps names same valid place found s h = grind (arith, first_source, queue_small)

-- each kind that is read is accepted
module _ (caps : List ℕ) (names : List (List ℕ)) (same : length names ≡ length caps) (valid : AreCapacities caps) (place : Place) where
  arrival_kept : (ms : Members) → IfOk (arrival_of place names ms) (IsAccepted caps)
  unfolding arrival_of
  arrival_kept ms = grind (arith, accepted, some_at, distinct_at, below_at)

  service_kept : (ms : Members) (k : Kind) → service_of place names ms ≡ Ok k → IsAccepted caps k
  unfolding service_of
  service_kept ms k h =
      let from = bind_ok (required place (codes "from") (queue_in place (codes "from") names) (get_member (codes "from") ms)) _ k h in
      let to = bind_ok (optional [] (targets_in place (codes "to") names (from.0 ∷ [])) (get_member (codes "to") ms)) _ k from.2 in
      let full = bind_ok (optional Lost (full_in place) (get_member (codes "full") ms)) _ k to.2 in
      let source = required_ok place (codes "from") (queue_in place (codes "from") names) (get_member (codes "from") ms) from.0 from.1 in
      let small : from.0 < length caps = subst (λ (n : ℕ). from.0 < n) same (queue_small place (codes "from") names source.0 from.0 source.1) in
      let kept : AreTargets (length caps) (from.0 ∷ []) to.0 =
      optional_kept (λ (qs : List ℕ). AreTargets (length caps) (from.0 ∷ []) qs) [] (targets_in place (codes "to") names (from.0 ∷ [])) (get_member (codes "to") ms) to.0
      (no_targets (length caps) (from.0 ∷ []))
      (λ d r. subst (λ (n : ℕ). AreTargets n (from.0 ∷ []) to.0) same (targets_kept place (codes "to") names (from.0 ∷ []) d to.0 r)) to.1 in
      subst (λ (x : Kind). IsAccepted caps x) (ok_same (kind.Service (first_server from.0) to.0 full.0) k full.2) (record {
        named = (first_source caps valid from.0 small, among (length caps) to.0 kept.within);
        accepted = accepted caps (kind.Service (first_server from.0) to.0 full.0) refl kept.distinct (away from.0 to.0 kept.apart) refl refl refl;
      })

  index_kept : (ms : Members) (k : Kind) → index_of place names caps ms ≡ Ok k → IsAccepted caps k
  unfolding index_of
  index_kept ms k h =
      let from = bind_ok (optional None (source_in place names) (get_member (codes "from") ms)) _ k h in
      let to = bind_ok (required place (codes "to") (some_targets_in place (codes "to") names (queue_of_source from.0)) (get_member (codes "to") ms)) _ k from.2 in
      let table = bind_ok (required place (codes "table") (table_of place caps to.0) (get_member (codes "table") ms)) _ k to.2 in
      let full = bind_ok (optional Lost (full_in place) (get_member (codes "full") ms)) _ k table.2 in
      let size = bind_ok (optional 1 (number_in place (codes "size") 1 65535) (get_member (codes "size") ms)) _ k full.2 in
      let fitting = bind_ok (size_fits place caps (is_some from.0) to.0 size.0) _ k size.2 in
      let kept = targets_at caps names (queue_of_source from.0) same place (codes "to") (get_member (codes "to") ms) to.0 to.1 in
      let rows = required_ok place (codes "table") (table_of place caps to.0) (get_member (codes "table") ms) table.0 table.1 in
      let least : 1 ≤ size.0 = optional_kept (λ (n : ℕ). 1 ≤ n) 1 (number_in place (codes "size") 1 65535) (get_member (codes "size") ms) size.0 (omega arith)
      (λ d r. (number_range place (codes "size") 1 65535 d size.0 r).0) size.1 in
      subst (λ (x : Kind). IsAccepted caps x) (ok_same (kind.Index from.0 to.0 table.0 full.0 fitting.0) k fitting.2) (record {
        named = (source_kept caps names same valid place (get_member (codes "from") ms) from.0 from.1, among (length caps) to.0 kept.within);
        accepted = accepted caps (kind.Index from.0 to.0 table.0 full.0 fitting.0) (not_empty to.0 kept.some) kept.distinct (self_away from.0 to.0 kept.apart)
            (ap not (table_kept place caps to.0 rows.0 table.0 rows.1)) (size_kept place caps from.0 to.0 size.0 fitting.0 least (not_empty to.0 kept.some) fitting.1) refl;
      })

  batch_kept : (ms : Members) → IfOk (batch_of place names caps ms) (IsAccepted caps)
  unfolding batch_of
  batch_kept ms = grind (arith, accepted, some_at, distinct_at, below_at, number_range, size_kept place caps None)

  negative_kept : (ms : Members) → IfOk (negative_of place names ms) (IsAccepted caps)
  unfolding negative_of
  negative_kept ms = grind (arith, accepted, source_kept, target_small, target_apart, on_away, number_range)

  fork_kept : (ms : Members) → IfOk (fork_of place names ms) (IsAccepted caps)
  unfolding fork_of
  fork_kept ms = grind (arith, accepted, source_kept, some_at, distinct_at, away_at, below_at)

  join_kept : (ms : Members) → IfOk (join_of place names ms) (IsAccepted caps)
  unfolding join_of joined_in
  join_kept ms = grind (arith, accepted, some_at, distinct_at, below_at, target_small, target_apart)

  guarded_kept : (ms : Members) → IfOk (guarded_of place names caps ms) (IsAccepted caps)
  unfolding guarded_of
  guarded_kept ms = grind (arith, accepted, parts_kept)

  pub kind_kept : (w : KindWord) (ms : Members) (k : Kind) → kind_of place w names caps ms ≡ Ok k → IsAccepted caps k
  unfolding kind_of
  kind_kept word.Arrival ms k h = if_ok (IsAccepted caps) (arrival_kept ms) h
  kind_kept word.Service ms k h = service_kept ms k h
  kind_kept word.Index ms k h = index_kept ms k h
  kind_kept word.Batch ms k h = if_ok (IsAccepted caps) (batch_kept ms) h
  kind_kept word.Negative ms k h = if_ok (IsAccepted caps) (negative_kept ms) h
  kind_kept word.Fork ms k h = if_ok (IsAccepted caps) (fork_kept ms) h
  kind_kept word.Join ms k h = if_ok (IsAccepted caps) (join_kept ms) h
  kind_kept word.Guarded ms k h = if_ok (IsAccepted caps) (guarded_kept ms) h
