-- Every event that is read is accepted, and their rates make a wheel.
use Rattle.std.specs.Prelude.{◌≡◌, ℕ, ◌+◌, ◌<◌, ◌≤◌, List, [], ◌∷◌, ◌++◌, length, map, codes, IfSome, IfOk, Option, Some, None, Ok, refl}
use Rattle.std.proofs.Common.{ap, sym, ◌∙◌, subst, arith}
use Rattle.std.proofs.lemmas.List.{length-map}
use Rattle.std.proofs.lemmas.List.Elements.{All-nil, All-append, All-push}
use Rattle.toml.specs.Data.{Data, Members}
use Rattle.psi_state.specs.State.{AreCapacities}
use Rattle.psi_rate.specs.Rates.{greatest_total, total}
use Rattle.psi_net_document.specs.Refusal.{top, event_place}
use Rattle.psi_net_document.specs.Values.{elements_in, table_in, each}
use Rattle.psi_net_model.specs.Expansion.{source_of, servers_at, expanded, AreSourced, values_of, count_key}
use Rattle.psi_net.specs.EventTables.{event_of, within_limits, are_within, Listed, event_step, events_in, events_of}
use Rattle.psi_net_model.specs.Valid.{AreListed}
use Rattle.psi_net_document.specs.declared.refusals.NetCause.TheVariants.{NoEvents}
use Rattle.psi_net_document.specs.declared.refusals.Place.{Place}
use Rattle.psi_net_model.specs.declared.entries.Queue.{Queue}
use Rattle.psi_net_model.specs.declared.entries.NamedEvent.{NamedEvent}
use Rattle.psi_net_document.proofs.ReadingLemmas.{if_ok, bind_ok, ok_same, number_range, elements_count, each_kept}
use Rattle.psi_net_model.proofs.CopyLemmas.{length_more}
use Rattle.psi_net_model.proofs.QueueLemmas.{capacities_kept, names_same, servers_most}
use Rattle.psi_net.proofs.KeptKindsLemmas.{kind_kept}
use Rattle.psi_net_model.proofs.EventLemmas.{IsEvent, source_small, expanded_kept, AreEvents, AreEventsOf, events_of_kept}

pub event_kept : (place : Place) (version : ℕ) (earlier names : List (List ℕ)) (caps : List ℕ) → length names ≡ length caps → AreCapacities caps → (ms : Members)
    → IfOk (event_of place version earlier names caps ms) (IsEvent caps)
unfolding event_of
event_kept place version earlier names caps same valid ms = grind (arith, kind_kept, number_range)

-- the source of an event that is read with the names and capacities of these queues
pub source_read : (place : Place) (version : ℕ) (earlier names : List (List ℕ)) (caps : List ℕ) (queues : List Queue) (ms : Members) (event : NamedEvent) → AreListed queues
    → names ≡ map (λ q. q.name) queues → caps ≡ map (λ q. q.capacity) queues → event_of place version earlier names caps ms ≡ Ok event → IfSome (source_of event.kind) (λ s. s.queue < length queues)
source_read place version earlier names caps queues ms event listed is are h =
    let valid = subst (λ (cs : List ℕ). AreCapacities cs) (sym are) (capacities_kept queues listed) in
    let kept = if_ok (IsEvent caps) (event_kept place version earlier names caps (names_same queues names caps is are) valid ms) h in
    subst (λ (n : ℕ). IfSome (source_of event.kind) (λ s. s.queue < n)) (ap (λ (cs : List ℕ). length cs) are ∙ length-map queues (λ (q : Queue). q.capacity)) (source_small caps event.kind kept.kind.named)

-- one event more whose source is one of the queues
pub sourced_more : (queues : List Queue) (events : List NamedEvent) (event : NamedEvent) → AreSourced queues events → IfSome (source_of event.kind) (λ s. s.queue < length queues)
    → AreSourced queues (events ++ event ∷ [])
sourced_more queues events event kept one = record { each = All-push (λ (e : NamedEvent). IfSome (source_of e.kind) (λ s. s.queue < length queues)) events event kept.each one }

pub none_sourced : (queues : List Queue) → AreSourced queues []
none_sourced queues = record { each = All-nil (λ (e : NamedEvent). IfSome (source_of e.kind) (λ s. s.queue < length queues)) }

-- and of the tables: each has at least one event
record AreRead (queues : List Queue) (n : ℕ) (read : Listed) : Type 0 where
  events : AreEvents (map (λ q. q.capacity) queues) read.events
  count : n ≤ length read.events + 1

limits_kept : (place : Place) (key : List ℕ) (n v r : ℕ) (u : Unit {0}) → within_limits place key n v r ≡ Ok u → (n ≤ 1024) × (r ≤ greatest_total)
unfolding within_limits
limits_kept place key n v r u h = grind arith

event_step_kept : (version : ℕ) (queues : List Queue) → AreListed queues → (n : ℕ) (s t : Listed) (d : Data) → AreRead queues n s → event_step version queues n s d ≡ Ok t → AreRead queues (n + 1) t
unfolding event_step are_within
event_step_kept version queues listed n s t d kept h =
    let ms = bind_ok (table_in (event_place n) d) _ t h in
    let event = bind_ok (event_of (event_place n) version s.names (map (λ q. q.name) queues) (map (λ q. q.capacity) queues) ms.0) _ t ms.2 in
    let within = bind_ok (are_within (event_place n) event.0 (s.events ++ expanded queues event.0)) _ t event.2 in
    let limits = limits_kept (event_place n) (count_key (source_of event.0.kind)) (length (s.events ++ expanded queues event.0)) (values_of (s.events ++ expanded queues event.0))
    (total (map (λ e. e.rate) (s.events ++ expanded queues event.0))) within.0 within.1 in
    let one = if_ok (IsEvent (map (λ q. q.capacity) queues)) (event_kept (event_place n) version s.names (map (λ q. q.name) queues) (map (λ q. q.capacity) queues) (names_same queues (map (λ q. q.name) queues) (map (λ q. q.capacity) queues) refl refl) (capacities_kept queues listed) ms.0) event.1 in
    let source = source_read (event_place n) version s.names (map (λ q. q.name) queues) (map (λ q. q.capacity) queues) queues ms.0 event.0 listed refl refl event.1 in
    subst (λ (l : Listed). AreRead queues (n + 1) l) (ok_same _ t within.2) (record {
      events = record {
        each = All-append (IsEvent (map (λ q. q.capacity) queues)) s.events (expanded queues event.0) kept.events.each (expanded_kept queues event.0 listed source one);
        few = limits.0;
        light = limits.1;
      };
      count = (let before = kept.count in let joined = length_more s.events (servers_at queues (source_of event.0.kind)) event.0 in let least = (servers_most queues (source_of event.0.kind) listed source).0 in omega arith);
    })

pub events_kept : (version : ℕ) (queues : List Queue) (found : Option Data) (events : List NamedEvent) → AreListed queues → events_of version queues found ≡ Ok events
    → AreEventsOf (map (λ q. q.capacity) queues) events
unfolding events_in
events_kept version queues None events listed h = absurd cc
events_kept version queues (Some d) events listed h =
    let tables = bind_ok (elements_in top (codes "event") NoEvents 1024 d) _ events h in
    let read = bind_ok (each (event_step version queues) 1 (record { names = []; events = [] }) tables.0) _ events tables.2 in
    let least = (elements_count top (codes "event") NoEvents 1024 d tables.0 tables.1).0 in
    let kept : AreRead queues (1 + length tables.0) read.0 =
    each_kept (AreRead queues) (event_step version queues) (λ n s t e k r. event_step_kept version queues listed n s t e k r) tables.0 1 (1 + length tables.0) (record { names = []; events = [] }) read.0 refl
    (record { events = record { each = All-nil (IsEvent (map (λ q. q.capacity) queues)); few = omega arith; light = omega arith }; count = omega arith }) read.1 in
    let count = kept.count in
    subst (λ (es : List NamedEvent). AreEventsOf (map (λ q. q.capacity) queues) es) (ok_same read.0.events events read.2)
    (events_of_kept (map (λ q. q.capacity) queues) read.0.events (omega arith) kept.events)
