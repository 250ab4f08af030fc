-- The events of a network: each is accepted, also at another server of its source, and their rates make a wheel.
use Rattle.std.specs.Prelude.{◌≡◌, ℕ, zero, suc, ◌+◌, ◌<◌, ◌≤◌, List, length, map, slice_index, All, IfSome, Option, Some, None}
use Rattle.std.proofs.Common.{◌∙◌, arith}
use Rattle.std.proofs.lemmas.List.{length-map}
use Rattle.std.proofs.lemmas.List.Elements.{All-nil, All-cons, All-weaker, All-map}
use Rattle.psi_state.specs.State.{numbers_from}
use Rattle.psi_rate.specs.Rates.{AreRates, greatest_total, total}
use Rattle.psi_route.specs.declared.Source.{Source}
use Rattle.psi_kinds.specs.Kinds.{IsKindOf}
use Rattle.psi_kinds.specs.Refusals.{refusal_of}
use Rattle.psi_kinds.specs.declared.Kind.{Kind}
use Rattle.psi_net_model.specs.Expansion.{source_of, at_server, servers_at, served, served_by, expanded}
use Rattle.psi_net_model.specs.Valid.{AreListed, IsAccepted}
use Rattle.psi_net_model.specs.declared.entries.Queue.{Queue}
use Rattle.psi_net_model.specs.declared.entries.NamedEvent.{NamedEvent}
use Rattle.psi_net_model.proofs.QueueLemmas.{servers_fit}

-- what an event of a network keeps
pub record IsEvent (caps : List ℕ) (event : NamedEvent) : Type 0 where
  pub kind : IsAccepted caps event.kind
  pub least : 1 ≤ event.rate
  pub most : event.rate ≤ 1048576

-- the queue of a kind's source
pub source_small : (caps : List ℕ) (k : Kind) → IsKindOf caps k → IfSome (source_of k) (λ s. s.queue < length caps)
source_small caps k h = grind arith

-- another server of a source
at_kind : (caps : List ℕ) (k : Kind) (n : ℕ) → IsKindOf caps k → IfSome (source_of k) (λ x. (1 ≤ n) × (n ≤ slice_index caps x.queue)) → IsKindOf caps (at_server n k)
at_kind caps k n h fits = grind arith

same_refusal : (caps : List ℕ) (k : Kind) (n : ℕ) → refusal_of caps (at_server n k) ≡ refusal_of caps k
unfolding refusal_of
same_refusal caps k n = grind arith

-- what some of the events of a network keep
pub record AreEvents (caps : List ℕ) (events : List NamedEvent) : Type 0 where
  pub each : All (IsEvent caps) events
  pub few : length events ≤ 1024
  pub light : total (map (λ e. e.rate) events) ≤ greatest_total

-- each server's event is one of them
first_fits : (caps : List ℕ) (first most : ℕ) (s : Option Source) → 1 ≤ first → first ≤ most → IfSome s (λ x. most ≤ slice_index caps x.queue) → IfSome s (λ x. (1 ≤ first) × (first ≤ slice_index caps x.queue))
first_fits caps first most s some fits h = grind arith

served_kept : (caps : List ℕ) (event : NamedEvent) (first n most : ℕ) → IsEvent caps event → 1 ≤ first → first + n ≤ most + 1
    → IfSome (source_of event.kind) (λ s. most ≤ slice_index caps s.queue) → All (IsEvent caps) (map (served event) (numbers_from first n))
served_kept caps event first zero most kept some fits small = All-nil (IsEvent caps)
served_kept caps event first (suc n) most kept some fits small =
    All-cons (IsEvent caps) (served event first) (map (served event) (numbers_from (suc first) n)) (record {
      kind = record { named = at_kind caps event.kind first kept.kind.named (first_fits caps first most (source_of event.kind) some (omega arith) small); accepted = same_refusal caps event.kind first ∙ kept.kind.accepted };
      least = kept.least;
      most = kept.most;
    }) (served_kept caps event (suc first) n most kept (omega arith) (omega arith) small)

most_fits : (queues : List Queue) (source : Option Source) → AreListed queues → IfSome source (λ s. s.queue < length queues)
    → IfSome source (λ s. servers_at queues source ≤ slice_index (map (λ q. q.capacity) queues) s.queue)
most_fits queues None kept small = tt
most_fits queues (Some source) kept small = servers_fit queues source.queue kept small

pub expanded_kept : (queues : List Queue) (event : NamedEvent) → AreListed queues → IfSome (source_of event.kind) (λ s. s.queue < length queues) → IsEvent (map (λ q. q.capacity) queues) event
    → All (IsEvent (map (λ q. q.capacity) queues)) (expanded queues event)
unfolding served_by
expanded_kept queues event listed small kept =
    served_kept (map (λ q. q.capacity) queues) event 1 (servers_at queues (source_of event.kind)) (servers_at queues (source_of event.kind)) kept (omega arith) (omega arith)
    (most_fits queues (source_of event.kind) listed small)

-- what all of them keep
pub record AreEventsOf (caps : List ℕ) (events : List NamedEvent) : Type 0 where
  pub rates : AreRates (map (λ e. e.rate) events)
  pub kinds : All (λ e. IsAccepted caps e.kind) events

pub events_of_kept : (caps : List ℕ) (events : List NamedEvent) → 1 ≤ length events → AreEvents caps events → AreEventsOf caps events
events_of_kept caps events some kept =
    let sized : length (map (λ (e : NamedEvent). e.rate) events) ≡ length events = length-map events (λ (e : NamedEvent). e.rate) in
    let rates : All (λ r. (1 ≤ r) × (r ≤ 1048576)) (map (λ (e : NamedEvent). e.rate) events) =
    All-map (λ r. (1 ≤ r) × (r ≤ 1048576)) (λ (e : NamedEvent). e.rate) events (All-weaker (IsEvent caps) (λ e. (1 ≤ e.rate) × (e.rate ≤ 1048576)) (λ e one. (one.least, one.most)) events kept.each) in
    record {
      rates = record {
        some = omega arith;
        few = (let few = kept.few in omega arith);
        least = λ i small. (rates i 0 small).0;
        most = λ i small. (rates i 0 small).1;
        bounded = kept.light;
      };
      kinds = All-weaker (IsEvent caps) (λ e. IsAccepted caps e.kind) (λ e one. one.kind) events kept.each;
    }
