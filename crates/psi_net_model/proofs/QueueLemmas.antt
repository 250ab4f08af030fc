-- The queues of a network: their numbers, and what the lists of these keep.
use Rattle.std.specs.Prelude.{◌≡◌, ℕ, ◌<◌, ◌≤◌, List, [], length, map, slice_index, Option, Some, None, IfSome, refl}
use Rattle.std.proofs.Common.{arith}
use Rattle.std.proofs.lemmas.List.{length-map, get_or-map}
use Rattle.psi_state.specs.State.{AreCapacities}
use Rattle.psi_route.specs.declared.Source.{Source}
use Rattle.psi_net_model.specs.Expansion.{servers_at}
use Rattle.psi_net_model.specs.Valid.{IsQueue, AreListed}
use Rattle.psi_net_model.specs.declared.entries.Queue.{Queue}

pub no_queue : Queue
no_queue = record { name = []; capacity = 0; servers = 0 }

-- the numbers of a queue, as the lists of them have it
numbers_at : (queues : List Queue) (i : ℕ) → AreListed queues → i < length queues
    → IsQueue (record { name = []; capacity = slice_index (map (λ q. q.capacity) queues) i; servers = slice_index (map (λ q. q.servers) queues) i })
numbers_at queues i kept small =
    let one = kept.each i no_queue small in
    rw (get_or-map (λ (q : Queue). q.capacity) queues i no_queue 0 small, get_or-map (λ (q : Queue). q.servers) queues i no_queue 0 small)
    (record { some = one.some; most = one.most; served = one.served; servers = one.servers; fits = one.fits })

-- their capacities are those of states
pub capacities_kept : (queues : List Queue) → AreListed queues → AreCapacities (map (λ q. q.capacity) queues)
capacities_kept queues kept =
    let sized : length (map (λ (q : Queue). q.capacity) queues) ≡ length queues = length-map queues (λ (q : Queue). q.capacity) in
    record {
      some = (let some = kept.some in omega arith);
      few = (let few = kept.few in omega arith);
      least = λ i small. (numbers_at queues i kept (omega arith)).some;
      most = λ i small. (numbers_at queues i kept (omega arith)).most;
    }

-- the servers of a source are 1 to 64, and no more than its queue holds
pub servers_most : (queues : List Queue) (source : Option Source) → AreListed queues → IfSome source (λ s. s.queue < length queues) → (1 ≤ servers_at queues source) × (servers_at queues source ≤ 64)
servers_most queues None kept small = (omega arith, omega arith)
servers_most queues (Some source) kept small = (let one = numbers_at queues source.queue kept small in (one.served, one.servers))

pub servers_fit : (queues : List Queue) (q : ℕ) → AreListed queues → q < length queues → slice_index (map (λ q. q.servers) queues) q ≤ slice_index (map (λ q. q.capacity) queues) q
servers_fit queues q kept small = (numbers_at queues q kept small).fits

-- the names and the capacities are as many as the queues
pub names_few : (queues : List Queue) (names : List (List ℕ)) → AreListed queues → names ≡ map (λ q. q.name) queues → length names ≤ 32
names_few queues names kept is = rw (is, length-map queues (λ (q : Queue). q.name)) kept.few

pub names_same : (queues : List Queue) (names : List (List ℕ)) (caps : List ℕ) → names ≡ map (λ q. q.name) queues → caps ≡ map (λ q. q.capacity) queues → length names ≡ length caps
names_same queues names caps is are = rw (is, are, length-map queues (λ (q : Queue). q.name), length-map queues (λ (q : Queue). q.capacity)) refl
