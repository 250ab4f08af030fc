-- Every network that is read can be sampled.
use Rattle.std.specs.Prelude.{◌≡◌, ℕ, ◌+◌, ◌≤◌, List, [], length, map, codes, Ok, ok_or, refl}
use Rattle.std.proofs.Common.{subst, arith, length-append}
use Rattle.std.proofs.lemmas.Bool.{leb-true}
use Rattle.toml.specs.Data.{Data, Members, get_member}
use Rattle.toml.specs.Parse.{parse_document}
use Rattle.psi_net_model.specs.Network.{Network, NamedReward}
use Rattle.psi_net_document.specs.Refusal.{holds_or, at_place, top}
use Rattle.psi_net_document.specs.Values.{no_unknown, required, optional, number_in, array_in}
use Rattle.psi_net.specs.QueueTables.{queues_of}
use Rattle.psi_net.specs.EventTables.{events_of}
use Rattle.psi_net.specs.RewardTables.{reward_step, rewards_in, rewards_of}
use Rattle.psi_net.specs.Reading.{version_in, top_keys, most_limit, default_limit, default_split, numbers_of, document_network, text_network}
use Rattle.psi_net_model.specs.Valid.{IsNetwork}
use Rattle.psi_net.specs.declared.reading.TopNumbers.{TopNumbers}
use Rattle.psi_net_document.specs.declared.refusals.NetCause.TheVariants.{NotToml}
use Rattle.psi_net_document.proofs.ReadingLemmas.{bind_ok, ok_same, held, optional_kept, number_range, each_kept}
use Rattle.psi_net.proofs.KeptQueuesLemmas.{queues_kept}
use Rattle.psi_net.proofs.KeptEventsLemmas.{events_kept}

most_is : (version : ℕ) → most_limit version ≤ 22
most_is version = grind arith

reward_step_kept : (names : List (List ℕ)) (caps : List ℕ) (n : ℕ) (s t : List NamedReward) (d : Data) → n ≡ length s + 1 → reward_step names caps n s d ≡ Ok t → n + 1 ≡ length t + 1
unfolding reward_step
reward_step_kept names caps n s t d count h = grind (arith, length-append {A = NamedReward})

rewards_in_kept : (names : List (List ℕ)) (caps : List ℕ) (d : Data) (rewards : List NamedReward) → rewards_in names caps d ≡ Ok rewards → length rewards ≤ 64
unfolding rewards_in
rewards_in_kept names caps d rewards h =
    let tables = bind_ok (array_in top (codes "reward") d) _ rewards h in
    let few = bind_ok (holds_or _ _) _ rewards tables.2 in
    let most : length tables.0 ≤ 64 = leb-true (length tables.0) 64 (held _ _ few.0 few.1) in
    let count : 1 + length tables.0 ≡ length rewards + 1 =
    each_kept (λ n (s : List NamedReward). n ≡ length s + 1) (reward_step names caps) (λ n s t e k r. reward_step_kept names caps n s t e k r) tables.0 1 (1 + length tables.0) [] rewards refl refl few.2 in
    omega arith

-- the numbers at the top are in their ranges
record AreInRange (numbers : TopNumbers) : Type 0 where
  limit : numbers.limit ≤ 22
  some_split : 1 ≤ numbers.split
  most_split : numbers.split ≤ 4096

numbers_kept : (ms : Members) (numbers : TopNumbers) → numbers_of ms ≡ Ok numbers → AreInRange numbers
unfolding numbers_of
numbers_kept ms numbers h =
    let version = bind_ok (required top (codes "version") version_in (get_member (codes "version") ms)) _ numbers h in
    let known = bind_ok (no_unknown top top_keys ms) _ numbers version.2 in
    let limit = bind_ok (optional default_limit (number_in top (codes "limit") 0 (most_limit version.0)) (get_member (codes "limit") ms)) _ numbers known.2 in
    let split = bind_ok (optional default_split (number_in top (codes "split") 1 4096) (get_member (codes "split") ms)) _ numbers limit.2 in
    let most : most_limit version.0 ≤ 22 = most_is version.0 in
    let horizon : limit.0 ≤ 22 = optional_kept (λ (n : ℕ). n ≤ 22) default_limit (number_in top (codes "limit") 0 (most_limit version.0)) (get_member (codes "limit") ms) limit.0 (omega arith)
    (λ d r. (let own = (number_range top (codes "limit") 0 (most_limit version.0) d limit.0 r).1 in omega arith)) limit.1 in
    let states : (1 ≤ split.0) × (split.0 ≤ 4096) = optional_kept (λ (n : ℕ). (1 ≤ n) × (n ≤ 4096)) default_split (number_in top (codes "split") 1 4096) (get_member (codes "split") ms) split.0 (omega arith, omega arith)
    (λ d r. number_range top (codes "split") 1 4096 d split.0 r) split.1 in
    subst (λ (n : TopNumbers). AreInRange n) (ok_same _ numbers split.2) (record { limit = horizon; some_split = states.0; most_split = states.1 })

-- a document's network can be sampled
document_kept : (ms : Members) (net : Network) → document_network ms ≡ Ok net → IsNetwork net
unfolding document_network
document_kept ms net h =
    let numbers = bind_ok (numbers_of ms) _ net h in
    let queues = bind_ok (queues_of (get_member (codes "queue") ms)) _ net numbers.2 in
    let events = bind_ok (events_of numbers.0.version queues.0 (get_member (codes "event") ms)) _ net queues.2 in
    let rewards = bind_ok (rewards_of (map (λ q. q.name) queues.0) (map (λ q. q.capacity) queues.0) (get_member (codes "reward") ms)) _ net events.2 in
    let listed = queues_kept (get_member (codes "queue") ms) queues.0 queues.1 in
    let kept = events_kept numbers.0.version queues.0 (get_member (codes "event") ms) events.0 listed events.1 in
    let small = numbers_kept ms numbers.0 numbers.1 in
    let few : length rewards.0 ≤ 64 = optional_kept (λ (rs : List NamedReward). length rs ≤ 64) [] (rewards_in (map (λ q. q.name) queues.0) (map (λ q. q.capacity) queues.0)) (get_member (codes "reward") ms) rewards.0 (omega arith)
    (λ d r. rewards_in_kept (map (λ q. q.name) queues.0) (map (λ q. q.capacity) queues.0) d rewards.0 r) rewards.1 in
    subst (λ (n : Network). IsNetwork n) (ok_same _ net rewards.2) (record {
      queues = listed;
      rates = kept.rates;
      kinds = kept.kinds;
      limit = small.limit;
      some_split = small.some_split;
      most_split = small.most_split;
      few_rewards = few;
    })

-- so can the network of a text
pub network_kept : (text : List ℕ) (net : Network) → text_network text ≡ Ok net → IsNetwork net
unfolding text_network
network_kept text net h =
    let document = bind_ok (ok_or (parse_document text) (at_place NotToml top)) document_network net h in document_kept document.0 net document.2
