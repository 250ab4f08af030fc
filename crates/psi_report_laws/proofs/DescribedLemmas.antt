-- Each network that is read of a file is one that a file may describe.
use Rattle.std.specs.Prelude.{◌≡◌, ℕ, ◌+◌, List, [], ◌++◌, map, length, codes, not, min, nat_le, All, Bool, true, false, cond, Option, Some, None, Ok, ok_or, refl}
use Rattle.std.specs.List.{list_any}
use Rattle.std.specs.Str.{bytes_eq}
use Rattle.std.proofs.Common.{sym, ◌∙◌, subst}
use Rattle.std.proofs.lemmas.Bool.{not-true}
use Rattle.std.proofs.lemmas.List.{map_push, length-map}
use Rattle.std.proofs.lemmas.List.Elements.{All-nil, All-push}
use Rattle.toml.specs.Data.{Data, Members, get_member}
use Rattle.toml.specs.Parse.{parse_document}
use Rattle.psi_net_model.specs.Name.{is_name}
use Rattle.psi_net_model.specs.Network.{Network, NamedReward, caps_of}
use Rattle.psi_net_model.specs.Valid.{IsReward}
use Rattle.psi_net_model.specs.declared.entries.Queue.{Queue}
use Rattle.psi_net_document.specs.Refusal.{holds_or, at_key, at_place, top, queue_place, reward_place}
use Rattle.psi_net_document.specs.Values.{no_unknown, required, optional, number_in, text_in, array_in, elements_in, table_in}
use Rattle.psi_net_document.specs.Names.{name_or, name_in, unless_taken}
use Rattle.psi_net_document.specs.References.{some_targets_in}
use Rattle.psi_net_document.specs.declared.refusals.NetCause.TheVariants.{MissingKey, NotToml, OutOfRange, TooMany}
use Rattle.psi_net_document.specs.declared.refusals.Place.{Place}
use Rattle.psi_net_document.specs.declared.refusals.NetRefusal.{NetRefusal}
use Rattle.psi_net_document.proofs.ReadingLemmas.{bind_ok, ok_same, held, required_ok, optional_kept, each_kept}
use Rattle.psi_net.specs.QueueTables.{queue_keys, queue_of, queue_step, queues_in, queues_of}
use Rattle.psi_net.specs.EventTables.{events_of}
use Rattle.psi_net.specs.RewardTables.{reward_kind_in, reward_keys, reward_kind_of, reward_of, reward_step, rewards_in, rewards_of}
use Rattle.psi_net.specs.Reading.{numbers_of, document_network, file_text, text_network, network_of}
use Rattle.psi_net.proofs.NetworkLemmas.{network_kept}
use Rattle.psi_net.proofs.KeptRewardsLemmas.{reward_kept}
use Rattle.psi_state.specs.declared.Outcome.{Outcome}
use Rattle.psi_report_reader.specs.Samples.{AreNames, IsDescribed, AreOf}
use Rattle.psi_report_reader.proofs.SampleLemmas.{samples_read, samples_merged}
use Rattle.psi_report_reader.proofs.SoundLemmas.{report_sound}
use Rattle.psi_report_reader.proofs.ShortLemmas.{reports_short}
use Rattle.psi_report_laws.specs.Described.{NetworksAreDescribed, AreCounted, ReportsAreReadBack, ReportsAreMerged}
use Rattle.psi_report_laws.proofs.NameLemmas.{names-push}

-- ---- names

-- a string that is read as a name is one
name-read : (place : Place) (key : List ℕ) (d : Data) (name : List ℕ) → name_in place key d ≡ Ok name → is_name name ≡ true
unfolding name_in
name-read place key d name h =
    let text = bind_ok (text_in place key d) _ name h in
    named text.0 (is_name text.0) refl (at_key OutOfRange place key) text.2
  where
    named : (text : List ℕ) (t : Bool) → is_name text ≡ t → (refusal : NetRefusal) → name_or refusal (cond {A = Option (List ℕ)} t (Some text) None) ≡ Ok name → is_name name ≡ true
    named text true is refusal same = (let one : text ≡ name = ok_same text name same in subst (λ (n : List ℕ). is_name n ≡ true) one is)
    named text false is refusal same = absurd cc

-- a name that isn't taken
fresh-read : (place : Place) (earlier : List (List ℕ)) (name : List ℕ) (u : Unit {0}) → unless_taken place earlier name ≡ Ok u → list_any (bytes_eq name) earlier ≡ false
unfolding unless_taken
fresh-read place earlier name u h = not-true (list_any (bytes_eq name) earlier) (held _ (not (list_any (bytes_eq name) earlier)) u h)

-- a name, and none before it is the same
record IsFresh (earlier : List (List ℕ)) (name : List ℕ) : Type 0 where
  name_is : is_name name ≡ true
  fresh : list_any (bytes_eq name) earlier ≡ false

-- ---- queues

queue-fresh : (place : Place) (earlier : List (List ℕ)) (ms : Members) (queue : Queue) → queue_of place earlier ms ≡ Ok queue → IsFresh earlier queue.name
unfolding queue_of
queue-fresh place earlier ms queue h =
    let known = bind_ok (no_unknown place queue_keys ms) _ queue h in
    let name = bind_ok (required place (codes "name") (name_in place (codes "name")) (get_member (codes "name") ms)) _ queue known.2 in
    let fresh = bind_ok (unless_taken place earlier name.0) _ queue name.2 in
    let capacity = bind_ok (required place (codes "capacity") (number_in place (codes "capacity") 1 65535) (get_member (codes "capacity") ms)) _ queue fresh.2 in
    let servers = bind_ok (optional 1 (number_in place (codes "servers") 1 (min 64 capacity.0)) (get_member (codes "servers") ms)) _ queue capacity.2 in
    let whole = ok_same _ queue servers.2 in
    let read = required_ok place (codes "name") (name_in place (codes "name")) (get_member (codes "name") ms) name.0 name.1 in
    let is = name-read place (codes "name") read.0 name.0 read.1 in
    let own = fresh-read place earlier name.0 fresh.0 fresh.1 in
    subst (λ (q : Queue). IsFresh earlier q.name) whole (record { name_is = is; fresh = own })

abbrev QueuesNamed : ℕ → List Queue → Type 0
QueuesNamed n queues = AreNames (map (λ (q : Queue). q.name) queues)

queue-step-named : (n : ℕ) (s t : List Queue) (d : Data) → QueuesNamed n s → queue_step n s d ≡ Ok t → QueuesNamed (n + 1) t
unfolding queue_step
queue-step-named n s t d named h =
    let table = bind_ok (table_in (queue_place n) d) _ t h in
    let queue = bind_ok (queue_of (queue_place n) (map (λ (q : Queue). q.name) s) table.0) _ t table.2 in
    let whole = ok_same _ t queue.2 in
    let is = queue-fresh (queue_place n) (map (λ (q : Queue). q.name) s) table.0 queue.0 queue.1 in
    let more = names-push (map (λ (q : Queue). q.name) s) queue.0.name named is.name_is is.fresh in
    subst (λ (qs : List Queue). AreNames (map (λ (q : Queue). q.name) qs)) whole (subst AreNames (sym (map_push (λ (q : Queue). q.name) s queue.0)) more)

none-named : {A : Type 0} (name : A → List ℕ) → AreNames (map name [])
none-named name = record { each = All-nil (λ (n : List ℕ). is_name n ≡ true); differ = tt }

queues-named : (found : Option Data) (queues : List Queue) → queues_of found ≡ Ok queues → AreNames (map (λ (q : Queue). q.name) queues)
unfolding queues_in
queues-named found queues h =
    let d = required_ok top (codes "queue") queues_in found queues h in
    let tables = bind_ok (elements_in top (codes "queue") MissingKey 32 d.0) _ queues d.1 in
    each_kept QueuesNamed queue_step queue-step-named tables.0 1 (1 + length tables.0) [] queues refl (none-named (λ (q : Queue). q.name)) tables.2

-- ---- rewards

-- the names differ, and each reward is one of these capacities
record AreRewarded (caps : List ℕ) (n : ℕ) (rewards : List NamedReward) : Type 0 where
  named : AreNames (map (λ (r : NamedReward). r.name) rewards)
  each : All (λ (r : NamedReward). IsReward caps r.kind) rewards

-- a reward that is read
record IsRewarded (caps : List ℕ) (earlier : List (List ℕ)) (reward : NamedReward) : Type 0 where
  fresh : IsFresh earlier reward.name
  kind : IsReward caps reward.kind

module _ (names : List (List ℕ)) (caps : List ℕ) (same : length names ≡ length caps) where
  reward-read : (place : Place) (earlier : List (List ℕ)) (ms : Members) (reward : NamedReward) → reward_of place earlier names caps ms ≡ Ok reward → IsRewarded caps earlier reward
  unfolding reward_of
  reward-read place earlier ms reward h =
      let word = bind_ok (required place (codes "kind") (reward_kind_in place) (get_member (codes "kind") ms)) _ reward h in
      let known = bind_ok (no_unknown place (reward_keys word.0) ms) _ reward word.2 in
      let name = bind_ok (required place (codes "name") (name_in place (codes "name")) (get_member (codes "name") ms)) _ reward known.2 in
      let fresh = bind_ok (unless_taken place earlier name.0) _ reward name.2 in
      let queues = bind_ok (required place (codes "queues") (some_targets_in place (codes "queues") names []) (get_member (codes "queues") ms)) _ reward fresh.2 in
      let kind = bind_ok (reward_kind_of place word.0 caps queues.0 ms) _ reward queues.2 in
      let whole = ok_same _ reward kind.2 in
      let read = required_ok place (codes "name") (name_in place (codes "name")) (get_member (codes "name") ms) name.0 name.1 in
      let is = name-read place (codes "name") read.0 name.0 read.1 in
      let own = fresh-read place earlier name.0 fresh.0 fresh.1 in
      let kept = reward_kept place word.0 names caps queues.0 (get_member (codes "queues") ms) ms kind.0 same queues.1 kind.1 in
      subst (λ (r : NamedReward). IsRewarded caps earlier r) whole (record { fresh = record { name_is = is; fresh = own }; kind = kept })

  reward-step : (n : ℕ) (s t : List NamedReward) (d : Data) → AreRewarded caps n s → reward_step names caps n s d ≡ Ok t → AreRewarded caps (n + 1) t
  unfolding reward_step
  reward-step n s t d are h =
      let table = bind_ok (table_in (reward_place n) d) _ t h in
      let reward = bind_ok (reward_of (reward_place n) (map (λ (r : NamedReward). r.name) s) names caps table.0) _ t table.2 in
      let whole = ok_same _ t reward.2 in
      let is = reward-read (reward_place n) (map (λ (r : NamedReward). r.name) s) table.0 reward.0 reward.1 in
      let more = names-push (map (λ (r : NamedReward). r.name) s) reward.0.name are.named is.fresh.name_is is.fresh.fresh in
      subst (λ (rs : List NamedReward). AreRewarded caps (n + 1) rs) whole (record {
        named = subst AreNames (sym (map_push (λ (r : NamedReward). r.name) s reward.0)) more;
        each = All-push (λ (r : NamedReward). IsReward caps r.kind) s reward.0 are.each is.kind;
      })

  none-rewarded : (n : ℕ) → AreRewarded caps n []
  none-rewarded n = record { named = none-named (λ (r : NamedReward). r.name); each = All-nil (λ (r : NamedReward). IsReward caps r.kind) }

  rewards-read : (d : Data) (rewards : List NamedReward) → rewards_in names caps d ≡ Ok rewards → AreRewarded caps 0 rewards
  unfolding rewards_in
  rewards-read d rewards h =
      let tables = bind_ok (array_in top (codes "reward") d) _ rewards h in
      let few = bind_ok (holds_or (at_key TooMany top (codes "reward")) (nat_le (length tables.0) 64)) _ rewards tables.2 in
      let all = each_kept (AreRewarded caps) (reward_step names caps) reward-step tables.0 1 (1 + length tables.0) [] rewards refl (none-rewarded 1) few.2 in
      record { named = all.named; each = all.each }

  rewards-shown : (found : Option Data) (rewards : List NamedReward) → rewards_of names caps found ≡ Ok rewards → AreRewarded caps 0 rewards
  rewards-shown found rewards h = optional_kept (AreRewarded caps 0) [] (rewards_in names caps) found rewards (none-rewarded 0) (λ d r. rewards-read d rewards r) h

-- ---- the network

-- what its names and rewards keep
record AreShown (net : Network) : Type 0 where
  queues : AreNames (map (λ (q : Queue). q.name) net.queues)
  rewards : AreRewarded (caps_of net) 0 net.rewards

document-shown : (ms : Members) (net : Network) → document_network ms ≡ Ok net → AreShown net
unfolding document_network
document-shown ms net h =
    let numbers = bind_ok (numbers_of ms) _ net h in
    let queues = bind_ok (queues_of (get_member (codes "queue") ms)) _ net numbers.2 in
    let events = bind_ok (events_of numbers.0.version queues.0 (get_member (codes "event") ms)) _ net queues.2 in
    let names = map (λ (q : Queue). q.name) queues.0 in
    let caps = map (λ (q : Queue). q.capacity) queues.0 in
    let rewards = bind_ok (rewards_of names caps (get_member (codes "reward") ms)) _ net events.2 in
    let same : length names ≡ length caps = length-map queues.0 (λ (q : Queue). q.name) ∙ sym (length-map queues.0 (λ (q : Queue). q.capacity)) in
    subst (λ (n : Network). AreShown n) (ok_same _ net rewards.2) (record {
      queues = queues-named (get_member (codes "queue") ms) queues.0 queues.1;
      rewards = rewards-shown names caps same (get_member (codes "reward") ms) rewards.0 rewards.1;
    })

text-described : (text : List ℕ) (net : Network) → text_network text ≡ Ok net → IsDescribed net
unfolding text_network
text-described text net h =
    let document = bind_ok (ok_or (parse_document text) (at_place NotToml top)) document_network net h in
    let shown = document-shown document.0 net document.2 in
    let kept = network_kept text net h in
    record {
      queues = kept.queues;
      queue_names = shown.queues;
      few_rewards = kept.few_rewards;
      rewards = shown.rewards.each;
      reward_names = shown.rewards.named;
    }

pub networks-described : NetworksAreDescribed
unfolding network_of
networks-described bytes net h = (let text = bind_ok (file_text bytes) text_network net h in text-described text.0 net text.2)

-- ---- their reports

samples-of : (bytes : List ℕ) (net : Network) (outcomes : List Outcome) → network_of bytes ≡ Ok net → AreCounted net outcomes → AreOf net outcomes
samples-of bytes net outcomes is are = record { network = networks-described bytes net is; samples = are.each }

pub reports-read : ReportsAreReadBack
reports-read bytes net outcomes is are =
    let own = samples-of bytes net outcomes is are in
    record { reading = samples_read net outcomes own are.few; right = report_sound net outcomes own; short = reports_short net outcomes own are.few }

pub reports-merged : ReportsAreMerged
reports-merged bytes net outcomes others is are = samples_merged net outcomes others (samples-of bytes net (outcomes ++ others) is are) are.few
