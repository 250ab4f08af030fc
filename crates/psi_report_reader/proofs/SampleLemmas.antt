-- What holds of the horizons, the names and the values of samples of a network.
use Rattle.std.specs.Prelude.{◌≡◌, ℕ, ◌+◌, ◌*◌, ◌^◌, ◌<◌, ◌≤◌, ℤ, pos, List, [], ◌∷◌, ◌++◌, map, length, All, unsigned_abs, count_ones, slice_index, Bool, true, refl}
use Rattle.std.specs.Int.Count.{ones}
use Rattle.std.proofs.Common.{ap, sym, ◌∙◌, subst, arith}
use Rattle.std.proofs.Math.Nat.{pow-le-pow_right}
use Rattle.std.proofs.Math.Pow.{pow_pos}
use Rattle.std.proofs.lemmas.Bool.{eq-eqb, le-leb, leb-true}
use Rattle.std.proofs.lemmas.Int.{ints}
use Rattle.std.proofs.lemmas.List.{length-map}
use Rattle.std.proofs.lemmas.Nat.{ones_cat}
use Rattle.std.proofs.lemmas.List.Elements.{All-nil, All-cons, All-head, All-tail, All-map, All-weaker}
use Rattle.psi_state.specs.Ascending.{IsDistinct}
use Rattle.psi_state.specs.State.{IsBelow, AreCapacities}
use Rattle.psi_state.specs.declared.Outcome.{Outcome}
use Rattle.psi_state.specs.declared.Outcome.TheVariants.{Met, NotMet}
use Rattle.psi_net_model.specs.Name.{is_name}
use Rattle.psi_net_model.specs.Network.{Network, NamedReward, caps_of}
use Rattle.psi_net_model.specs.Valid.{IsReward}
use Rattle.psi_net_model.specs.declared.entries.Queue.{Queue}
use Rattle.psi_net_model.proofs.QueueLemmas.{capacities_kept}
use Rattle.psi_reward.specs.Worth.{worth_of}
use Rattle.psi_report.specs.Samples.{IsHorizon, IsSampleOf, met_states, met_horizons}
use Rattle.psi_report.specs.Quantities.{Quantity, queues_from, queue_quantities, reward_quantities}
use Rattle.psi_report.specs.Report.{contents_of}
use Rattle.psi_report.proofs.StandsLemmas.{length-queues_from}
use Rattle.psi_report.proofs.FiguresLemmas.{names-queues, names-rewards}
use Rattle.psi_report_reader.specs.Reading.{IsReport}
use Rattle.psi_report_reader.specs.Samples.{AreOf, SamplesAreRead}
use Rattle.psi_report_reader.specs.Merging.{SamplesAreMerged}
use Rattle.psi_report_reader.specs.Sound.{is_horizon, is_customers, is_reward_value}
use Rattle.psi_report_reader.proofs.AllowLemmas.{ordered}
use Rattle.psi_report_reader.proofs.MergeLawLemmas.{merged-fit}
use Rattle.psi_report_reader.proofs.ReadLemmas.{text_is_read}
use Rattle.psi_report_reader.proofs.PowerLemmas.{one-bit, no-bit}
use Rattle.psi_report_reader.proofs.SmallLemmas.{IsMost, IsMostAt, told-fit}
use Rattle.psi_report_reader.proofs.WorthLemmas.{held-few, worth-few, all-left, all-right}

-- ---- horizons

ones-pow : (k : ℕ) → count_ones (2 ^ k) ≡ 1
ones-pow k =
    let whole : 1 * 2 ^ k + 0 ≡ 2 ^ k = omega arith in
    ap ones (sym whole) ∙ ones_cat k 1 0 (pow_pos k) ∙ (let first = one-bit in let last = no-bit in omega arith)

pub horizon-few : (t : ℕ) → IsHorizon t → t ≤ 4194304
horizon-few t is = rw is.power (let most : 2 ^ is.exponent ≤ 2 ^ 22 = pow-le-pow_right (omega arith) is.few in omega arith)

horizon-is : (t : ℕ) → IsHorizon t → is_horizon t ≡ true
horizon-is t is =
    let most = horizon-few t is in
    let once : count_ones t ≡ 1 = rw is.power (ones-pow is.exponent) in
    rw (eq-eqb (count_ones t) 1 once, le-leb t 4194304 most) refl

-- those that are met have such horizons, and states within the capacities
pub met-are : (net : Network) (outcomes : List Outcome) → All (IsSampleOf net) outcomes
    → All IsHorizon (met_horizons outcomes) × All (λ x. IsBelow x (caps_of net)) (met_states outcomes)
unfolding met_horizons met_states
met-are net [] all = (All-nil IsHorizon, All-nil (λ x. IsBelow x (caps_of net)))
met-are net (Met horizon state ∷ outcomes) all =
    let own = All-head (IsSampleOf net) (Met horizon state) outcomes all in
    let rest = met-are net outcomes (All-tail (IsSampleOf net) (Met horizon state) outcomes all) in
    (All-cons IsHorizon horizon (met_horizons outcomes) own.0 rest.0, All-cons (λ x. IsBelow x (caps_of net)) state (met_states outcomes) own.1 rest.1)
met-are net (NotMet limit ∷ outcomes) all = met-are net outcomes (All-tail (IsSampleOf net) (NotMet limit) outcomes all)

pub are-horizons : (net : Network) (outcomes : List Outcome) → All (IsSampleOf net) outcomes → All (λ t. is_horizon t ≡ true) (met_horizons outcomes)
are-horizons net outcomes all = All-weaker IsHorizon (λ t. is_horizon t ≡ true) horizon-is (met_horizons outcomes) (met-are net outcomes all).0

-- ---- values

-- each value of each quantity at these states passes a test
abbrev pub ArePassing : (ℤ → Bool) → List (List ℕ) → List Quantity → Type 0
ArePassing p states [] = Unit {0}
ArePassing p states (q ∷ qs) = All (λ z. p z ≡ true) (map q.value states) × ArePassing p states qs

customers-are : (n : ℕ) → n ≤ 65535 → is_customers (pos n) ≡ true
customers-are n few = rw (ordered (pos 0) (pos n) (omega (arith, ints)), ordered (pos n) (pos 65535) (omega (arith, ints))) refl

queues-pass : (caps : List ℕ) (states : List (List ℕ)) → AreCapacities caps → All (λ x. IsBelow x caps) states → (i : ℕ) (queues : List Queue) → ArePassing is_customers states (queues_from i queues)
unfolding queues_from
queues-pass caps states are below i [] = tt
queues-pass caps states are below i (queue ∷ queues) = (
  All-map (λ z. is_customers z ≡ true) (λ x. pos (slice_index x i)) states
      (All-weaker (λ x. IsBelow x caps) (λ x. is_customers (pos (slice_index x i)) ≡ true) (λ x one. customers-are (slice_index x i) (held-few caps x i are one)) states below),
  queues-pass caps states are below (i + 1) queues,
)

rewards-pass : (caps : List ℕ) (states : List (List ℕ)) → AreCapacities caps → All (λ x. IsBelow x caps) states → (rewards : List NamedReward) → All (λ r. IsReward caps r.kind) rewards
    → ArePassing is_reward_value states (map (λ r. record { name = r.name; value = worth_of r.kind }) rewards)
rewards-pass caps states are below [] all = tt
rewards-pass caps states are below (r ∷ rewards) all =
    let own : IsReward caps r.kind = All-head (λ (r : NamedReward). IsReward caps r.kind) r rewards all in (
      All-map (λ z. is_reward_value z ≡ true) (worth_of r.kind) states
          (All-weaker (λ x. IsBelow x caps) (λ x. is_reward_value (worth_of r.kind x) ≡ true) (λ x one. worth-few caps r.kind x are own one) states below),
      rewards-pass caps states are below rewards (All-tail (λ (r : NamedReward). IsReward caps r.kind) r rewards all),
    )

-- ---- all of it

-- what a report has of quantities: they are so few, their names differ and their values pass
pub record AreShown (p : ℤ → Bool) (most : ℕ) (states : List (List ℕ)) (qs : List Quantity) : Type 0 where
  pub few : length qs ≤ most
  pub differ : IsDistinct (map (λ (q : Quantity). q.name) qs)
  pub passing : ArePassing p states qs

module _ (net : Network) (outcomes : List Outcome) (are : AreOf net outcomes) where
  pub queues-shown : AreShown is_customers 32 (met_states outcomes) (queue_quantities net)
  queues-shown =
      let listed = are.network.queues in
      record {
        few = rw length-queues_from listed.few;
        differ = subst (λ (names : List (List ℕ)). IsDistinct names) (sym (names-queues 0 net.queues)) are.network.queue_names.differ;
        passing = queues-pass (caps_of net) (met_states outcomes) (capacities_kept net.queues listed) (met-are net outcomes are.samples).1 0 net.queues;
      }

  pub queues-some : 1 ≤ length (queue_quantities net)
  queues-some = (let count = length-queues_from 0 net.queues in let some = are.network.queues.some in omega arith)

  pub rewards-shown : AreShown is_reward_value 64 (met_states outcomes) (reward_quantities net)
  rewards-shown = record {
    few = rw length-map are.network.few_rewards;
    differ = subst (λ (names : List (List ℕ)). IsDistinct names) (sym (names-rewards net.rewards)) are.network.reward_names.differ;
    passing = rewards-pass (caps_of net) (met_states outcomes) (capacities_kept net.queues are.network.queues) (met-are net outcomes are.samples).1 net.rewards are.network.rewards;
  }

-- ---- what is told of them can be read

most-at : (p : ℤ → Bool) → ((z : ℤ) → p z ≡ true → IsMost 2097120000000000 z) → (states : List (List ℕ)) (qs : List Quantity) → ArePassing p states qs
    → All (λ name. is_name name ≡ true) (map (λ q. q.name) qs) → All (IsMostAt 2097120000000000 states) qs
most-at p most states [] passing names = All-nil (IsMostAt 2097120000000000 states)
most-at p most states (q ∷ qs) passing names =
    All-cons (IsMostAt 2097120000000000 states) q qs
    (All-head (λ name. is_name name ≡ true) q.name (map (λ q. q.name) qs) names, All-weaker (λ z. p z ≡ true) (IsMost 2097120000000000) most (map q.value states) passing.0)
    (most-at p most states qs passing.1 (All-tail (λ name. is_name name ≡ true) q.name (map (λ q. q.name) qs) names))

pub samples-fit : (net : Network) (outcomes : List Outcome) → AreOf net outcomes → length outcomes < 2 ^ 64 → IsReport (contents_of net outcomes)
samples-fit net outcomes are few =
    let queues = queues-shown net outcomes are in
    let rewards = rewards-shown net outcomes are in
    told-fit 2097120000000000 (2 ^ 64) (omega arith) (omega arith) net outcomes few (omega arith)
    (All-weaker IsHorizon (λ t. t < 2 ^ 64) (λ t is. (let most = horizon-few t is in omega arith)) (met_horizons outcomes) (met-are net outcomes are.samples).0)
    (most-at is_customers (λ z is. grind (arith, ints)) (met_states outcomes) (queue_quantities net) queues.passing
    (subst (All (λ name. is_name name ≡ true)) (sym (names-queues 0 net.queues)) are.network.queue_names.each))
    (most-at is_reward_value (λ z is. leb-true (unsigned_abs z) 2097120000000000 is) (met_states outcomes) (reward_quantities net) rewards.passing
    (subst (All (λ name. is_name name ≡ true)) (sym (names-rewards net.rewards)) are.network.reward_names.each))

pub samples_read : SamplesAreRead
samples_read net outcomes are few = text_is_read (contents_of net outcomes) (samples-fit net outcomes are few)

pub samples_merged : SamplesAreMerged
samples_merged net outcomes others are few = merged-fit net outcomes others (samples-fit net (outcomes ++ others) are few)

-- ---- samples in two parts

module _ (net : Network) (outcomes others : List Outcome) (are : AreOf net (outcomes ++ others)) where
  pub of-left : AreOf net outcomes
  of-left = record { network = are.network; samples = all-left (IsSampleOf net) outcomes others are.samples }

  pub of-right : AreOf net others
  of-right = record { network = are.network; samples = all-right (IsSampleOf net) outcomes others are.samples }
