-- What totals stand for: their sizes, two parts together, and one sample more.
use Rattle.std.specs.Prelude.{◌≡◌, ℕ, ◌+◌, ◌-◌, ◌^◌, ◌<◌, ◌≤◌, pos, List, [], ◌∷◌, ◌++◌, map, length, replicate, slice_index, slice_set, refl}
use Rattle.std.proofs.Common.{sym, ◌∙◌, ap, drop, arith}
use Rattle.std.proofs.lemmas.List.{length-append, length-map, append-nil, drop_all, drop_more}
use Rattle.std.proofs.lemmas.List.Elements.{All-append, All-cons}
use Rattle.psi_state.specs.State.{IsBelow}
use Rattle.psi_state.specs.declared.Outcome.{Outcome}
use Rattle.psi_state.specs.declared.Outcome.TheVariants.{Met, NotMet}
use Rattle.psi_reward.specs.Worth.{worth_of}
use Rattle.psi_net_model.specs.Network.{Network, NamedReward, caps_of}
use Rattle.psi_net_model.specs.declared.entries.Queue.{Queue}
use Rattle.psi_report.specs.declared.summary.Summary.{Summary}
use Rattle.psi_report.specs.Samples.{met_states, met_horizons, IsHorizon}
use Rattle.psi_report.specs.Quantities.{Quantity, queues_from, queue_quantities, reward_quantities}
use Rattle.psi_report.specs.Report.{times}
use Rattle.psi_report.specs.Totals.{Totals, summary_of, summaries_of, totals_of, StandsFor}
use Rattle.psi_report.specs.Totals.{powers as all_powers}
use Rattle.psi_report.specs.Joined.{paired, joined_summary, with_customers, with_reward}
use Rattle.psi_report.proofs.PairLemmas.{paired-map}
use Rattle.psi_report.proofs.CountLemmas.{counts_more, counts_few}
use Rattle.psi_report.proofs.TotalsLemmas.{joined, totals_of-append, totals_of-not_met, met_states-append, met_horizons-append, length-met_states, length-met_horizons}

pub length-queues_from : (i : ℕ) (queues : List Queue) → length (queues_from i queues) ≡ length queues
unfolding queues_from
length-queues_from i [] = refl
length-queues_from i (queue ∷ queues) = let rest = length-queues_from (i + 1) queues in omega arith

-- the numbers of samples
pub stands_samples : (a : Totals) (net : Network) (outcomes : List Outcome) → StandsFor a net outcomes → a.samples ≡ length outcomes
unfolding totals_of
stands_samples a net outcomes stands = ap (λ (t : Totals). t.samples) stands.totals

pub stands_met_few : (a : Totals) (net : Network) (outcomes : List Outcome) → StandsFor a net outcomes → a.met ≤ a.samples
unfolding totals_of
stands_met_few a net outcomes stands =
    let met : a.met ≡ length (met_states outcomes) = ap (λ (t : Totals). t.met) stands.totals in
    let few = length-met_states outcomes in
    let samples = stands_samples a net outcomes stands in
    omega arith

pub stands_counts : (a : Totals) (net : Network) (outcomes : List Outcome) (i : ℕ) → StandsFor a net outcomes → slice_index a.horizons i ≤ a.samples
unfolding totals_of
stands_counts a net outcomes i stands =
    let is : slice_index a.horizons i ≡ slice_index (map (λ t. times t (met_horizons outcomes)) all_powers) i = ap (λ (t : Totals). slice_index t.horizons i) stands.totals in
    let least : slice_index (map (λ t. times t (met_horizons outcomes)) all_powers) i ≤ length (met_horizons outcomes) = counts_few all_powers (met_horizons outcomes) i in
    let few = length-met_horizons outcomes in
    let samples = stands_samples a net outcomes stands in
    omega arith

-- the numbers of horizons, queues and rewards
pub stands_horizons : (a : Totals) (net : Network) (outcomes : List Outcome) → StandsFor a net outcomes → length a.horizons ≡ 23
unfolding totals_of
stands_horizons a net outcomes stands =
    ap (λ (t : Totals). length t.horizons) stands.totals ∙ length-map all_powers (λ t. times t (met_horizons outcomes))

pub stands_queues : (a : Totals) (net : Network) (outcomes : List Outcome) → StandsFor a net outcomes → length a.queues ≡ length net.queues
unfolding totals_of
stands_queues a net outcomes stands =
    ap (λ (t : Totals). length t.queues) stands.totals
    ∙ length-map (queue_quantities net) (λ (q : Quantity). summary_of (map q.value (met_states outcomes)))
    ∙ length-queues_from 0 net.queues

pub stands_rewards : (a : Totals) (net : Network) (outcomes : List Outcome) → StandsFor a net outcomes → length a.rewards ≡ length net.rewards
unfolding totals_of
stands_rewards a net outcomes stands =
    ap (λ (t : Totals). length t.rewards) stands.totals
    ∙ length-map (reward_quantities net) (λ (q : Quantity). summary_of (map q.value (met_states outcomes)))
    ∙ length-map net.rewards _

-- totals of two parts stand for the samples of both
pub stands_joined : (net : Network) (outcomes others : List Outcome) (a b c : Totals)
    → StandsFor a net outcomes → StandsFor b net others → length outcomes + length others ≤ 65536 → c ≡ joined a b → StandsFor c net (outcomes ++ others)
stands_joined net outcomes others a b c first second few is = record {
  few = rw (length-append outcomes others) few;
  within = rw (met_states-append outcomes others) (All-append (λ state. IsBelow state (caps_of net)) (met_states outcomes) (met_states others) first.within second.within);
  powers = rw (met_horizons-append outcomes others) (All-append IsHorizon (met_horizons outcomes) (met_horizons others) first.powers second.powers);
  totals = (let one = first.totals in let two = second.totals in let both = totals_of-append net outcomes others in cc);
}

-- and so they do for one sample more that isn't met
pub stands_not_met : (net : Network) (outcomes : List Outcome) (limit : ℕ) (a c : Totals)
    → StandsFor a net outcomes → length outcomes + 1 ≤ 65536 → c ≡ record a { samples = a.samples + 1 } → StandsFor c net (outcomes ++ NotMet limit ∷ [])
unfolding met_states met_horizons
stands_not_met net outcomes limit a c stands few is = record {
  few = rw (length-append outcomes (NotMet limit ∷ [])) few;
  within = rw (met_states-append outcomes (NotMet limit ∷ []), append-nil (met_states outcomes)) stands.within;
  powers = rw (met_horizons-append outcomes (NotMet limit ∷ []), append-nil (met_horizons outcomes)) stands.powers;
  totals = (let one = stands.totals in
      let samples = stands_samples a net outcomes stands in
      let more = totals_of-not_met net outcomes limit in
      cc);
}

-- the values of one state
queue_values : (i : ℕ) (queues : List Queue) (state : List ℕ) → length queues ≡ length state - i
    → summaries_of (state ∷ []) (queues_from i queues) ≡ map (λ v. summary_of (pos v ∷ [])) (drop i state)
unfolding queues_from
queue_values i [] state count = rw (drop_all i state (omega arith)) refl
queue_values i (queue ∷ queues) state count =
    let rest = queue_values (i + 1) queues state (omega arith) in
    rw (drop_more state i 0 (omega arith)) (ap (λ xs. summary_of (pos (slice_index state i) ∷ []) ∷ xs) rest)

reward_values : (rewards : List NamedReward) (state : List ℕ)
    → summaries_of (state ∷ []) (map (λ r. record { name = r.name; value = worth_of r.kind }) rewards) ≡ map (λ (r : NamedReward). summary_of (worth_of r.kind state ∷ [])) rewards
reward_values [] state = refl
reward_values (r ∷ rewards) state = ap (λ xs. summary_of (worth_of r.kind state ∷ []) ∷ xs) (reward_values rewards state)

-- totals with one sample more that is met
abbrev pub with_met : Totals → ℕ → List ℕ → List NamedReward → Totals
with_met a exponent state rewards = record {
  samples = a.samples + 1;
  met = a.met + 1;
  horizons = slice_set a.horizons exponent (slice_index a.horizons exponent + 1);
  queues = paired (with_customers a.met) a.queues state;
  rewards = paired (with_reward a.met state) a.rewards rewards;
}

-- what a sample that is met makes of each number and list
pub with_met_is : (m n exponent : ℕ) (state : List ℕ) (rewards : List NamedReward) (horizons counted : List ℕ) (queues held values worth : List Summary)
    → counted ≡ slice_set horizons exponent (slice_index horizons exponent + 1) → held ≡ paired (with_customers n) queues state
    → worth ≡ paired (with_reward n state) values rewards
    → record { samples = m + 1; met = n + 1; horizons = counted; queues = held; rewards = worth }
    ≡ with_met (record { samples = m; met = n; horizons = horizons; queues = queues; rewards = values }) exponent state rewards
with_met_is m n exponent state rewards horizons counted queues held values worth one two three = cc

joined-met : (net : Network) (exponent : ℕ) (state : List ℕ) (a : Totals) → length a.horizons ≡ 23 → exponent < 23 → length state ≡ length net.queues
    → joined a (totals_of net (Met (2 ^ exponent) state ∷ [])) ≡ with_met a exponent state net.rewards
unfolding totals_of met_states met_horizons
joined-met net exponent state a places small count =
    let horizons = counts_more 23 exponent a.horizons places small in
    let queues : paired (joined_summary a.met 1) a.queues (summaries_of (state ∷ []) (queue_quantities net)) ≡ paired (with_customers a.met) a.queues state =
    ap (λ ys. paired (joined_summary a.met 1) a.queues ys) (queue_values 0 net.queues state (omega arith))
    ∙ paired-map (joined_summary a.met 1) (λ v. summary_of (pos v ∷ [])) a.queues state in
    let rewards : paired (joined_summary a.met 1) a.rewards (summaries_of (state ∷ []) (reward_quantities net)) ≡ paired (with_reward a.met state) a.rewards net.rewards =
    ap (λ ys. paired (joined_summary a.met 1) a.rewards ys) (reward_values net.rewards state)
    ∙ paired-map (joined_summary a.met 1) (λ (r : NamedReward). summary_of (worth_of r.kind state ∷ [])) a.rewards net.rewards in
    cc

-- they stand for the samples with this one
pub stands_met : (net : Network) (outcomes : List Outcome) (exponent : ℕ) (state : List ℕ) (a c : Totals)
    → StandsFor a net outcomes → length outcomes + 1 ≤ 65536 → exponent ≤ 22 → IsBelow state (caps_of net)
    → c ≡ with_met a exponent state net.rewards → StandsFor c net (outcomes ++ Met (2 ^ exponent) state ∷ [])
unfolding met_states met_horizons
stands_met net outcomes exponent state a c stands few small below is =
    let sample = Met (2 ^ exponent) state in
    let horizon : IsHorizon (2 ^ exponent) = record { exponent = exponent; few = small; power = refl } in
    let sized : length (caps_of net) ≡ length net.queues = length-map net.queues (λ (q : Queue). q.capacity) in
    let count : length state ≡ length net.queues = below.same_length ∙ sized in
    record {
      few = rw (length-append outcomes (sample ∷ [])) few;
      within = rw (met_states-append outcomes (sample ∷ []))
          (All-append (λ x. IsBelow x (caps_of net)) (met_states outcomes) (state ∷ []) stands.within (All-cons (λ x. IsBelow x (caps_of net)) state [] below (λ k d none. absurd (omega arith))));
      powers = rw (met_horizons-append outcomes (sample ∷ []))
          (All-append IsHorizon (met_horizons outcomes) (2 ^ exponent ∷ []) stands.powers (All-cons IsHorizon (2 ^ exponent) [] horizon (λ k d none. absurd (omega arith))));
      totals = (let one = stands.totals in
          let both = totals_of-append net outcomes (sample ∷ []) in
          let met = joined-met net exponent state a (stands_horizons a net outcomes stands) (omega arith) count in
          cc);
    }

-- no sample
summaries_none : (qs : List Quantity) → summaries_of [] qs ≡ replicate (length qs) (summary_of [])
summaries_none [] = refl
summaries_none (q ∷ qs) = ap (λ xs. summary_of [] ∷ xs) (summaries_none qs)

pub stands_none : (net : Network) (c : Totals)
    → c ≡ record { samples = 0; met = 0; horizons = replicate 23 0; queues = replicate (length net.queues) (summary_of []); rewards = replicate (length net.rewards) (summary_of []) }
    → StandsFor c net []
unfolding totals_of met_states met_horizons
stands_none net c is = record {
  few = omega arith;
  within = λ k d none. absurd (omega arith);
  powers = λ k d none. absurd (omega arith);
  totals = (let queues : summaries_of [] (queue_quantities net) ≡ replicate (length net.queues) (summary_of []) =
      summaries_none (queue_quantities net) ∙ ap (λ n. replicate n (summary_of [])) (length-queues_from 0 net.queues) in
      let rewards : summaries_of [] (reward_quantities net) ≡ replicate (length net.rewards) (summary_of []) =
      summaries_none (reward_quantities net) ∙ ap (λ n. replicate n (summary_of [])) (length-map net.rewards _) in
      cc);
}

-- totals of samples of one network that are few enough together
abbrev pub MayJoin : Totals → Totals → Type 0
MayJoin a b = (net : Network) × (outcomes others : List Outcome) × StandsFor a net outcomes × StandsFor b net others × (length outcomes + length others ≤ 65536)

-- what they have
pub record CanJoin (a b : Totals) : Type 0 where
  pub queues : length a.queues ≡ length b.queues
  pub rewards : length a.rewards ≡ length b.rewards
  pub counts : (i : ℕ) → slice_index a.horizons i + slice_index b.horizons i ≤ 65536
  pub samples : a.samples + b.samples ≤ 65536
  pub met : a.met + b.met ≤ 65536

pub can_join : {a b c d : Totals} → MayJoin a b → c ≡ a → d ≡ b → CanJoin c d
can_join {a = a} {b = b} may own other =
    let one = stands_samples a may.0 may.1 may.3 in
    let two = stands_samples b may.0 may.2 may.4 in
    let met = stands_met_few a may.0 may.1 may.3 in
    let met_too = stands_met_few b may.0 may.2 may.4 in
    let few = may.5 in
    let both : CanJoin a b = record {
      queues = stands_queues a may.0 may.1 may.3 ∙ sym (stands_queues b may.0 may.2 may.4);
      rewards = stands_rewards a may.0 may.1 may.3 ∙ sym (stands_rewards b may.0 may.2 may.4);
      counts = λ i. (let m = stands_counts a may.0 may.1 i may.3 in let n = stands_counts b may.0 may.2 i may.4 in omega arith);
      samples = omega arith;
      met = omega arith;
    } in
    rw (own, other) both

-- totals of samples of a network to which one more may come
abbrev pub MayAdd : Totals → Network → Type 0
MayAdd a net = (outcomes : List Outcome) × StandsFor a net outcomes × (length outcomes + 1 ≤ 65536)

-- what they have
pub record CanAdd (a : Totals) (net : Network) : Type 0 where
  pub queues : length a.queues ≡ length net.queues
  pub rewards : length a.rewards ≡ length net.rewards
  pub counts : (i : ℕ) → slice_index a.horizons i ≤ 65535
  pub samples : a.samples ≤ 65535
  pub met : a.met ≤ 65535

pub can_add : {a c : Totals} (net : Network) → MayAdd a net → c ≡ a → CanAdd c net
can_add {a = a} net may is =
    let one = stands_samples a net may.0 may.1 in
    let own = stands_met_few a net may.0 may.1 in
    let few = may.2 in
    let more : CanAdd a net = record {
      queues = stands_queues a net may.0 may.1;
      rewards = stands_rewards a net may.0 may.1;
      counts = λ i. (let m = stands_counts a net may.0 i may.1 in omega arith);
      samples = omega arith;
      met = omega arith;
    } in
    rw is more

-- other samples that they stand for are as few
pub few_joined : {a b : Totals} (net : Network) (outcomes others : List Outcome) → MayJoin a b → StandsFor a net outcomes → StandsFor b net others
    → length outcomes + length others ≤ 65536
few_joined {a = a} {b = b} net outcomes others may first second =
    let one = stands_samples a net outcomes first in
    let two = stands_samples b net others second in
    let same_one = stands_samples a may.0 may.1 may.3 in
    let same_two = stands_samples b may.0 may.2 may.4 in
    let few = may.5 in
    omega arith

pub few_added : {a : Totals} (net : Network) (outcomes : List Outcome) → MayAdd a net → StandsFor a net outcomes → length outcomes + 1 ≤ 65536
few_added {a = a} net outcomes may stands =
    let one = stands_samples a net outcomes stands in
    let same = stands_samples a net may.0 may.1 in
    let few = may.2 in
    omega arith
