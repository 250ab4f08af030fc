-- Each reward's summary is put together with its value.
use Rattle.std.proofs.Common.{◌≡◌, ◌+◌, ◌*◌, ◌≤◌, ◌^◌, ◌∙◌, [], sym, ap, w64, to_z, of_z, SFits, get_or, rules, arith}
use Rattle.std.specs.Int.RustNames.{unsigned_abs}
use Rattle.std.proofs.lemmas.Int.{to_z-of_z}
use Rattle.std.proofs.lemmas.List.{get_or_default}
use Rattle.std.proofs.lemmas.List.Elements.{All-set}
use Rattle.psi_reward.specs.Worth.{worth_of}
use Rattle.psi_reward.specs.Rewards.{reward_kind}
use Rattle.psi_net_model.specs.Network.{NamedReward}
use Rattle.psi_report.specs.declared.summary.Summary.{Summary}
use Rattle.psi_report.specs.Joined.{with_value, with_reward}
use Rattle.psi_report.proofs.PairLemmas.{paired_more}
use Rattle.psi_report.proofs.SmallLemmas.{small_read, small_before}
use Rattle.psi_report.proofs.RewardLemmas.{kind_at}
use Rattle.psi_report.proofs.tally.add_rewards.Goals as goal

pub with_value-requires : goal.with_value-requires
with_value-requires c =
    small_read (with_reward c.args.count c.args.state.now) c.args.rewards.now.items c.loop-r.rewards.items c.args.net.now.rewards c.loop-r.r c.index.result.now
    c.requires.fit c.loop-r.invariant.values (omega arith) c.index.ensures

pub loop-r-preserved : goal.loop-r-preserved
loop-r-preserved c =
    let none : NamedReward = record { name = []; kind = reward_kind c.reward.result.now } in
    let reward : NamedReward = get_or c.args.net.now.rewards c.loop-r.r none in
    let kind : reward.kind ≡ reward_kind c.reward.result.now = kind_at c.args.net.now.rewards c.loop-r.r none (reward_kind c.reward.result.now) (omega arith) c.reward.ensures.kind in
    let fits : SFits w64 c.value-value.result = search rules in
    let value : to_z w64 (of_z w64 c.value-value.result) ≡ worth_of reward.kind c.args.state.now =
    to_z-of_z w64 c.value-value.result fits ∙ c.value-value.ensures ∙ ap (λ k. worth_of k c.args.state.now) (sym kind) in
    let made : c.with_value.result ≡ with_reward c.args.count c.args.state.now c.index.result.now reward =
    c.with_value.ensures.value ∙ ap (λ z. with_value c.args.count c.index.result.now z) value in
    record {
      values = rw made (paired_more (with_reward c.args.count c.args.state.now) c.args.rewards.now.items c.loop-r.rewards.items c.args.net.now.rewards c.loop-r.r c.index.result.now
          reward (omega arith) (omega arith) c.loop-r.invariant.values c.index.ensures (get_or_default c.args.net.now.rewards c.loop-r.r none reward (omega arith)));
      small = λ n few. All-set (λ (s : Summary). unsigned_abs s.sum ≤ (n + 1) * 2 ^ 63) c.loop-r.rewards.items c.loop-r.r c.with_value.result
          (c.with_value.ensures.small n (small_before n (with_reward c.args.count c.args.state.now) c.args.rewards.now.items c.loop-r.rewards.items c.args.net.now.rewards c.loop-r.r
          c.index.result.now few c.loop-r.invariant.values (omega arith) c.index.ensures))
          (c.loop-r.invariant.small n few);
    }
