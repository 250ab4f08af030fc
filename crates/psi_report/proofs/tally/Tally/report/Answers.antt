-- Answers in the proof of `Tally::report`.
use Rattle.std.proofs.Common.{List, ◌++◌, length, map, ap, ◌∙◌}
use Rattle.psi_net_model.specs.Network.{NamedReward}
use Rattle.psi_net_model.specs.declared.entries.Queue.{Queue}
use Rattle.psi_report.specs.declared.figure.Figure.{Figure}
use Rattle.psi_report.specs.Report.{queue_trio, reward_trio}
use Rattle.psi_report.specs.Totals.{Totals}
use Rattle.psi_report.specs.Figures.{summaries_figures}
use Rattle.psi_report.proofs.FiguresLemmas.{contents_stand}
use Rattle.psi_report.proofs.StandsLemmas.{stands_queues, stands_rewards}
use Rattle.psi_report.proofs.tally.Tally.report.Goals as goal

pub push_queues-requires : goal.push_queues-requires
push_queues-requires c =
    ap length c.as_slice.ensures.value ∙ ap (λ (t : Totals). length t.queues) c.self.view_is ∙ stands_queues c.args.self.now c.args.net.now c.requires.0 c.requires.1

pub push_rewards-requires : goal.push_rewards-requires
push_rewards-requires c =
    ap length c.as_slice-2.ensures.value ∙ ap (λ (t : Totals). length t.rewards) c.self.view_is ∙ stands_rewards c.args.self.now c.args.net.now c.requires.0 c.requires.1

pub returns : goal.returns
returns c = λ outcomes stands.
    let queues = summaries_figures queue_trio c.self.inside.met (map (λ (q : Queue). q.name) c.args.net.now.queues) c.as_slice.result.now in
    let rewards = summaries_figures reward_trio c.self.inside.met (map (λ (r : NamedReward). r.name) c.args.net.now.rewards) c.as_slice-2.result.now in
    let first = c.in_ok-push_queues.ensures ∙ ap (λ (fs : List Figure). fs ++ queues) c.new-figures.ensures.items in
    let figures = c.in_ok-push_rewards.ensures ∙ ap (λ (fs : List Figure). fs ++ rewards) first in
    contents_stand c.args.net.now c.args.self.now outcomes c.self.inside.samples c.self.inside.met c.self.inside.horizons c.as_slice.result.now c.self.inside.queues.items
    c.as_slice-2.result.now c.self.inside.rewards.items c.in_ok-horizons_of.field-0.items c.push_rewards.new.figures.items c.as_slice.ensures.value c.as_slice-2.ensures.value
    c.self.view_is stands c.in_ok-horizons_of.ensures figures
