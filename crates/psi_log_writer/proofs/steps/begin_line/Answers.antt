-- Answers in the proof of `begin_line`.
use Rattle.std.proofs.Common.{Some, sym, ◌∙◌, ap, rules}
use Rattle.psi_region.specs.Region.{start}
use Rattle.psi_log_format.specs.Log.{LogRegion}
use Rattle.psi_log_format.specs.Text.{begin_text}
use Rattle.psi_log_writer.specs.Walking.{IsToldAfter}
use Rattle.psi_log_writer.proofs.WalkingLemmas.{region_of-box}
use Rattle.psi_log_writer.proofs.steps.begin_line.Goals as goal

pub returns-clause-line : goal.returns-clause-line
returns-clause-line g c =
    let plan = c.args.plan.now in
    let whole = c.in_ok-whole.whole in
    let told : IsToldAfter g.E.EventLaw.function plan.system (g.P.Past.words plan.past) c.args.horizon 0 (Some whole) = search rules in
    c.begin-2.ensures ∙ ap (λ (r : LogRegion). begin_text r) (sym (region_of-box (start plan.system.caps) whole told.shown told.ordered))
