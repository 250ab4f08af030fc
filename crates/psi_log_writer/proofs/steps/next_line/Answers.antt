-- Answers in the proof of `next_line`.
use Rattle.std.proofs.Common.{arith}
use Rattle.psi_rate.specs.Composition.{system_functions}
use Rattle.psi_replay.specs.Verdict.{event_numbers}
use Rattle.psi_log_writer.proofs.TextLemmas.{line-header, line-begin, line-end}
use Rattle.psi_log_writer.proofs.WalkingLemmas.{walking-line, walking-step}
use Rattle.psi_log_writer.proofs.steps.next_line.Goals as goal

pub returns-then-place-eq0-clause-line : goal.returns-then-place-eq0-clause-line
returns-then-place-eq0-clause-line g c =
    let system = c.args.plan.now.system in
    let words = g.P.Past.words c.args.plan.now.past in
    line-header system.split (system_functions g.E.EventLaw.function system words) system.caps (event_numbers system words) c.args.header.now c.args.state.now _ _ c.args.place
    c.if-place-eq0.true c.requires.held c.header.ensures

pub returns-then-place-eq1-clause-line : goal.returns-then-place-eq1-clause-line
returns-then-place-eq1-clause-line g c =
    let system = c.args.plan.now.system in
    let words = g.P.Past.words c.args.plan.now.past in
    line-begin system.split (system_functions g.E.EventLaw.function system words) system.caps (event_numbers system words) c.args.header.now c.args.state.now _ _ c.args.place
    c.if-place-eq1.true c.requires.held c.begin_line.ensures.line

pub returns-then-place-header-clause-line : goal.returns-then-place-header-clause-line
returns-then-place-header-clause-line g c =
    walking-line g.E.EventLaw.function g.P.Past.words c.args.plan.now c.args.header.now c.args.state.now c.args.place c.args.told.now c.args.line.now _ (omega arith)
    c.if-place-header.true c.requires.walking c.step_line.ensures.line

pub returns-then-place-header-clause-walking : goal.returns-then-place-header-clause-walking
returns-then-place-header-clause-walking g c =
    walking-step g.E.EventLaw.function g.P.Past.words c.args.plan.now c.step_line.new.plan c.args.header.now.horizon c.args.place c.args.told.now c.step_line.new.told (omega arith)
    c.if-place-header.true c.requires.walking c.step_line.ensures.run c.step_line.ensures.told

pub returns-else-place-header-clause-line : goal.returns-else-place-header-clause-line
returns-else-place-header-clause-line g c =
    let system = c.args.plan.now.system in
    let words = g.P.Past.words c.args.plan.now.past in
    line-end system.split (system_functions g.E.EventLaw.function system words) system.caps (event_numbers system words) c.args.header.now c.args.state.now _ _ c.args.place
    (omega arith) c.requires.held c.end.ensures
