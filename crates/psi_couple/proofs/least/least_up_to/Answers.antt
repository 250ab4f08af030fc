-- Answers in the proof of `least_up_to`.
use Rattle.std.proofs.Common.{ℕ, ◌+◌, ◌-◌, ◌/◌, ap, sym, ◌∙◌, arith}
use Rattle.psi_rate.specs.Composition.{SystemParts, system_functions}
use Rattle.psi_rate.proofs.FunctionsLemmas.{functions-closed}
use Rattle.psi_horizon.specs.Runs.{ending_at}
use Rattle.psi_couple.proofs.PlansLemmas.{none-over}
use Rattle.psi_couple.proofs.CouplingLemmas.{ending-found, ending-missed}
use Rattle.psi_couple.proofs.least.least_up_to.Goals as goal

pub loop-high-preserved-then-is_some : goal.loop-high-preserved-then-is_some
loop-high-preserved-then-is_some g c =
    let system = c.args.plan.now.system in
    let words = g.P.Past.words c.args.plan.now.past in
    let middle = c.loop-high.low + (c.loop-high.high - c.loop-high.low) / 2 in
    let kept = c.loop-high.invariant in
    let test = c.loop-high-test.true in
    let closed = functions-closed g.E.EventLaw.capacities g.E.EventLaw.function system words g.met.E.EventLaw.closed c.requires.fit.same_caps in
    let run_of = λ (s : SystemParts g.row.E.Denot) (w : ℕ → ℕ). ending_at s.split (system_functions g.E.EventLaw.function s w) s.caps middle in
    let is = c.ending.ensures.ending ∙ (ap (λ s. run_of s (g.P.Past.words c.loop-high.plan.past)) kept.system ∙ ap (λ w. run_of system w) kept.words) in
    record {
      order = omega arith;
      most = omega arith;
      none = kept.none;
      one = ending-found system.split system.caps (system_functions g.E.EventLaw.function system words) middle c.loop-high.high c.args.state c.ending.result closed
          (omega arith) is (sym c.is_some.ensures ∙ c.if-is_some.true) kept.one;
      system = c.ending.ensures.system ∙ kept.system;
      words = c.ending.ensures.words ∙ kept.words;
      over = none-over c.ending.new.self.run c.ending.ensures.run;
    }

pub loop-high-preserved : goal.loop-high-preserved
loop-high-preserved g c =
    let kept = c.loop-high.invariant in
    let middle = c.loop-high.low + (c.loop-high.high - c.loop-high.low) / 2 in
    let system = c.args.plan.now.system in
    let words = g.P.Past.words c.args.plan.now.past in
    let closed = functions-closed g.E.EventLaw.capacities g.E.EventLaw.function system words g.met.E.EventLaw.closed c.requires.fit.same_caps in
    let run_of = λ (s : SystemParts g.row.E.Denot) (w : ℕ → ℕ). ending_at s.split (system_functions g.E.EventLaw.function s w) s.caps middle in
    let is = c.ending.ensures.ending ∙ (ap (λ s. run_of s (g.P.Past.words c.loop-high.plan.past)) kept.system ∙ ap (λ w. run_of system w) kept.words) in
    record {
      order = omega arith;
      most = kept.most;
      none = ending-missed system.split system.caps (system_functions g.E.EventLaw.function system words) middle c.ending.result closed
          is (sym c.is_some.ensures ∙ c.if-is_some.false);
      one = kept.one;
      system = c.ending.ensures.system ∙ kept.system;
      words = c.ending.ensures.words ∙ kept.words;
      over = none-over c.ending.new.self.run c.ending.ensures.run;
    }
