-- Answers in the proof of `Plan::following`.
use Rattle.std.proofs.Common.{◌≡◌, ◌*◌, ◌^◌, ◌%◌, ap, ◌∙◌, subst, sym, IfSome, Option}
use Rattle.psi_rate.specs.Composition.{system_functions}
use Rattle.psi_rate.specs.Keeping.{KeepsNumbers}
use Rattle.psi_rate.proofs.DoublingLemmas.{shift-power}
use Rattle.psi_horizon.specs.declared.trace.Progress.{Progress}
use Rattle.psi_horizon.specs.Inner.PlanKept.{IsUnderway}
use Rattle.psi_horizon.proofs.plan.Plan.following.Goals as goal

pub invariant_of-result : goal.invariant_of-result
invariant_of-result g c =
    let system = c.args.system in
    let words = g.P.Past.words c.new.result in
    let trace = c.in_ok-trace.trace in
    let most : 1 * 2 ^ c.limit.result % 4294967296 ≡ 2 ^ system.limit =
    shift-power c.limit.result c.limit.ensures.bound ∙ ap (λ n. 2 ^ n) c.limit.ensures.value in
    record {
      fit = c.caps-caps.ensures.fit;
      kept = subst (λ n. KeepsNumbers system.rates words n c.in_ok-numbers.numbers) most (c.in_ok-numbers.ensures system.rates words);
      follower = c.requires;
      traced = record {
        split = c.in_ok-trace.ensures.split ∙ c.split.ensures.value;
        run = subst (λ (run : Option Progress). IfSome run (λ r. IsUnderway (system_functions g.E.EventLaw.function system words) system trace.region r)) (sym c.in_ok-trace.ensures.run) tt;
      };
    }
