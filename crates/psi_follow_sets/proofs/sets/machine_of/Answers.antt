-- Answers in the proof of `machine_of`.
use Rattle.std.proofs.Common.{ℕ, List, map, IfSome, subst, ◌∙◌}
use Rattle.psi_follow_packed.specs.Programs.{Prepares}
use Rattle.psi_follow_sets.proofs.sets.machine_of.Goals as goal

pub returns : goal.returns
returns g c =
    let course = c.args.course.now in
    record {
      program = subst (λ (cs : List ℕ). Prepares g.row.K cs (map g.E.EventLaw.function course.events) c.in-Some.program) c.requires
          (subst (λ (es : List g.row.E.Denot). Prepares g.row.K c.args.layout.caps (map g.E.EventLaw.function es) c.in-Some.program) c.events.ensures.value
          (subst (λ found. IfSome found (λ p. Prepares g.row.K c.args.layout.caps (map g.E.EventLaw.function c.events.result.now) p)) c.in-Some.is c.in_ok-program.ensures));
      halts = c.in_ok-halts.ensures.count;
      monotone = c.in_ok-halts.ensures.monotone;
      many_units = c.in_ok-units.ensures.count;
      units = c.in_ok-units.ensures.units;
      room = c.in_ok-set.ensures ∙ c.split.ensures.value;
    }
