-- Answers in the proof of `PackedCorners::new`.
use Rattle.std.proofs.Common.{ℕ, List, map, All, IfSome, sym, ◌∙◌, subst}
use Rattle.psi_event.specs.Law.{IsMonotone}
use Rattle.psi_region.specs.Followed.{Network}
use Rattle.psi_follow_packed.specs.Programs.{Prepares}
use Rattle.psi_follow_packed.proofs.corners.PackedCorners.new.Goals as goal

pub invariant_of-result : goal.invariant_of-result
invariant_of-result g c =
    let course = c.args.course.now in
    let program = c.in-Some-2.program in
    let prepared : Prepares g.row.K c.in-Some.layout.caps (map g.E.EventLaw.function c.events.result.now) program =
    subst (λ found. IfSome found (λ p. Prepares g.row.K c.in-Some.layout.caps (map g.E.EventLaw.function c.events.result.now) p)) c.in-Some-2.is c.in_ok-program.ensures in
    subst (λ (n : Network g.row.E.Denot). Prepares g.row.K n.caps (map g.E.EventLaw.function n.events) program
    × All (λ f. IsMonotone n.caps f) (map g.E.EventLaw.function n.events)) (sym c.again.ensures) (
      subst (λ (cs : List ℕ). Prepares g.row.K cs (map g.E.EventLaw.function course.events) program) (c.in-Some.ensures.caps ∙ c.caps.ensures.value)
          (subst (λ (es : List g.row.E.Denot). Prepares g.row.K c.in-Some.layout.caps (map g.E.EventLaw.function es) program) c.events.ensures.value prepared),
      c.requires,
    )
