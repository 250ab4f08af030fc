-- Answers in the proof of `KeyedCorners::new`.
use Rattle.std.proofs.Common.{ℕ, List, map, All, IfSome, sym, subst}
use Rattle.psi_event.specs.Law.{IsMonotone}
use Rattle.psi_region.specs.Followed.{Network}
use Rattle.psi_follow_keyed.specs.Keyed.{IsKeyed}
use Rattle.psi_follow_keyed.proofs.corners.KeyedCorners.new.Goals as goal

pub invariant_of-result : goal.invariant_of-result
invariant_of-result g c =
    let course = c.args.course.now in
    let keyed = c.in-Some.keyed in
    let made : IsKeyed c.caps.result (map g.E.EventLaw.function c.events.result.now) keyed =
    subst (λ found. IfSome found (λ k. IsKeyed c.caps.result (map g.E.EventLaw.function c.events.result.now) k)) c.in-Some.is c.in_ok-keyed.ensures in
    subst (λ (n : Network g.row.E.Denot). IsKeyed n.caps (map g.E.EventLaw.function n.events) keyed
    × All (λ f. IsMonotone n.caps f) (map g.E.EventLaw.function n.events)) (sym c.again.ensures) (
      subst (λ (cs : List ℕ). IsKeyed cs (map g.E.EventLaw.function course.events) keyed) c.caps.ensures.value
          (subst (λ (es : List g.row.E.Denot). IsKeyed c.caps.result (map g.E.EventLaw.function es) keyed) c.events.ensures.value made),
      c.requires,
    )
