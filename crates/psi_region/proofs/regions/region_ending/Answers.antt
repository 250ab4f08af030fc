-- Answers in the proof of `region_ending`.
use Rattle.std.proofs.Common.{◌≡◌, ℕ, ◌≤◌, List, map, length, take, ap, sym, ◌∙◌, subst, arith}
use Rattle.std.proofs.Math.Seq.{take-length}
use Rattle.psi_state.specs.State.{IsBelow}
use Rattle.psi_state.specs.Sets.{single}
use Rattle.psi_event.specs.Law.{IsClosed}
use Rattle.psi_region.specs.Region.{Area, start, step, IsArea}
use Rattle.psi_region.proofs.RegionLemmas.{start-area, step-area}
use Rattle.psi_region.specs.Followed.{follow_areas}
use Rattle.psi_region.proofs.FollowedLemmas.{follow_areas-take}
use Rattle.psi_region.proofs.regions.region_ending.Goals as goal

pub loop-place-init : goal.loop-place-init
loop-place-init g c =
    let course = c.args.course.now in
    let functions = map g.E.EventLaw.function course.events in
    let begun : c.start.new.self.area ≡ start course.caps = c.start.ensures.area ∙ ap (λ (caps : List ℕ). start caps) c.caps.ensures.value in
    record {
      area = subst (λ (a : Area). IsArea course.caps a) (sym begun) (start-area course.caps);
      left = ap (λ (ns : List ℕ). follow_areas course.split functions ns c.start.new.self.area) (take-length c.args.numbers.now)
          ∙ ap (λ (a : Area). follow_areas course.split functions c.args.numbers.now a) begun;
      split = c.start.ensures.split ∙ c.requires.split;
    }

pub advance-requires : goal.advance-requires
advance-requires g c =
    λ x member. subst (λ (caps : List ℕ). IsBelow x caps) (sym c.event.ensures.same_caps) (c.loop-place.invariant.area.within x member)

pub loop-place-preserved : goal.loop-place-preserved
loop-place-preserved g c =
    let course = c.args.course.now in
    let functions = map g.E.EventLaw.function course.events in
    let numbers = c.args.numbers.now in
    let kept = c.loop-place.invariant in
    let t = c.loop-place.place in
    let some : 1 ≤ t = c.loop-place-test.true in
    let within : t ≤ length numbers = omega arith in
    let event = c.event.result.now in
    let old = c.loop-place.region.area in
    let stepped : c.advance.new.self.area ≡ step course.split (g.E.EventLaw.function event) old =
    c.advance.ensures.area ∙ ap (λ m. step m (g.E.EventLaw.function event) old) kept.split in
    record {
      area = subst (λ (a : Area). IsArea course.caps a) (sym stepped)
          (step-area course.split course.caps (g.E.EventLaw.function event) old
          (subst (λ (caps : List ℕ). IsClosed caps (g.E.EventLaw.function event)) c.event.ensures.same_caps (g.met.E.EventLaw.closed event)) kept.area);
      left = follow_areas-take course.split functions numbers t old c.advance.new.self.area (follow_areas course.split functions numbers (start course.caps)) some within
          (stepped ∙ ap (λ (f : List ℕ → List ℕ). step course.split f old) (sym c.event.ensures.function)) kept.left;
      split = c.advance.ensures.split ∙ kept.split;
    }

pub returns-clause-ending : goal.returns-clause-ending
returns-clause-ending g c =
    let course = c.args.course.now in
    let functions = map g.E.EventLaw.function course.events in
    let none : c.loop-place.place ≡ 0 = omega (arith, c.loop-place-test.false) in
    c.single.ensures.value
    ∙ ap (λ (a : Area). single a.states)
    (ap (λ n. follow_areas course.split functions (take n c.args.numbers.now) c.loop-place.region.area) (sym none) ∙ c.loop-place.invariant.left)
