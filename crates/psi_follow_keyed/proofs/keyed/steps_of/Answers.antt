-- Answers in the proof of `steps_of`.
use Rattle.std.proofs.Common.{◌≡◌, ◌+◌, ◌<◌, List, length, map, slice_index_or, ap, sym, subst, ◌∙◌, arith}
use Rattle.std.proofs.lemmas.List.{get_or-map, length-map, length_push}
use Rattle.psi_event.specs.Law.{Function}
use Rattle.psi_follow_keyed.specs.Keyed.{IsStepFor}
use Rattle.psi_follow_keyed.specs.declared.step.Step.{Step}
use Rattle.psi_follow_keyed.specs.declared.step.Step.TheVariants.{Still}
use Rattle.psi_region.proofs.FollowedLemmas.{each-pushed}
use Rattle.psi_follow_keyed.proofs.keyed.steps_of.Goals as goal

pub loop-at-preserved : goal.loop-at-preserved
loop-at-preserved g c =
    let events = c.args.events.now in
    let at = c.loop-at.at in
    let event = c.index-events-at.result in
    let steps = c.loop-at.steps.items in
    let more = c.push_reserved.new.self.items in
    let within : at < length events = c.loop-at-test.true in
    let function : slice_index_or (map g.E.EventLaw.function events) at (λ x. x) ≡ g.E.EventLaw.function event =
    get_or-map g.E.EventLaw.function events at event (λ x. x) within ∙ ap g.E.EventLaw.function (sym c.index-events-at.is) in
    let long : length more ≡ length steps + 1 = ap (λ (ss : List Step). length ss) c.push_reserved.ensures.items ∙ length_push steps c.in-Some.step in
    record {
      long = omega (arith, long, c.loop-at.invariant.long);
      room = omega (arith, c.push_reserved.ensures.capacity, c.loop-at.invariant.room);
      each = each-pushed (λ i step. IsStepFor c.args.board.now (slice_index_or (map g.E.EventLaw.function events) i (λ x. x)) step) Still steps more at c.in-Some.step
          c.loop-at.invariant.long c.push_reserved.ensures.items c.loop-at.invariant.each
          (subst (λ (f : Function). IsStepFor c.args.board.now f c.in-Some.step) (sym function) c.in-Some.ensures);
    }

pub loop-at-init : goal.loop-at-init
loop-at-init g c = record {
  long = ap (λ (ss : List Step). length ss) c.in_ok-steps.ensures.items;
  room = c.in_ok-steps.ensures.exact;
  each = λ i small. absurd (omega arith);
}

pub returns : goal.returns
returns g c =
    let all : c.loop-at.at ≡ length c.args.events.now = omega (arith, c.loop-at-test.false, c.loop-at.auto.at-end) in
    record {
      count = c.loop-at.invariant.long ∙ all ∙ sym (length-map c.args.events.now g.E.EventLaw.function);
      each = λ i small. c.loop-at.invariant.each i (omega (arith, length-map c.args.events.now g.E.EventLaw.function));
    }
