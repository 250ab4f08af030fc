-- Answers in the proof of `Keyed::new`.
use Rattle.std.proofs.Common.{◌≡◌, map, get_or, slice_index_or, IfSome, sym, ap, subst, ◌∙◌, arith}
use Rattle.std.proofs.lemmas.List.{get_or-map}
use Rattle.std.proofs.lemmas.List.Elements.{All-get_or}
use Rattle.psi_event.specs.Law.{Function}
use Rattle.psi_follow_keyed.specs.Keys.{Joins, IsBoardFor}
use Rattle.psi_follow_keyed.specs.Keyed.{AreStepsFor}
use Rattle.psi_follow_keyed.proofs.keyed.Keyed.new.Goals as goal

pub steps_of-requires : goal.steps_of-requires
steps_of-requires g c =
    let events = c.args.events.now in
    let number = c.in-Some.number in
    let event = c.index-events-number.result in
    let function = g.E.EventLaw.function in
    let read : get_or events number event ≡ event = sym c.index-events-number.is in
    let own : g.E.EventLaw.capacities event ≡ c.args.caps =
    ap g.E.EventLaw.capacities (sym read) ∙ All-get_or (λ e. g.E.EventLaw.capacities e ≡ c.args.caps) events number event c.in-Some.ensures c.requires in
    let board : IsBoardFor (g.E.EventLaw.capacities event) (function event) c.in-Some-2.board =
    subst (λ found. IfSome found (λ b. IsBoardFor (g.E.EventLaw.capacities event) (function event) b)) c.in-Some-2.is c.in_ok-board.ensures in
    let same : slice_index_or (map function events) number (λ x. x) ≡ function event = get_or-map function events number event (λ x. x) c.in-Some.ensures ∙ ap function read in
    record {
      caps = λ k d small. c.requires k d small ∙ sym own ∙ sym board.same_caps;
      joins = subst (λ (f : Function). Joins c.in-Some-2.board f) (sym same) board.joins;
    }

pub invariant_of-result : goal.invariant_of-result
invariant_of-result g c =
    let steps : AreStepsFor c.in-Some-2.board (map g.E.EventLaw.function c.args.events.now) c.in-Some-3.steps.items =
    subst (λ found. IfSome found (λ s. AreStepsFor c.in-Some-2.board (map g.E.EventLaw.function c.args.events.now) s.items)) c.in-Some-3.is c.in_ok-steps.ensures in
    record { each = λ i small. (steps.each i (omega (arith, steps.count))).valid }

pub returns : goal.returns
returns g c =
    let events = c.args.events.now in
    let number = c.in-Some.number in
    let event = c.index-events-number.result in
    let read : get_or events number event ≡ event = sym c.index-events-number.is in
    let own : g.E.EventLaw.capacities event ≡ c.args.caps =
    ap g.E.EventLaw.capacities (sym read) ∙ All-get_or (λ e. g.E.EventLaw.capacities e ≡ c.args.caps) events number event c.in-Some.ensures c.requires in
    let board : IsBoardFor (g.E.EventLaw.capacities event) (g.E.EventLaw.function event) c.in-Some-2.board =
    subst (λ found. IfSome found (λ b. IsBoardFor (g.E.EventLaw.capacities event) (g.E.EventLaw.function event) b)) c.in-Some-2.is c.in_ok-board.ensures in
    record {
      same_caps = board.same_caps ∙ own;
      steps = subst (λ found. IfSome found (λ s. AreStepsFor c.in-Some-2.board (map g.E.EventLaw.function events) s.items)) c.in-Some-3.is c.in_ok-steps.ensures;
    }
