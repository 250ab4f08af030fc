-- One move more is made, and then that of idle.
use Rattle.std.proofs.Common.{◌≡◌, ◌<◌, ◌+◌, List, length, map, sym, ap, subst, ◌∙◌, arith}
use Rattle.std.proofs.lemmas.List.{length-map, length_push}
use Rattle.psi_event.specs.Law.{IsClosed}
use Rattle.psi_event.specs.Inner.IdleLaws.{unchanged-closed}
use Rattle.psi_event.specs.Piecewise.{Does}
use Rattle.psi_follow_packed.specs.declared.moves.PackedEvent.{PackedEvent}
use Rattle.psi_path_packed.specs.Counts.{IsByFirst}
use Rattle.psi_path_packed.proofs.RisesLemmas.{at-place}
use Rattle.psi_path_packed.proofs.BuildLemmas.{all-more, moves-more, prepared-all}
use Rattle.psi_path_packed.proofs.moves.moves_of.Goals as goal

pub loop-event-preserved : goal.loop-event-preserved
loop-event-preserved g c =
    let k = c.loop-event.event-index in
    let events = c.args.events.now in
    let layout = c.args.layout.now in
    let kept = c.loop-event.invariant in
    let made = c.of-own.ensures in
    let pushed = c.push_reserved.ensures.items in
    let within : k < length events = c.loop-event-test.true in
    let closed = at-place g.E.EventLaw.capacities g.E.EventLaw.function layout.caps events k c.event-item.result (λ cs f. IsClosed cs f) within c.event-item.is c.requires.caps
    (g.met.E.EventLaw.closed c.event-item.result) in
    let does = at-place g.E.EventLaw.capacities g.E.EventLaw.function layout.caps events k c.event-item.result (λ cs f. Does cs c.in-Some.pieces f) within c.event-item.is c.requires.caps c.in-Some.ensures in
    let long : length c.push_reserved.new.self.items ≡ k + 1 =
    ap (λ (ms : List (PackedEvent g.row.K)). length ms) pushed ∙ length_push c.loop-event.moves.items c.of-own.result ∙ ap (λ n. n + 1) kept.long in
    record {
      long = long;
      room = omega (arith, c.push_reserved.ensures.capacity, kept.room);
      first = all-more (λ (m : PackedEvent g.row.K). IsByFirst m) c.loop-event.moves.items c.push_reserved.new.self.items c.of-own.result pushed kept.first
          (record { first = record { lowered = made.lowered; alone = c.is_of_one_piece.ensures.0 c.if-not-is_of_one_piece.false }; twice = made.twice });
      each = moves-more layout (map g.E.EventLaw.function events) c.loop-event.moves.items c.push_reserved.new.self.items c.of-own.result k kept.long pushed kept.each
          (record { closed = closed; pieces = c.in-Some.pieces; does = does; move = made.pieces });
    }

pub returns-clause-first : goal.returns-clause-first
returns-clause-first g c =
    let made = c.of-last.ensures in
    all-more (λ (m : PackedEvent g.row.K). IsByFirst m) c.loop-event.moves.items c.push_reserved-2.new.self.items c.of-last.result c.push_reserved-2.ensures.items c.loop-event.invariant.first
    (record { first = record { lowered = made.lowered; alone = c.is_of_one_piece-2.ensures.0 c.if-not-is_of_one_piece-2.false }; twice = made.twice })

pub returns-clause-prepared : goal.returns-clause-prepared
returns-clause-prepared g c =
    let layout = c.args.layout.now in
    let events = c.args.events.now in
    let functions = map g.E.EventLaw.function events in
    let kept = c.loop-event.invariant in
    let all : c.loop-event.event-index ≡ length events = omega (arith, c.loop-event-test.false, c.loop-event.auto.event-index-end) in
    let size = length-map events g.E.EventLaw.function in
    let caps = c.caps.ensures.value in
    prepared-all layout functions c.loop-event.moves.items c.push_reserved-2.new.self.items c.of-last.result c.caps.ensures.valid (kept.long ∙ all ∙ sym size) c.push_reserved-2.ensures.items
    (λ i small. kept.each i (omega (arith, small, size, all)))
    (record { closed = unchanged-closed layout.caps; pieces = c.idle.result; does = subst (λ (cs : List _). Does cs c.idle.result _) caps c.idle.ensures; move = c.of-last.ensures.pieces })
