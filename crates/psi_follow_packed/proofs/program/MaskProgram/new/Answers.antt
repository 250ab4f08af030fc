use Rattle.std.proofs.Common.{◌≡◌, ◌<◌, ℕ, List, [], ◌∷◌, ◌++◌, length, get_or, map, rules, slice_index_or, refl, ap, ap₂, sym, subst, ◌∙◌, arith}
use Rattle.std.proofs.lemmas.Bool.{and_parts}
use Rattle.std.proofs.lemmas.List.{get_or-map, length-map}
use Rattle.std.proofs.lemmas.List.Elements.{All-get_or}
use Rattle.psi_event.specs.Law.{Function, IsClosed}
use Rattle.psi_event.specs.Piecewise.{Does}
use Rattle.psi_follow_packed.specs.Views.{low_word, high_word, moving_by}
use Rattle.psi_follow_packed.specs.Moves.{Moving, IsLowered, ChangesNothing, no_move}
use Rattle.psi_follow_packed.specs.Programs.{IsMoveFor}
use Rattle.psi_follow_packed.proofs.MovingLemmas.{moving-push, length-more}
use Rattle.psi_region.proofs.FollowedLemmas.{each-pushed}
use Rattle.psi_follow_packed.specs.declared.moves.PackedEvent.{PackedEvent}
use Rattle.psi_follow_packed.proofs.program.MaskProgram.new.Goals as goal

pub loop-event-preserved : goal.loop-event-preserved
loop-event-preserved g c =
    let k = c.loop-event.event-index in
    let events = c.args.events.now in
    let event = c.event-item.result in
    let layout = c.args.layout in
    let own_move = c.of-own.result in
    let low = moving_by {K = g.row.K} low_word in
    let high = moving_by {K = g.row.K} high_word in
    let within : k < length events = c.loop-event-test.true in
    let read : get_or events k event ≡ event = sym c.event-item.is in
    let caps : g.E.EventLaw.capacities event ≡ layout.caps =
    ap g.E.EventLaw.capacities (sym read) ∙ All-get_or (λ e. g.E.EventLaw.capacities e ≡ layout.caps) events k event within c.requires in
    let function : slice_index_or (map g.E.EventLaw.function events) k (λ x. x) ≡ g.E.EventLaw.function event =
    get_or-map g.E.EventLaw.function events k event (λ x. x) within ∙ ap g.E.EventLaw.function read in
    let own : IsMoveFor g.row.K layout (g.E.EventLaw.function event) (low own_move) = record {
      closed = subst (λ (l : List ℕ). IsClosed l (g.E.EventLaw.function event)) caps (g.met.E.EventLaw.closed event);
      pieces = c.in-Some.pieces;
      does = subst (λ (l : List ℕ). Does l c.in-Some.pieces (g.E.EventLaw.function event)) caps c.in-Some.ensures;
      move = c.of-own.ensures.pieces;
    } in
    let moves = c.loop-event.moves.items in
    let long = length-map moves low ∙ c.loop-event.invariant.long in
    let pushed = moving-push low moves c.push_reserved.new.self.items own_move c.push_reserved.ensures.items in
    let pushed_high = moving-push high moves c.push_reserved.new.self.items own_move c.push_reserved.ensures.items in
    record {
      long = length-more moves c.push_reserved.new.self.items own_move k c.loop-event.invariant.long c.push_reserved.ensures.items;
      room = omega (arith, c.push_reserved.ensures.capacity, c.loop-event.invariant.room);
      each = each-pushed (λ (i : ℕ) (m : Moving). IsMoveFor g.row.K layout (slice_index_or (map g.E.EventLaw.function events) i (λ x. x)) m) no_move (map low moves) _ k (low own_move) long pushed
          c.loop-event.invariant.each (subst (λ (f : Function). IsMoveFor g.row.K layout f (low own_move)) (sym function) own);
      same = pushed_high ∙ ap₂ (λ (ms : List Moving) (m : Moving). ms ++ m ∷ []) c.loop-event.invariant.same c.of-own.ensures.twice ∙ sym pushed;
      lowered = each-pushed (λ (_ : ℕ) (m : Moving). IsLowered g.row.K m) no_move (map low moves) _ k (low own_move) long pushed c.loop-event.invariant.lowered c.of-own.ensures.lowered;
      alone = λ both.
          (let parts = and_parts c.loop-event.first_alone c.is_of_one_piece-first_alone.result both in
          each-pushed (λ (_ : ℕ) (m : Moving). ChangesNothing g.row.K m.second) no_move (map low moves) _ k (low own_move) long pushed
          (c.loop-event.invariant.alone parts.0) (c.is_of_one_piece-first_alone.ensures.0 parts.1));
    }

pub loop-event-init : goal.loop-event-init
loop-event-init g c =
    let none = c.in_ok-moves.ensures.items in
    record {
      long = ap (λ (ms : List (PackedEvent g.row.K)). length ms) none;
      room = c.in_ok-moves.ensures.exact;
      each = λ i small. absurd (omega arith);
      same = ap (map (moving_by {K = g.row.K} high_word)) none ∙ sym (ap (map (moving_by {K = g.row.K} low_word)) none);
      lowered = λ i small. absurd (omega arith);
      alone = λ yes i small. absurd (omega arith);
    }

pub invariant_of-result : goal.invariant_of-result
invariant_of-result g c =
    record {
      packing = search rules;
      same = c.loop-event.invariant.same;
      lowered = λ i small. c.loop-event.invariant.lowered i (omega (arith, length-map c.loop-event.moves.items (moving_by {K = g.row.K} low_word), c.loop-event.invariant.long));
      alone = λ yes i small. c.loop-event.invariant.alone yes i (omega (arith, length-map c.loop-event.moves.items (moving_by {K = g.row.K} low_word), c.loop-event.invariant.long));
    }

pub returns : goal.returns
returns g c =
    let all : c.loop-event.event-index ≡ length c.args.events.now = omega (arith, c.loop-event-test.false, c.loop-event.auto.event-index-end) in
    record {
      packing = search rules;
      same_caps = refl;
      same_count = length-map c.loop-event.moves.items (moving_by {K = g.row.K} low_word) ∙ c.loop-event.invariant.long ∙ all ∙ sym (length-map c.args.events.now g.E.EventLaw.function);
      each = λ i small. c.loop-event.invariant.each i (omega (arith, length-map c.args.events.now g.E.EventLaw.function));
    }
