use Rattle.std.proofs.Common.{ℕ, List, ◌-◌, map, rules, ap, subst, ◌∙◌}
use Rattle.psi_event.specs.Law.{IsClosed}
use Rattle.psi_event.specs.Piecewise.{Does}
use Rattle.psi_follow_packed.specs.UnitEvents.{IsUnit}
use Rattle.psi_follow_packed.specs.Packed.{IsPacking, packed}
use Rattle.psi_follow_packed.specs.Moves.{guard}
use Rattle.psi_follow_packed.specs.Programs.{Prepared}
use Rattle.psi_follow_packed.proofs.program.MaskProgram.unit_event.Goals as goal

pub returns : goal.returns
returns g c =
    let event = c.args.event.now in
    let pieces = c.in_ok-pieces.pieces in
    let caps = c.requires in
    let view = c.self.view_is in
    record {
      packing = subst (λ (q : Prepared). IsPacking g.row.K q.packing) view c.self.invariant.packing;
      closed = subst (λ (cs : List ℕ). IsClosed cs (g.E.EventLaw.function event)) caps (g.met.E.EventLaw.closed event);
      pieces = pieces;
      does = subst (λ (cs : List ℕ). Does cs pieces (g.E.EventLaw.function event)) caps c.in_ok-pieces.ensures;
      unit = subst (λ (cs : List ℕ). IsUnit cs pieces) (c.caps.ensures.value ∙ ap (λ (q : Prepared). q.packing.caps) view) (c.is_unit.ensures.0 (search rules));
      offsets = c.offsets.ensures ∙ ap (λ (q : Prepared). packed g.row.K q.packing (map (λ v. guard q.packing.bits - v) pieces.bounds)) view;
      ups = c.pack.ensures ∙ ap (λ (q : Prepared). packed g.row.K q.packing pieces.first.ups) view;
      downs = c.pack-2.ensures ∙ ap (λ (q : Prepared). packed g.row.K q.packing pieces.first.downs) view;
      shift = ap (λ n. n - 1) (c.bits.ensures.value ∙ ap (λ (q : Prepared). q.packing.bits) view);
    }
