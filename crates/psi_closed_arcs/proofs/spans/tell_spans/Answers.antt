-- Answers in the proof of `tell_spans`.
use Rattle.std.proofs.Common.{inl, inr, sym, subst, arith, slice_set, get_or-set_same, get_or-set_other}
use Rattle.std.proofs.lemmas.Bool.{cases_eq}
use Rattle.psi_closed_arcs.specs.declared.spans.Span.{Span}
use Rattle.psi_closed_arcs.specs.Inner.SpansKept.{span_at, IsSpan}
use Rattle.psi_closed_arcs.proofs.spans.tell_spans.Goals as goal

pub loop-level-preserved : goal.loop-level-preserved
loop-level-preserved c k above less =
    let of = c.args.of.now in
    let spans = c.loop-level.spans in
    let level = c.loop-level.level in
    let few = c.requires.few in
    let inside = c.requires.inside in
    let room = c.requires.room in
    let long = c.loop-level.auto.spans in
    let test = c.loop-level-test.true in
    elim (cases_eq k level) [
      | inl same ↦ subst (λ i. IsSpan of.arcs of.total i (span_at (slice_set spans level c.span_of.result) i)) (sym same)
          (subst (λ (x : Span). IsSpan of.arcs of.total level x) (sym (get_or-set_same spans level c.span_of.result (record { first = 0; end = 0 }) (omega arith))) c.span_of.ensures)
      | inr other ↦ subst (λ (x : Span). IsSpan of.arcs of.total k x) (sym (get_or-set_other spans level k c.span_of.result (record { first = 0; end = 0 }) other))
          (c.loop-level.invariant k above (omega arith))
    ]
