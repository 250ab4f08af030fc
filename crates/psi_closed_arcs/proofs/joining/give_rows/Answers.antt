-- Answers in the proof of `give_rows`.
use Rattle.std.proofs.Common.{inl, inr, arith}
use Rattle.std.proofs.lemmas.Bool.{cases_eq}
use Rattle.psi_closed_arcs.proofs.RowsLemmas.{read-own, read-other}
use Rattle.psi_closed_arcs.proofs.joining.give_rows.Goals as goal

pub loop-before-preserved : goal.loop-before-preserved
loop-before-preserved c =
    let rows = c.loop-before.reach.next.items in
    let n = c.loop-before.before in
    let row = c.given-row.result in
    let long = c.loop-before.reach.next_all in
    let small = c.requires.small in
    let inside = c.requires.inside in
    let test = c.loop-before-test.true in
    let own = read-own rows n row (omega arith) in
    record {
      arcs = λ s v above less. elim (cases_eq s n) [
        | inl same ↦ rw (same, own) (rw (c.at-at.ensures.from, c.at-at.ensures.to, c.at-at.ensures.level, c.loop-before.invariant.changing, c.loop-before.invariant.short, c.loop-before.invariant.full)
            at (c.given-row.ensures.arcs v))
        | inr other ↦ rw (read-other rows n s row other) (c.loop-before.invariant.arcs s v above (omega arith))
      ];
      ranged = λ s t above less within given. elim (cases_eq s n) [
        | inl same ↦ rw same (c.given-row.ensures.ranged t within (rw (same, own) at given))
        | inr other ↦ c.loop-before.invariant.ranged s t above (omega arith) within (rw (read-other rows n s row other) at given)
      ];
      changing = c.loop-before.invariant.changing;
      short = c.loop-before.invariant.short;
      full = c.loop-before.invariant.full;
      spans = c.loop-before.invariant.spans;
    }
