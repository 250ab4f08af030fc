-- Answers in the proof of `merging::joined`.
use Rattle.std.proofs.Common.{arith}
use Rattle.psi_report_reader.proofs.MergeLemmas.{samples-large, met-large, counts-large, figures-large, parts-fit}
use Rattle.psi_report_reader.proofs.merging.joined.Goals as goal

pub returns-in_default : goal.returns-in_default
returns-in_default c = rw (← c.report.view_is, ← c.other.view_is) (samples-large _ _ (omega (arith, c.in_default.ensures)))

pub returns-in_default-checked_add : goal.returns-in_default-checked_add
returns-in_default-checked_add c = rw (← c.report.view_is, ← c.other.view_is) (met-large _ _ (omega (arith, c.in-Some.ensures)) (omega (arith, c.in_default-checked_add.ensures)))

pub returns-then-not-branch : goal.returns-then-not-branch
returns-then-not-branch c =
    let large = rw (c.if-not-branch.true, c.as_slice.ensures.value) at c.in_ok-join_counts.ensures in
    rw (← c.report.view_is, ← c.other.view_is) (counts-large _ _ (omega (arith, c.in-Some.ensures)) large)

pub returns-in-Ok : goal.returns-in-Ok
returns-in-Ok c =
    let counts = rw (c.if-not-branch.false, c.as_slice.ensures.value) at c.in_ok-join_counts.ensures in
    let fit = rw c.as_slice-2.ensures.value at c.have_64_bits.ensures in
    rw (← c.report.view_is, ← c.other.view_is) (parts-fit _ _ c.in-Some.all c.in-Some-checked_add.both_met _ _ (omega (arith, c.in-Some.ensures)) c.in-Some.ensures.1
    (omega (arith, c.in-Some-checked_add.ensures)) c.in-Some-checked_add.ensures.1 counts fit c.in-Ok.ensures.0 c.in-Ok.ensures.1)

pub returns : goal.returns
returns c =
    let counts = rw (c.if-not-branch.false, c.as_slice.ensures.value) at c.in_ok-join_counts.ensures in
    let fit = rw c.as_slice-2.ensures.value at c.have_64_bits.ensures in
    let own = c.other.inside.horizons.ok.0 in
    rw (← c.report.view_is, ← c.other.view_is) (figures-large _ _ (omega (arith, c.in-Some.ensures)) (omega (arith, c.in-Some-checked_add.ensures)) (rw counts at fit)
    c.in-Err.place c.line_at-first.result c.line_at.result c.in-Err.ensures (omega (arith, c.line_at-first.ensures, c.len.ensures)) c.line_at.ensures)
