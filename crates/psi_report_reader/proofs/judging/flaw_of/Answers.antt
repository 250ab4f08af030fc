-- Answers in the proof of `judging::flaw_of`.
use Rattle.std.proofs.Common.{arith}
use Rattle.psi_report_reader.proofs.JudgeLemmas.{flaw-samples, flaw-horizon, flaw-figure, flaw-none}
use Rattle.psi_report_reader.proofs.judging.flaw_of.Goals as goal

pub returns-then-report : goal.returns-then-report
returns-then-report c = rw (← c.report.view_is) (flaw-samples _ c.if-report.true)

pub returns-in-Some : goal.returns-in-Some
returns-in-Some c =
    let flaw = rw (c.in-Some.is, c.as_slice.ensures.value) at c.horizons_flaw.ensures in
    rw (← c.report.view_is) (flaw-horizon _ c.in-Some.place c.line_at.result c.if-report.false flaw c.line_at.ensures)

pub returns-in-Some-first_flaw : goal.returns-in-Some-first_flaw
returns-in-Some-first_flaw c =
    let before = rw (c.in_default.is, c.as_slice.ensures.value) at c.horizons_flaw.ensures in
    let flaw = rw (c.in-Some-first_flaw.is, c.as_slice-2.ensures.value) at c.first_flaw.ensures in
    let own = c.report.inside.horizons.ok.0 in
    rw (← c.report.view_is) (flaw-figure _ c.in-Some-first_flaw.place c.line_at-first.result c.line_at-in-Some-first_flaw.result c.if-report.false before flaw
    (omega (arith, c.line_at-first.ensures, c.len.ensures)) c.line_at-in-Some-first_flaw.ensures)

pub returns-in-None : goal.returns-in-None
returns-in-None c =
    let before = rw (c.in_default.is, c.as_slice.ensures.value) at c.horizons_flaw.ensures in
    let flaw = rw (c.in-None.is, c.as_slice-2.ensures.value) at c.first_flaw.ensures in
    rw (← c.report.view_is) (flaw-none _ c.if-report.false before flaw)
