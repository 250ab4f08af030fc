-- Answers in the proof of `counts::join_counts`.
use Rattle.std.proofs.Common.{◌-◌, ◌+◌, length, take, get_or, sym, ◌∙◌, ap}
use Rattle.psi_report_reader.specs.Counts.{with_count, joined_counts}
use Rattle.psi_report_reader.proofs.CountLemmas.{counts_fit-joined, joined_counts-step}
use Rattle.psi_report_reader.proofs.counts.join_counts.Goals as goal

pub returns-then-not-branch : goal.returns-then-not-branch
returns-then-not-branch c =
    let large = rw c.if-not-branch.true at c.in_ok-add_count.ensures in
    let step = joined_counts-step c.args.own.now c.loop-place.place (record { horizon = 0; count = 0 }) c.loop-place.counts.items c.loop-place-test.true in
    rw (← c.loop-place.invariant, step) (counts_fit-joined (take (length c.args.own.now - (c.loop-place.place + 1)) c.args.own.now) (with_count (get_or c.args.own.now (length c.args.own.now - 1 - c.loop-place.place) (record { horizon = 0; count = 0 })) c.loop-place.counts.items) large)

pub loop-place-preserved : goal.loop-place-preserved
loop-place-preserved c =
    let added = rw c.if-not-branch.false at c.in_ok-add_count.ensures in
    let step = joined_counts-step c.args.own.now c.loop-place.place (record { horizon = 0; count = 0 }) c.loop-place.counts.items c.loop-place-test.true in
    ap (joined_counts (take (length c.args.own.now - (c.loop-place.place + 1)) c.args.own.now)) added ∙ sym step ∙ c.loop-place.invariant
