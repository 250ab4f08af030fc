-- Answers in the proof of `covering::covers`.
use Rattle.std.specs.Prelude.{◌≡◌, true}
use Rattle.std.proofs.Common.{subst}
use Rattle.psi_replay.specs.Verdict.{is_within}
use Rattle.psi_log_format.specs.Listed.{shown}
use Rattle.psi_log_format.specs.declared.listed_region.BorrowedRegion.{BorrowedRegion as Borrowed}
use Rattle.psi_replay.proofs.RegionLemmas.{within_high}
use Rattle.psi_replay.proofs.covering.covers.Goals as goal

pub covers_box-requires-clause-before : goal.covers_box-requires-clause-before
covers_box-requires-clause-before g c =
    let caps = g.E.EventLaw.capacities c.args.event.now in
    within_high caps c.in-Box.bounds.now (subst (λ (r : Borrowed). is_within caps (shown r) ≡ true) c.in-Box.is c.requires.before) c.len-queues.ensures.ordered
