-- Answers in the proof of `regions::holds`.
use Rattle.std.proofs.Common.{ap, sym, ◌∙◌}
use Rattle.psi_replay.specs.Verdict.{states_of, has}
use Rattle.psi_log_format.specs.Listed.{shown}
use Rattle.psi_log_format.specs.declared.listed_region.BorrowedRegion.{BorrowedRegion as Borrowed}
use Rattle.psi_replay.proofs.RegionLemmas.{box_holds}
use Rattle.psi_replay.proofs.regions.holds.Goals as goal

pub returns-in-Box : goal.returns-in-Box
returns-in-Box c =
    box_holds c.in-Box.bounds.now c.args.x.now c.holds.result c.holds.ensures
    ∙ ap (λ (r : Borrowed). has (states_of (shown r)) c.args.x.now) (sym c.in-Box.is)
