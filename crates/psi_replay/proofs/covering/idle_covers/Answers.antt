-- Answers in the proof of `covering::idle_covers`.
use Rattle.std.proofs.Common.{ap, sym, ◌∙◌, refl}
use Rattle.psi_event.specs.Idle.{unchanged}
use Rattle.psi_log_format.specs.Log.{in_set}
use Rattle.psi_log_format.specs.Listed.{shown}
use Rattle.psi_log_format.specs.Rows.{States}
use Rattle.psi_log_format.specs.declared.listed_region.BorrowedRegion.{BorrowedRegion as Borrowed}
use Rattle.psi_replay.specs.Verdict.{covers}
use Rattle.psi_replay.proofs.RegionLemmas.{covers_itself}
use Rattle.psi_replay.proofs.covering.idle_covers.Goals as goal

pub returns-then-are_same : goal.returns-then-are_same
returns-then-are_same c =
    let set = c.in-Set-Set.rows in
    sym (ap (λ (r : Borrowed). covers unchanged (shown r) (shown c.args.after.now)) c.in-Set-Set.is-0 ∙ ap (λ (r : Borrowed). covers unchanged (in_set set.states) (shown r)) c.in-Set-Set.is-1
    ∙ ap (λ (r : States). covers unchanged (in_set set.states) (in_set r.states)) (sym (c.if-are_same.ensures.0 refl)) ∙ covers_itself set.states)
