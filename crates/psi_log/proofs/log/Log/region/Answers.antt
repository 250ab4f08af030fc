-- Answers in the proof of `Log::region`.
use Rattle.std.specs.Prelude.{◌≤◌, length}
use Rattle.std.proofs.Common.{subst, arith}
use Rattle.psi_log_format.specs.Log.{IsRegion}
use Rattle.psi_log_format.specs.Listed.{shown}
use Rattle.psi_log_format.specs.declared.listed_region.BorrowedRegion.{BorrowedRegion as Borrowed}
use Rattle.psi_log.proofs.log.Log.region.Goals as goal

pub overflow_cast-result : goal.overflow_cast-result
overflow_cast-result c =
    let few : length c.in-Set.states.states ≤ 4096 =
    (subst (λ (b : Borrowed). IsRegion c.args.self.now.header.queues (shown b)) c.in-Set.is c.look.ensures.regional).few in
    let size = c.len.ensures in
    omega arith
