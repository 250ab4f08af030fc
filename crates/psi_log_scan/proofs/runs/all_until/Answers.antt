-- Answers in the proof of `runs::all_until`.
use Rattle.std.proofs.Common.{◌∙◌, arith}
use Rattle.std.proofs.lemmas.List.{length-set}
use Rattle.psi_log_scan.proofs.RunLemmas.{until_more}
use Rattle.psi_log_scan.proofs.runs.all_until.Goals as goal

pub loop-place-preserved : goal.loop-place-preserved
loop-place-preserved c =
    let count = c.loop-place.invariant.count in
    record {
      count = length-set c.loop-place.same c.loop-place.place _ ∙ count;
      until = until_more c.loop-place.place c.loop-place.same (omega (arith, c.loop-place-test.true)) c.loop-place.invariant.until;
    }
