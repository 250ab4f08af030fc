-- Answers in the proof of `runs::around`.
use Rattle.std.proofs.Common.{◌∙◌, arith}
use Rattle.std.proofs.lemmas.List.{length-set}
use Rattle.psi_log_scan.proofs.RunLemmas.{around_more}
use Rattle.psi_log_scan.proofs.runs.around.Goals as goal

pub loop-place-preserved : goal.loop-place-preserved
loop-place-preserved c = record {
  count = length-set c.loop-place.same c.loop-place.place _ ∙ c.loop-place.invariant.count;
  from = (let from = c.loop-place.invariant.from in omega arith);
  around = around_more c.args.from c.args.until c.loop-place.place c.args.len c.loop-place.same c.loop-place.invariant.from (omega (arith, c.loop-place-test.true)) c.loop-place.invariant.around;
}
