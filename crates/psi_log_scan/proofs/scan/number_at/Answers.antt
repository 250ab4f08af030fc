-- Answers in the proof of `scan::number_at`.
use Rattle.std.proofs.Common.{◌+◌, arith}
use Rattle.psi_log_scan.proofs.ScanLemmas.{digit_first, digit_more}
use Rattle.psi_log_scan.proofs.scan.number_at.Goals as goal

pub loop-init : goal.loop-init
loop-init c = record {
  within = (let small = c.in_ok-value.ensures.within in omega arith);
  small = (let small = c.in_ok-value.ensures.small in omega arith);
  there = digit_first c.args.text.now c.args.at (c.args.at + 1) c.in_ok-value.value c.in_ok-value.ensures.small c.in_ok-value.ensures.there;
}

pub loop-preserved : goal.loop-preserved
loop-preserved c =
    let small = c.in-Some.ensures.small in
    let within = c.in-Some.ensures.within in
    record {
      within = omega arith;
      small = omega arith;
      there = digit_more c.args.text.now c.args.at c.loop.end (c.loop.end + 1) c.loop.value c.in-Some.digit (omega arith) c.if-value-gt999999.false small c.loop.invariant.there c.in-Some.ensures.there;
    }
