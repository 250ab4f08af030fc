-- Answers in the proof of `head::time_at`.
use Rattle.std.proofs.Common.{◌+◌, subst, arith, decimal, ◌≡◌, ℕ}
use Rattle.psi_log_scan.specs.Scanned.{Stands}
use Rattle.psi_log_scan.proofs.ScanLemmas.{digit_first, digit_more}
use Rattle.psi_log_scan.proofs.SameLemmas.{digit_behind}
use Rattle.psi_log_scan.proofs.head.time_at.Goals as goal

pub loop-place-init : goal.loop-place-init
loop-place-init c =
    let small = c.in_ok-value.ensures.small in
    record {
      small = omega arith;
      there = digit_first c.args.text.now 5 6 c.in_ok-value.value small (digit_behind c.args.text.now 0 c.in_ok-value.value (omega arith) (omega arith) c.in_ok-value.ensures.value);
    }

pub loop-place-preserved : goal.loop-place-preserved
loop-place-preserved c =
    let place = c.loop-place.place in
    let small = c.in-Some.ensures.small in
    record {
      small = omega arith;
      there = digit_more c.args.text.now 5 (5 + place) (5 + (place + 1)) c.loop-place.value c.in-Some.digit (omega arith) c.if-value-gt999999.false small c.loop-place.invariant.there
          (digit_behind c.args.text.now place c.in-Some.digit (omega arith) (omega arith) c.in-Some.ensures.value);
    }

pub returns-clause-there : goal.returns-clause-there
returns-clause-there c =
    let last : c.loop-place.place ≡ 7 = omega arith in
    subst (λ (k : ℕ). Stands c.args.text.now 5 (5 + k) (decimal c.loop-place.value)) last c.loop-place.invariant.there
