-- Answers in the proof of `scan::read_row`.
use Rattle.std.specs.Prelude.{slice_set}
use Rattle.std.proofs.Common.{◌≡◌, ℕ, ◌-◌, ◌∙◌, length, take, refl, subst, arith}
use Rattle.std.proofs.lemmas.List.{length-set}
use Rattle.psi_log_scan.specs.Scanned.{Stands, with_commas}
use Rattle.psi_log_scan.proofs.ScanLemmas.{commas_none, commas_more, commas_last}
use Rattle.psi_log_scan.proofs.scan.read_row.Goals as goal

pub loop-queue-init : goal.loop-queue-init
loop-queue-init c = record {
  count = refl;
  within = c.requires.within;
  there = commas_none c.args.text.now c.args.row.now c.args.at;
}

pub loop-queue-preserved : goal.loop-queue-preserved
loop-queue-preserved c =
    let queue = c.loop-queue.queue in
    let row = c.loop-queue.row in
    let number = c.in-Some.number in
    let count = c.loop-queue.invariant.count in
    record {
      count = length-set row queue number ∙ count;
      within = c.in-Some.ensures.within;
      there = commas_more c.args.text.now c.args.at c.loop-queue.end c.in-Some.next queue number row (slice_set row queue number) (omega arith) refl
          c.loop-queue.invariant.there c.in-Some.ensures.there;
    }

pub returns-clause-there : goal.returns-clause-there
returns-clause-there c =
    let row = c.loop-queue.row in
    let most = length c.args.row.now - 1 in
    let last : c.loop-queue.queue ≡ most = omega arith in
    commas_last c.args.text.now c.args.at c.loop-queue.end c.in_ok-number.end most c.in_ok-number.number row (slice_set row most c.in_ok-number.number) (omega arith) refl
    (subst (λ (k : ℕ). Stands c.args.text.now c.args.at c.loop-queue.end (with_commas (take k row))) last c.loop-queue.invariant.there) c.in_ok-number.ensures.there
