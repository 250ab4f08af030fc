-- Answers in the proof of `counts::have_64_bits`.
use Rattle.std.proofs.Common.{◌≡◌, get_or, true, refl, arith}
use Rattle.std.proofs.lemmas.Bool.{lt-ltb}
use Rattle.std.proofs.lemmas.List.Folds.{list_all_more}
use Rattle.psi_report.specs.declared.figure.HorizonCount.{HorizonCount}
use Rattle.psi_report_reader.specs.Merging.{is_count}
use Rattle.psi_report_reader.proofs.counts.have_64_bits.Goals as goal

pub loop-count-preserved : goal.loop-count-preserved
loop-count-preserved c =
    let d : HorizonCount = record { horizon = 0; count = 0 } in
    let here = get_or c.args.counts.now c.loop-count.count-index d in
    let is = c.number_of-number.ensures in
    let fits = c.number_of-number.type_inv in
    let small : is_count here.count ≡ true = lt-ltb here.count 18446744073709551616 (omega arith) in
    rw (list_all_more (λ (h : HorizonCount). is_count h.count) c.args.counts.now c.loop-count.count-index d c.loop-count-test.true, small, c.loop-count.invariant) refl
