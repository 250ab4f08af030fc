-- Answers in the proof of `runs::next_number`.
use Rattle.std.proofs.Common.{ℕ, ◌+◌, decimal, subst, refl, arith}
use Rattle.psi_log_scan.specs.Scanned.{Stands}
use Rattle.psi_log_scan.proofs.RunLemmas.{word_stands}
use Rattle.psi_log_scan.proofs.runs.next_number.Goals as goal

pub returns-clause-there : goal.returns-clause-there
returns-clause-there c =
    let run = c.args.run.now in
    let within = c.if-not-is_alike.ensures.within refl in
    word_stands c.args.text.now c.args.row.now run c.args.at c.in_ok-number.number c.requires (omega arith) (c.if-not-is_alike.ensures.alike refl)
    (subst (λ (k : ℕ). Stands c.args.text.now (c.args.at + c.args.run.now.from) k (decimal c.in_ok-number.number)) (omega arith) c.in_ok-number.ensures)
