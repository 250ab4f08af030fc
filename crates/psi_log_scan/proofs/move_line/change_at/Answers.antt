-- Answers in the proof of `move_line::change_at`.
use Rattle.psi_log_scan.proofs.MoveLineLemmas.{change_stands}
use Rattle.psi_log_scan.proofs.move_line.change_at.Goals as goal

pub returns-clause-there : goal.returns-clause-there
returns-clause-there c =
    change_stands c.args.text.now c.args.at c.in_ok-queue.next c.in_ok-least.next c.in_ok-greatest.end c.in_ok-queue.queue c.in_ok-least.least c.in_ok-greatest.greatest
    c.in_ok-queue.ensures.there c.in_ok-least.ensures.there c.in_ok-greatest.ensures.there
