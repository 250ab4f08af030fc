-- Answers in the proof of `answer`.
use Rattle.psi_run.proofs.AboutsLemmas.{answered}
use Rattle.psi_run.proofs.SparingLemmas.{log_given}
use Rattle.psi_run.proofs.commands.answer.Goals as goal

pub returns-in-Sample-clause-ending : goal.returns-in-Sample-clause-ending
returns-in-Sample-clause-ending g c told are name at = answered _ name _ _ _ _ c.in-Sample.is at c.sample_ending.ensures

pub returns-in-Check-clause-ending : goal.returns-in-Check-clause-ending
returns-in-Check-clause-ending g c told are name at = answered _ name _ _ _ _ c.in-Check.is at (c.check_ending.ensures.reply, c.check_ending.ensures.marks)

pub returns-in-Report-clause-ending : goal.returns-in-Report-clause-ending
returns-in-Report-clause-ending g c told are name at = answered _ name _ _ _ _ c.in-Report.is at c.report_ending.ensures

pub returns-in-Couple-clause-ending : goal.returns-in-Couple-clause-ending
returns-in-Couple-clause-ending g c told are name at = answered _ name _ _ _ _ c.in-Couple.is at c.couple_ending.ensures

pub returns-in-Reward-clause-ending : goal.returns-in-Reward-clause-ending
returns-in-Reward-clause-ending g c told are name at = answered _ name _ _ _ _ c.in-Reward.is at c.reward_ending.ensures

pub returns-in-Exact-clause-ending : goal.returns-in-Exact-clause-ending
returns-in-Exact-clause-ending g c told are name at = answered _ name _ _ _ _ c.in-Exact.is at c.exact_ending.ensures

pub returns-in-Closed-clause-ending : goal.returns-in-Closed-clause-ending
returns-in-Closed-clause-ending g c told are name at = answered _ name _ _ _ _ c.in-Closed.is at c.closed_ending.ensures

pub returns-in-Replay-clause-read : goal.returns-in-Replay-clause-read
returns-in-Replay-clause-read g c name given =
    c.work.ensures.read (log_given (g.F.Shelf.gives c.args.shelf.now) name c.in-Replay.log.now (rw c.in-Replay.is at given))

pub returns-in-Replay-clause-spared : goal.returns-in-Replay-clause-spared
returns-in-Replay-clause-spared g c name given =
    c.work.ensures.spared (log_given (g.F.Shelf.gives c.args.shelf.now) name c.in-Replay.log.now (rw c.in-Replay.is at given))

pub returns-in-Replay-clause-asked : goal.returns-in-Replay-clause-asked
returns-in-Replay-clause-asked g c name = rw c.in-Replay.is c.work.ensures.asked
