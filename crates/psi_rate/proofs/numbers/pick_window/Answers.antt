-- Answers in the proof of `pick_window`.
use Rattle.std.proofs.Common.{rules, ◌≡◌, ◌-◌, length}
use Rattle.psi_rate.proofs.NumbersLemmas.{numbers-window}
use Rattle.psi_rate.proofs.numbers.pick_window.Goals as goal

pub returns-clause-numbers : goal.returns-clause-numbers
returns-clause-numbers g c =
    let long : length c.fill.new.out ≡ c.args.end - c.args.first = search rules in
    numbers-window c.args.wheel.now (g.P.Past.words c.args.past.now) c.args.first c.args.end c.pick_all.result c.fill.new.out c.pick_all.new.numbers
    c.requires.longer long c.fill.ensures.filled c.pick_all.ensures.numbers
