-- Invariants of the loops of `first_upwards`.
use Rattle.std.proofs.Common.{◌≡◌, ◌<◌}
use Rattle.psi_rate.specs.Doubling.{HasNone}
use Rattle.psi_rate.proofs.doubling.first_upwards.Given as goal

-- there is no answer at the smaller horizons
abbrev pub invariant-loop-exponent : goal.invariant-loop-exponent
invariant-loop-exponent g l = record {
  earlier : HasNone (g.R.Answers.answer_at (g.R.Answers.standing l.fn.run)) l.exponent;
  same : g.R.Answers.standing l.run ≡ g.R.Answers.standing l.fn.run;
  asked : l.limit < l.exponent → g.R.Answers.IsAsked l.run;
}
