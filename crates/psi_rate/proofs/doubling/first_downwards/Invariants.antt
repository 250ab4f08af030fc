-- Invariants of the loops of `first_downwards`.
use Rattle.std.proofs.Common.{◌≡◌, ◌≤◌, ◌^◌, Some}
use Rattle.psi_rate.proofs.doubling.first_downwards.Given as goal

-- the least horizon that was asked for has the answer
abbrev pub invariant-loop-least : goal.invariant-loop-least
invariant-loop-least g l = record {
  most : l.least ≤ l.from;
  found : g.R.Answers.answer_at (g.R.Answers.standing l.fn.run) (2 ^ l.least) ≡ Some l.answer;
  same : g.R.Answers.standing l.run ≡ g.R.Answers.standing l.fn.run;
  asked : g.R.Answers.IsAsked l.run;
}

-- fewer horizons are left
abbrev pub decreases-loop-least : goal.decreases-loop-least
decreases-loop-least g l = l.least
