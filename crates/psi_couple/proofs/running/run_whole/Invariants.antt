-- Invariants of the loops of `run_whole`.
use Rattle.std.proofs.Common.{◌≡◌, Some}
use Rattle.psi_couple.proofs.running.run_whole.Given as goal

-- as many steps of the run are done as the loop has counted
abbrev pub invariant-loop : goal.invariant-loop
invariant-loop g l = record {
  run : l.plan.run ≡ Some (record { horizon = l.horizon; done = l.counter });
  system : l.plan.system ≡ l.fn.plan.system;
  words : g.P.Past.words l.plan.past ≡ g.P.Past.words l.fn.plan.past;
}
