-- Invariants of the loops of `regions::ascends`.
use Rattle.std.specs.Prelude.{◌≡◌, drop}
use Rattle.psi_log_words.specs.Regions.{ascends}
use Rattle.psi_log_words.proofs.regions.ascends.Given as goal

abbrev pub invariant-loop-place : goal.invariant-loop-place
invariant-loop-place l = ascends (drop l.place l.states.states) ≡ ascends (drop l.first l.states.states)
