-- Invariants of the loops of `covering::set_covers_set`.
use Rattle.std.specs.Prelude.{◌≡◌, ℕ, List, drop}
use Rattle.std.specs.List.{list_all}
use Rattle.psi_log_format.specs.Log.{in_set}
use Rattle.psi_replay.specs.Verdict.{has, covers}
use Rattle.psi_replay.proofs.covering.set_covers_set.Given as goal

-- the images of the states so far are there
abbrev pub invariant-loop-place : goal.invariant-loop-place
invariant-loop-place g l =
    list_all (λ (x : List ℕ). has l.to.states (g.E.EventLaw.function l.event x)) (drop l.place l.from.states) ≡ covers (g.E.EventLaw.function l.event) (in_set l.from.states) (in_set l.to.states)
