-- Invariants of the loops of `covering::set_covers_box`.
use Rattle.std.specs.Prelude.{◌≡◌, ℕ, List, drop}
use Rattle.std.specs.List.{list_all}
use Rattle.psi_log_format.specs.Log.{in_set}
use Rattle.psi_replay.specs.Verdict.{states_of, has, covers}
use Rattle.psi_log_format.specs.Listed.{shown}
use Rattle.psi_replay.proofs.covering.set_covers_box.Given as goal

-- the images of the states so far are there
abbrev pub invariant-loop-place : goal.invariant-loop-place
invariant-loop-place g l =
    list_all (λ (x : List ℕ). has (states_of (shown l.after)) (g.E.EventLaw.function l.event x)) (drop l.place l.before.states) ≡ covers (g.E.EventLaw.function l.event) (in_set l.before.states) (shown l.after)
