-- Invariants of the loops of `covering::box_covers_each`.
use Rattle.std.specs.Prelude.{◌≡◌, ℕ, List}
use Rattle.psi_state.specs.State.{IsBelow}
use Rattle.psi_state.specs.Members.{In}
use Rattle.psi_log_format.specs.Log.{in_box, in_set}
use Rattle.psi_replay.specs.Verdict.{covers}
use Rattle.psi_log_format.specs.Listed.{shown}
use Rattle.psi_replay.proofs.covering.box_covers_each.Given as goal

-- the images of the states so far are there, and all states that are still to come are within the capacities
abbrev pub invariant-loop-x : goal.invariant-loop-x
invariant-loop-x g l = record {
  rest : covers (g.E.EventLaw.function l.fn.event) (in_set l.x-iterator) (shown l.fn.after) ≡ covers (g.E.EventLaw.function l.fn.event) (in_box l.fn.before) (shown l.fn.after);
  within : (x : List ℕ) → In x l.x-iterator → IsBelow x (g.E.EventLaw.capacities l.fn.event);
}
