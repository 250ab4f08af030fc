-- The least horizon of any length at which all states have met (coalesced, Propp and Wilson 1996), of the composed map.
use Rattle.std.specs.Prelude.{◌≡◌, ℕ, suc, ◌^◌, ◌≤◌, List, Option, Some, None}
use Rattle.psi_state.specs.State.{IsBelow}
use Rattle.psi_rate.specs.Composition.{Functions, IsReached}
use Rattle.psi_rate.specs.Least.{least_answer, HasNoneBelow, IsLeast}
use Rattle.psi_exact.specs.declared.answers.Meeting.{Meeting}
use Rattle.psi_exact.specs.declared.answers.Meeting.TheVariants.{Constant, NotConstant}

-- the least answer of a run, as a meeting
abbrev pub meeting_of : ℕ → Option (ℕ × List ℕ) → Meeting
meeting_of h None = NotConstant h
meeting_of h (Some found) = Constant found.0 found.1

-- the meeting of a run: its answer at the least horizon from 1 to 2^h that has one
unfoldable pub meeting_within : (ℕ → Option (List ℕ)) → ℕ → Meeting
meeting_within run h = meeting_of h (least_answer run (2 ^ h))

-- a meeting is at the least horizon from 1 to 2^h at which the run has an answer, with that answer; there is none where no such horizon has one, and the exponent is named
abbrev pub IsMeeting : (ℕ → Option (List ℕ)) → ℕ → Meeting → Type 0
IsMeeting run h (Constant t s) = IsLeast run (2 ^ h) t s
IsMeeting run h (NotConstant l) = (l ≡ h) × HasNoneBelow run (suc (2 ^ h))

-- where there is a meeting, every state within the capacities that starts at its horizon or earlier is its state at time zero
abbrev pub ReachesMeeting : Functions → List ℕ → Meeting → Type 0
ReachesMeeting f caps (Constant t s) = IsReached f caps t s
ReachesMeeting f caps (NotConstant l) = Unit {0}

-- and its state is within the capacities
abbrev pub MeetsBelow : List ℕ → Meeting → Type 0
MeetsBelow caps (Constant t s) = IsBelow s caps
MeetsBelow caps (NotConstant l) = Unit {0}

-- the horizon is at most t, and the state is s
pub record IsBy (t : ℕ) (s : List ℕ) (horizon : ℕ) (met : List ℕ) : Type 0 where
  pub order : horizon ≤ t
  pub state : met ≡ s

-- there is a meeting at a horizon of at most t, with the state s
abbrev pub MeetsBy : ℕ → List ℕ → Meeting → Type 0
MeetsBy t s (Constant horizon met) = IsBy t s horizon met
MeetsBy t s (NotConstant l) = ⊥
