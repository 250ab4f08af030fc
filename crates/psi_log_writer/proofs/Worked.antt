-- The log of a run worked by hand, of two queues with room for one customer each, whose states meet at the horizon 8.
use Rattle.std.specs.Prelude.{◌≡◌, ℕ, zero, suc, List, [], ◌∷◌, codes, slice_index, slice_index_or, Some, Ok, Err, refl}
use Rattle.std.specs.Fmt.{digits}
use Rattle.psi_state.specs.Hull.{hull}
use Rattle.psi_region.specs.Region.{step}
use Rattle.psi_horizon.specs.Runs.{ending_at}
use Rattle.psi_log_format.specs.Text.{line_text, numbers_text, header_text, changes, begin_text, step_text, end_text, log_text}
use Rattle.psi_replay.specs.Verdict.{judge_step, judge_steps, judge_end, judged}
use Rattle.psi_log_writer.specs.Recorded.{recorded, header_of}

pair : ℕ → ℕ → List ℕ
pair a b = a ∷ b ∷ []

-- a customer for each queue, where both have room
split_in : List ℕ → List ℕ
split_in (zero ∷ zero ∷ []) = pair 1 1
split_in x = x

-- a customer goes from the first queue to the second, where there is room
move_on : List ℕ → List ℕ
move_on (suc a ∷ zero ∷ []) = pair a 1
move_on x = x

leave_first : List ℕ → List ℕ
leave_first (suc a ∷ b ∷ []) = pair a b
leave_first x = x

leave_second : List ℕ → List ℕ
leave_second (a ∷ suc b ∷ []) = pair a b
leave_second x = x

-- the events from time zero back
events : ℕ → ℕ
events t = slice_index (4 ∷ 2 ∷ 1 ∷ 0 ∷ 0 ∷ 3 ∷ 1 ∷ 2 ∷ 0 ∷ []) t

functions : ℕ → List ℕ → List ℕ
functions t = slice_index_or (split_in ∷ move_on ∷ leave_first ∷ leave_second ∷ []) (events t) (λ x. x)

-- followed as boxes until one state is left
worked_text : log_text (recorded 1 functions (pair 1 1) events (header_of (pair 1 1) 0 0 8) (pair 0 1)) ≡ codes "psi-log 2\nqueues 2\nseed 0\nstream 0\nhorizon 8\nbegin box 0,0 1,1\nstep 8 0 move\nstep 7 2 move 0,0,0\nstep 6 1 move\nstep 5 3 move 1,0,0\nstep 4 0 set 1,1\nstep 3 0 set 1,1\nstep 2 1 set 1,1\nstep 1 2 set 0,1\nend 0,1\n"
unfolding pair split_in move_on leave_first leave_second events functions recorded step hull log_text header_text begin_text step_text end_text changes line_text numbers_text digits
worked_text = refl

-- that state
worked_end : ending_at 1 functions (pair 1 1) 8 ≡ Some (pair 0 1)
unfolding pair split_in move_on leave_first leave_second events functions step hull
worked_end = refl

-- the log breaks no rule
worked_rules : judged (pair 1 1) 3 events functions (recorded 1 functions (pair 1 1) events (header_of (pair 1 1) 0 0 8) (pair 0 1)) ≡ Ok tt
unfolding pair split_in move_on leave_first leave_second events functions recorded step hull judged judge_steps judge_step judge_end
worked_rules = refl

-- and where its end tells another state it does
worked_other : judged (pair 1 1) 3 events functions (recorded 1 functions (pair 1 1) events (header_of (pair 1 1) 0 0 8) (pair 1 1)) ≡ Err (record { line = 15; cause = 8 })
unfolding pair split_in move_on leave_first leave_second events functions recorded step hull judged judge_steps judge_step judge_end
worked_other = refl
