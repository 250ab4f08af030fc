-- A log worked by hand, of two queues, in both versions.
use Rattle.std.specs.Prelude.{◌≡◌, ℕ, List, [], ◌∷◌, codes, refl}
use Rattle.std.specs.Fmt.{digits}
use Rattle.psi_log_format.specs.Log.{LogRegion, in_box, in_set, Entry, Certificate}
use Rattle.psi_log_format.specs.Text.{line_text, numbers_text, header_text, changes, begin_text, step_text, end_text, log_text}

pair : ℕ → ℕ → List ℕ
pair a b = a ∷ b ∷ []

box_of : List ℕ → List ℕ → LogRegion
box_of lo hi = in_box (record { lo = lo; hi = hi })

entry : ℕ → ℕ → LogRegion → Entry
entry number event region = record { step = record { number = number; event = event }; region = region }

worked : ℕ → Certificate
worked version = record {
  header = record { version = version; queues = 2; seed = 0; stream = 0; horizon = 8 };
  begin = box_of (pair 0 0) (pair 1 1);
  entries =
      entry 8 0 (box_of (pair 0 0) (pair 1 1))
      ∷ entry 7 2 (box_of (pair 0 0) (pair 0 1))
      ∷ entry 6 1 (box_of (pair 0 0) (pair 0 1))
      ∷ entry 5 3 (box_of (pair 0 0) (pair 0 0))
      ∷ entry 4 0 (in_set (pair 1 1 ∷ []))
      ∷ entry 3 0 (in_set (pair 1 1 ∷ []))
      ∷ entry 2 1 (in_set (pair 1 1 ∷ []))
      ∷ entry 1 2 (in_set (pair 0 1 ∷ []))
      ∷ [];
  final = pair 0 1;
}

worked_moves : log_text (worked 2) ≡ codes "psi-log 2\nqueues 2\nseed 0\nstream 0\nhorizon 8\nbegin box 0,0 1,1\nstep 8 0 move\nstep 7 2 move 0,0,0\nstep 6 1 move\nstep 5 3 move 1,0,0\nstep 4 0 set 1,1\nstep 3 0 set 1,1\nstep 2 1 set 1,1\nstep 1 2 set 0,1\nend 0,1\n"
unfolding worked pair box_of entry log_text header_text begin_text step_text end_text changes line_text numbers_text digits
worked_moves = refl

worked_boxes : log_text (worked 1) ≡ codes "psi-log 1\nqueues 2\nseed 0\nstream 0\nhorizon 8\nbegin box 0,0 1,1\nstep 8 0 box 0,0 1,1\nstep 7 2 box 0,0 0,1\nstep 6 1 box 0,0 0,1\nstep 5 3 box 0,0 0,0\nstep 4 0 set 1,1\nstep 3 0 set 1,1\nstep 2 1 set 1,1\nstep 1 2 set 0,1\nend 0,1\n"
unfolding worked pair box_of entry log_text header_text begin_text step_text end_text changes line_text numbers_text digits
worked_boxes = refl
