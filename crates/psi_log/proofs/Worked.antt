-- Texts worked by hand, and what is read of them.
use Rattle.std.specs.Prelude.{◌≡◌, ℕ, ◌-◌, ◌==◌, List, [], ◌∷◌, ◌++◌, map, take, codes, if◌then◌else◌, true, Result, Err, refl}
use Rattle.std.specs.List.{list_all}
use Rattle.std.specs.Result.{is_ok}
use Rattle.psi_log_format.specs.Log.{Certificate}
use Rattle.psi_log_words.specs.Refusal.{Refusal, each}
use Rattle.psi_log_words.specs.Words.{line_of, number_in, read_version, read_named}
use Rattle.psi_log_words.specs.Regions.{box_form, set_form, move_form, form_of, read_state, read_change, read_given}
use Rattle.psi_log_scan.specs.Lines.{read_header, named_line, read_step}
use Rattle.psi_log_scan.specs.Scanned.{next_step}
use Rattle.psi_log.specs.Reading.{read, after_header, begin_line, read_begin, read_steps, ended, read_end}

-- the text of these lines, with another line in the place of the n-th, counted from 1
abbrev text_with : ℕ → List ℕ → List (List ℕ) → List ℕ
text_with n line [] = []
text_with n line (own ∷ lines) = (if n == 1 then line else own) ++ 10 ∷ text_with (n - 1) line lines

-- a log of one queue, with sets
abbrev server : List (List ℕ)
server = codes "psi-log 1" ∷ codes "queues 1" ∷ codes "seed 0" ∷ codes "stream 0" ∷ codes "horizon 4" ∷ codes "begin box 0 3"
    ∷ codes "step 4 1 set 0 1 2" ∷ codes "step 3 0 set 1 2 3" ∷ codes "step 2 0 set 2 3" ∷ codes "step 1 0 set 3" ∷ codes "end 3" ∷ []

-- a log of two queues, with moves and sets; the region after its fifth step is given
abbrev tandem : List ℕ → List (List ℕ)
tandem fifth = codes "psi-log 2" ∷ codes "queues 2" ∷ codes "seed 0" ∷ codes "stream 0" ∷ codes "horizon 8" ∷ codes "begin box 0,0 1,1"
    ∷ codes "step 8 0 move" ∷ codes "step 7 2 move 0,0,0" ∷ codes "step 6 1 move" ∷ codes "step 5 3 move 1,0,0" ∷ (codes "step 4 0 " ++ fifth)
    ∷ codes "step 3 0 set 1,1" ∷ codes "step 2 1 set 1,1" ∷ codes "step 1 2 set 0,1" ∷ codes "end 0,1" ∷ []

-- a text, and the line and the cause of its first refusal
record Row : Type 0 where
  text : List ℕ
  line : ℕ
  cause : ℕ

abbrev row : List ℕ → ℕ → ℕ → Row
row text line cause = record { text = text; line = line; cause = cause }

-- a log in which the n-th line is changed, and refused
abbrev changed : List (List ℕ) → ℕ → List ℕ → ℕ → Row
changed lines n line cause = row (text_with n line lines) n cause

abbrev rows : List Row
rows =
    changed server 1 (codes "hello") 1
    ∷ changed server 1 (codes "psi-log 1\r") 2
    ∷ changed server 1 (codes "psi-log 9") 2
    ∷ changed server 2 (codes "queues  1") 4
    ∷ changed server 2 (codes "queues 01") 3
    ∷ changed server 3 (codes "seed 18446744073709551616") 3
    ∷ changed server 5 (codes "horizon 0") 3
    ∷ changed server 6 (codes "begin box 3 0") 4
    ∷ changed server 7 (codes "step 4 1 set") 4
    ∷ changed server 7 (codes "step 4 1 set 1 0") 4
    ∷ row (text_with 0 [] (take 10 server)) 11 5
    ∷ row (text_with 0 [] server ++ codes "x") 12 6
    ∷ changed (tandem (codes "set 1,1")) 8 (codes "step 7 2 move 0,0,1") 4
    ∷ changed (tandem (codes "set 1,1")) 8 (codes "step 7 2 box 0,0 0,1") 4
    ∷ changed (tandem (codes "set 1,1")) 8 (codes "step 7 2 move 2,0,0") 3
    ∷ changed (tandem (codes "set 1,1")) 12 (codes "step 3 0 move") 4
    ∷ changed (tandem (codes "move")) 12 (codes "step 3 0 box 0,0 0,0") 4
    ∷ row (codes "psi-log 1\nqueues 1\nseed 0\nstream 0\nhorizon 1048576\nbegin box 0 3\n") 7 5
    ∷ row (codes "psi-log 2\nqueues 2\nseed 0\nstream 0\nhorizon 1\nbegin box 0,0 2,2\nstep 1 0 move 1,0,1 0,0,1\nend 0,0\n") 7 4
    ∷ row (codes "psi-log 2\nqueues 1\nseed 0\nstream 0\nhorizon 1\nbegin box 0 2\nstep 1  move\nend 0\n") 7 3
    ∷ row (codes "psi-log 2\nqueues 1\nseed 0\nstream 0\nhorizon 1\nbegin box 0 2\nstep 1 0 set \nend 0\n") 7 3
    ∷ []

abbrev refusal : Row → Result Certificate Refusal
refusal of = Err (record { line = of.line; cause = of.cause })

refused : map (λ (of : Row). read of.text) rows ≡ map refusal rows
unfolding read after_header read_header named_line begin_line read_begin next_step read_step read_steps ended read_end line_of number_in read_version read_named box_form set_form move_form form_of read_state read_change read_given each
refused = refl

-- texts that are logs, whatever rules of a run they break
abbrev logs : List (List ℕ)
logs =
    text_with 0 [] server
    ∷ text_with 7 (codes "step 4 1 set 0 1") server
    ∷ text_with 7 (codes "step 4 1 set 0 1 2 3") server
    ∷ text_with 7 (codes "step 4 1 set 0 1 2 4") server
    ∷ text_with 7 (codes "step 4 0 set 0 1 2") server
    ∷ text_with 7 (codes "step 5 1 set 0 1 2") server
    ∷ text_with 10 (codes "step 1 0 set 2 3") server
    ∷ text_with 11 (codes "end 2") server
    ∷ text_with 0 [] (tandem (codes "set 1,1"))
    ∷ text_with 12 (codes "step 3 0 move") (tandem (codes "move"))
    ∷ codes "psi-log 1\nqueues 4\nseed 0\nstream 0\nhorizon 1\nbegin box 0,0,0,0 10,10,10,10\nstep 1 0 set 10,10,10,10\nend 10,10,10,10\n"
    ∷ codes "psi-log 1\nqueues 2\nseed 0\nstream 0\nhorizon 8\nbegin box 0,0 1,1\nstep 8 0 box 0,0 1,1\nstep 7 2 box 0,0 0,1\nstep 6 1 box 0,0 0,1\nstep 5 3 box 0,0 0,0\nstep 4 0 set 1,1\nstep 3 0 set 1,1\nstep 2 1 set 1,1\nstep 1 2 set 0,1\nend 0,1\n"
    ∷ []

read_as_logs : list_all (λ text. is_ok (read text)) logs ≡ true
unfolding read after_header read_header named_line begin_line read_begin next_step read_step read_steps ended read_end line_of number_in read_version read_named box_form set_form move_form form_of read_state read_change read_given each
read_as_logs = refl
