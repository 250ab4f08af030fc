-- Logs worked out by hand, judged by the definition as the checker computes it.
use Rattle.std.specs.Prelude.{◌≡◌, ℕ, ◌+◌, ◌-◌, map, Result, List, [], ◌∷◌, ◌&&◌, nat_lt, true, false, Ok, Err, slice_index, slice_index_or, if◌then◌else◌, refl}
use Rattle.psi_rate.specs.Composition.{Functions}
use Rattle.psi_rate.proofs.Worked.{joined, left}
use Rattle.psi_log_format.specs.Log.{LogRegion, in_box, in_set, Entry, Certificate}
use Rattle.psi_log_words.specs.Refusal.{Refusal}
use Rattle.psi_replay.specs.Verdict.{is_small, judge_step, judge_steps, judge_end, judged}

abbrev entry : ℕ → ℕ → LogRegion → Entry
entry t e region = record { step = record { number = t; event = e }; region = region }

abbrev between : List ℕ → List ℕ → LogRegion
between l h = in_box (record { lo = l; hi = h })

abbrev one : ℕ → List ℕ
one v = v ∷ []

abbrev log : ℕ → ℕ → LogRegion → List Entry → List ℕ → Certificate
log queues horizon begin entries final = record {
  header = record { version = 1; queues = queues; seed = 0; stream = 0; horizon = horizon };
  begin = begin;
  entries = entries;
  final = final;
}

-- one queue with room for three: backwards in time one joins, one joins, one joins, one leaves
abbrev events : ℕ → ℕ
events t = slice_index (0 ∷ 0 ∷ 0 ∷ 0 ∷ 1 ∷ []) t

abbrev f : Functions
f t = slice_index_or (joined 3 ∷ left ∷ []) (events t) (λ x. x)

-- its log, with the line of the first step, the last region and the state as they are given
abbrev server : Entry → LogRegion → ℕ → Certificate
server first last final = log 1 4 (between (one 0) (one 3))
    (first ∷ entry 3 0 (in_set (one 1 ∷ one 2 ∷ one 3 ∷ [])) ∷ entry 2 0 (in_set (one 2 ∷ one 3 ∷ [])) ∷ entry 1 0 last ∷ []) (one final)

abbrev first_step : List ℕ → Entry
first_step states = entry 4 1 (in_set (map one states))

abbrev last_set : LogRegion
last_set = in_set (one 3 ∷ [])

-- a log of one step from a box on
abbrev from_box : ℕ → ℕ → Certificate
from_box least greatest = log 1 1 (between (one least) (one greatest)) (entry 1 0 last_set ∷ []) (one 3)

abbrev outcome : Type 0
outcome = Result (Unit {0}) Refusal

abbrev breaks : ℕ → ℕ → outcome
breaks line cause = Err (record { line = line; cause = cause })

-- each of these logs beside what is judged of it
abbrev servers : List (Certificate × outcome)
servers =
    (server (first_step (0 ∷ 1 ∷ 2 ∷ [])) last_set 3, Ok tt)
    ∷ (server (first_step (0 ∷ 1 ∷ 2 ∷ 3 ∷ [])) last_set 3, Ok tt)
    ∷ (server (first_step (0 ∷ 1 ∷ [])) last_set 3, breaks 7 5)
    ∷ (server (first_step (0 ∷ 1 ∷ 2 ∷ 4 ∷ [])) last_set 3, breaks 7 4)
    ∷ (server (entry 5 1 (in_set (map one (0 ∷ 1 ∷ 2 ∷ [])))) last_set 3, breaks 7 2)
    ∷ (server (entry 4 0 (in_set (map one (0 ∷ 1 ∷ 2 ∷ [])))) last_set 3, breaks 7 3)
    ∷ (server (first_step (0 ∷ 1 ∷ 2 ∷ [])) (in_set (one 2 ∷ one 3 ∷ [])) 3, breaks 11 7)
    ∷ (server (first_step (0 ∷ 1 ∷ 2 ∷ [])) last_set 2, breaks 11 8)
    ∷ (from_box 1 3, breaks 6 5)
    ∷ (from_box 0 4, breaks 6 4)
    ∷ []

servers_judged : map (λ (s : Certificate × outcome). judged (one 3) 18 events f s.0) servers ≡ map (λ (s : Certificate × outcome). s.1) servers
unfolding judged judge_steps judge_step judge_end
servers_judged = refl

network_of_two_queues : judged (3 ∷ 3 ∷ []) 18 events f (server (first_step (0 ∷ 1 ∷ 2 ∷ [])) last_set 3) ≡ breaks 2 1
unfolding judged judge_steps judge_step judge_end
network_of_two_queues = refl

horizon_above_the_limit : judged (one 3) 1 events f (server (first_step (0 ∷ 1 ∷ 2 ∷ [])) last_set 3) ≡ breaks 5 1
unfolding judged judge_steps judge_step judge_end
horizon_above_the_limit = refl

-- a box of 4,096 states may be followed by a set, and one of 4,097 may not
split_of_4096 : is_small (between (one 0) (one 4095)) last_set ≡ true
split_of_4096 = refl

split_of_4097 : is_small (between (one 0) (one 4096)) last_set ≡ false
split_of_4097 = refl

-- two queues with room for one each: events that join both, move from the first to the second, and leave each
abbrev join_both : List ℕ → List ℕ
join_both (v ∷ w ∷ []) = if nat_lt v 1 && nat_lt w 1 then (v + 1) ∷ (w + 1) ∷ [] else v ∷ w ∷ []
join_both x = x

abbrev move_on : List ℕ → List ℕ
move_on (v ∷ w ∷ []) = if nat_lt 0 v && nat_lt w 1 then (v - 1) ∷ (w + 1) ∷ [] else v ∷ w ∷ []
move_on x = x

abbrev leave_second : List ℕ → List ℕ
leave_second (v ∷ w ∷ []) = v ∷ (w - 1) ∷ []
leave_second x = x

abbrev numbers : ℕ → ℕ
numbers t = slice_index (0 ∷ 2 ∷ 1 ∷ 0 ∷ 0 ∷ 3 ∷ 1 ∷ 2 ∷ 0 ∷ []) t

abbrev functions : Functions
functions t = slice_index_or (join_both ∷ move_on ∷ left ∷ leave_second ∷ []) (numbers t) (λ x. x)

abbrev two : ℕ → ℕ → List ℕ
two v w = v ∷ w ∷ []

-- its log of boxes and sets, with the regions after two of the steps as they are given
abbrev tandem : LogRegion → LogRegion → Certificate
tandem fourth third = log 2 8 (between (two 0 0) (two 1 1))
    (entry 8 0 (between (two 0 0) (two 1 1)) ∷ entry 7 2 (between (two 0 0) (two 0 1)) ∷ entry 6 1 (between (two 0 0) (two 0 1)) ∷ entry 5 3 (between (two 0 0) (two 0 0))
    ∷ entry 4 0 fourth ∷ entry 3 0 third ∷ entry 2 1 (in_set (two 1 1 ∷ [])) ∷ entry 1 2 (in_set (two 0 1 ∷ [])) ∷ []) (two 0 1)

-- a set may be followed by a box
abbrev tandems : List (Certificate × outcome)
tandems =
    (tandem (in_set (two 1 1 ∷ [])) (in_set (two 1 1 ∷ [])), Ok tt)
    ∷ (tandem (in_set (two 1 1 ∷ [])) (between (two 1 1) (two 1 1)), Ok tt)
    ∷ (tandem (between (two 0 0) (two 0 0)) (between (two 0 0) (two 0 0)), breaks 11 5)
    ∷ []

tandems_judged : map (λ (s : Certificate × outcome). judged (two 1 1) 18 numbers functions s.0) tandems ≡ map (λ (s : Certificate × outcome). s.1) tandems
unfolding judged judge_steps judge_step judge_end
tandems_judged = refl
