-- The verdict on a log, rule by rule and state by state: the first line that breaks a rule with its first cause, or the
-- state that the log certifies.
use Rattle.std.specs.Prelude.{ℕ, ◌+◌, ◌-◌, ◌^◌, List, [], ◌∷◌, length, Bool, true, ◌==◌, nat_le, Result, Ok, Err}
use Rattle.std.specs.List.{list_all, list_any}
use Rattle.std.specs.Str.{bytes_eq}
use Rattle.std.specs.Cmp.Lexicographic.{pointwise}
use Rattle.psi_state.specs.State.{IsBelow, box, all_states}
use Rattle.psi_rate.specs.Rates.{event_of}
use Rattle.psi_rate.specs.Composition.{SystemParts, Functions, IsReached}
use Rattle.psi_log_format.specs.Log.{LogRegion, in_box, in_set, Entry, Certificate}
use Rattle.psi_log_words.specs.Refusal.{Refusal, ◌>>=◌, holds_or}
use Rattle.psi_replay.specs.declared.answers.Verdict.{Verdict}
use Rattle.psi_replay.specs.declared.answers.Verdict.TheVariants.{Accepted, Rejected}
use Rattle.psi_replay.specs.declared.causes.RuleCause.{RuleCause}
use Rattle.psi_replay.specs.declared.causes.RuleCause.TheVariants.{Header, StepNumber, WrongEvent, OutsideBox, NotCovered, SplitTooLarge, NotSingle, WrongState}

-- the number of a cause
abbrev pub code_of : RuleCause → ℕ
code_of Header = 1
code_of StepNumber = 2
code_of WrongEvent = 3
code_of OutsideBox = 4
code_of NotCovered = 5
code_of SplitTooLarge = 6
code_of NotSingle = 7
code_of WrongState = 8

-- the rejection of a line
abbrev pub rejected : ℕ → RuleCause → Refusal
rejected n cause = record { line = n; cause = code_of cause }

-- the states of a region
abbrev pub states_of : LogRegion → List (List ℕ)
states_of (in_box bounds) = box bounds.lo bounds.hi
states_of (in_set states) = states

-- the state is one of the list
abbrev pub has : List (List ℕ) → List ℕ → Bool
has xs x = list_any (λ (y : List ℕ). bytes_eq x y) xs

-- what the function makes of each state of the first region is one of the second
abbrev pub covers : (List ℕ → List ℕ) → LogRegion → LogRegion → Bool
covers f before after = list_all (λ (x : List ℕ). has (states_of after) (f x)) (states_of before)

-- where a box becomes a set, it has at most 4,096 states
abbrev pub is_small : LogRegion → LogRegion → Bool
is_small (in_box bounds) (in_set states) = nat_le (length (box bounds.lo bounds.hi)) 4096
is_small (in_box bounds) (in_box after) = true
is_small (in_set states) after = true

-- regions of a network with these capacities
module _ (caps : List ℕ) where
  -- no state of the region has more customers than a queue has room for
  abbrev pub is_within : LogRegion → Bool
  is_within region = list_all (λ (x : List ℕ). pointwise nat_le x caps) (states_of region)

  -- the region has all states
  abbrev pub holds_all : LogRegion → Bool
  holds_all region = list_all (λ (x : List ℕ). has (states_of region) x) (all_states caps)

-- the rules of a log's last line, line n: the last region has one state, and it is the one that is told
unfoldable pub judge_end : ℕ → LogRegion → List ℕ → Result (Unit {0}) Refusal
judge_end n last final = do
  one ← holds_or (rejected n NotSingle) (length (states_of last) == 1)
  holds_or (rejected n WrongState) (has (states_of last) final)

-- the rules of a network with these capacities and this limit; the event t steps before time zero has the number `events t` and the function `f t`
module _ (caps : List ℕ) (limit : ℕ) (events : ℕ → ℕ) (f : Functions) where
  -- the rules of line n, whose step has to be that of time t, and which follows a region
  unfoldable pub judge_step : ℕ → ℕ → LogRegion → Entry → Result (Unit {0}) Refusal
  judge_step n t before e = do
    numbered ← holds_or (rejected n StepNumber) (e.step.number == t)
    drawn ← holds_or (rejected n WrongEvent) (e.step.event == events t)
    within ← holds_or (rejected n OutsideBox) (is_within caps e.region)
    small ← holds_or (rejected n SplitTooLarge) (is_small before e.region)
    holds_or (rejected n NotCovered) (covers (f t) before e.region)

  -- the rules of the lines of steps, from line n and time t on: they give the last region
  unfoldable pub judge_steps : ℕ → ℕ → LogRegion → List Entry → Result LogRegion Refusal
  judge_steps n t before [] = Ok before
  judge_steps n t before (e ∷ es) = do
    here ← judge_step n t before e
    judge_steps (n + 1) (t - 1) e.region es

  -- all rules of a log
  unfoldable pub judged : Certificate → Result (Unit {0}) Refusal
  judged c = do
    queues ← holds_or (rejected 2 Header) (c.header.queues == length caps)
    horizon ← holds_or (rejected 5 Header) (nat_le c.header.horizon (2 ^ limit))
    within ← holds_or (rejected 6 OutsideBox) (is_within caps c.begin)
    whole ← holds_or (rejected 6 NotCovered) (holds_all caps c.begin)
    last ← judge_steps 7 c.header.horizon c.begin c.entries
    judge_end (7 + c.header.horizon) last c.final

-- the numbers of a network's events by the time before zero, under these words; that of an idle step is the number of events
abbrev pub event_numbers : {E : Type 0} → SystemParts E → (ℕ → ℕ) → ℕ → ℕ
event_numbers system words t = event_of system.rates (words (t - 1))

-- the verdict on a log whose rules were judged
abbrev pub verdict_of : Certificate → Result (Unit {0}) Refusal → Verdict
verdict_of c (Ok kept) = Accepted c.header.horizon c.final
verdict_of c (Err refusal) = Rejected refusal.line refusal.cause

-- where a log is accepted, every state within the capacities that starts at its horizon or earlier is its state at time zero
abbrev pub ReachesAccepted : Functions → List ℕ → Verdict → Type 0
ReachesAccepted f caps (Accepted t s) = IsReached f caps t s
ReachesAccepted f caps (Rejected line cause) = Unit {0}

-- and its state is within the capacities
abbrev pub AcceptsWithin : List ℕ → Verdict → Type 0
AcceptsWithin caps (Accepted t s) = IsBelow s caps
AcceptsWithin caps (Rejected line cause) = Unit {0}
