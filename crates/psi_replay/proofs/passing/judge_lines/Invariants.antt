-- Invariants of the loops of `passing::judge_lines`.
use Rattle.std.specs.Prelude.{◌≡◌, List, ℕ, ◌++◌, length, true, OnOk}
use Rattle.psi_rate.specs.Composition.{system_functions}
use Rattle.psi_log.specs.Cursor.{IsCursor, EndsAs}
use Rattle.psi_replay.specs.Verdict.{is_within, event_numbers}
use Rattle.psi_replay.specs.Passes.{told, verdict_left, left_with}
use Rattle.psi_replay.proofs.passing.judge_lines.Given as goal

-- what is left of the lines gives what all of them give, whatever text comes after
abbrev pub invariant-loop-done : goal.invariant-loop-done
invariant-loop-done g l = record {
  words : g.P.Past.words l.past ≡ g.P.Past.words l.fn.past;
  cursor : IsCursor l.reader;
  header : l.reader.header ≡ l.fn.reader.header;
  done : l.reader.done ≡ l.done;
  ends : EndsAs l.fn.reader.rest l.reader.rest;
  queues : OnOk l.judged (l.reader.header.queues ≡ length l.system.caps);
  within : OnOk l.judged (is_within l.system.caps l.reader.region ≡ true);
  left : (more : List ℕ)
      → left_with g.E.EventLaw.function l.system (g.P.Past.words l.fn.past) l.fn.reader (l.fn.reader.rest ++ more) l.fn.before
      ≡ verdict_left l.system.caps l.system.limit (event_numbers l.system (g.P.Past.words l.fn.past)) (system_functions g.E.EventLaw.function l.system (g.P.Past.words l.fn.past))
      l.fn.reader.header l.done l.reader.region (l.reader.rest ++ more) (told l.judged);
}
