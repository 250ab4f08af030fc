-- Answers in the proof of `replay::judge_steps`.
use Rattle.std.specs.Prelude.{◌≡◌, ℕ, ◌+◌, ◌-◌, length, drop, true, Some, OnOk, Result}
use Rattle.std.proofs.Common.{refl, ap, sym, ◌∙◌, subst, arith}
use Rattle.psi_rate.specs.Composition.{system_functions}
use Rattle.psi_log_format.specs.declared.header.Header.{Header}
use Rattle.psi_log_format.specs.Log.{LogRegion}
use Rattle.psi_log_words.specs.Refusal.{Refusal}
use Rattle.psi_log.specs.Told.{region_at}
use Rattle.psi_log.proofs.ToldLemmas.{same_region}
use Rattle.psi_log_format.specs.Listed.{shown}
use Rattle.psi_replay.specs.Verdict.{is_within, judge_step, judge_steps, event_numbers}
use Rattle.psi_replay.specs.Judging.{Gives, region_before}
use Rattle.psi_replay.specs.Passes.{told, and_then}
use Rattle.psi_replay.proofs.JudgingLemmas.{entry_is, regional_once, held_on, judge_turn, judge_over}
use Rattle.psi_replay.proofs.PassLemmas.{told_is, line_judged}
use Rattle.psi_replay.proofs.replay.judge_steps.Goals as goal

pub judge_next-judged-requires-clause-regional : goal.judge_next-judged-requires-clause-regional
judge_next-judged-requires-clause-regional g c =
    let log = c.args.log.now in
    let line = c.line_in.result in
    regional_once log.header.queues (length c.args.system.now.caps) (shown line.after) c.loop-done.judged
    c.line_in.ensures.regional c.loop-done.invariant.queues

pub judge_next-judged-requires-clause-within : goal.judge_next-judged-requires-clause-within
judge_next-judged-requires-clause-within g c = c.loop-done.invariant.within (region_before c.line_in.result) c.line_in.ensures.before

pub loop-done-preserved : goal.loop-done-preserved
loop-done-preserved g c =
    let system = c.args.system.now in
    let log = c.args.log.now in
    let words = g.P.Past.words c.args.past.now in
    let events = event_numbers system words in
    let f = system_functions g.E.EventLaw.function system words in
    let done = c.loop-done.done in
    let kept = c.loop-done.invariant in
    let line = c.line_in.result in
    let judged = c.loop-done.judged in
    let result = c.judge_next-judged.result in
    let entry = entry_is log done (done + 1) line.step (shown line.after) (omega arith) c.line_in.ensures.step c.line_in.ensures.after in
    let own = subst (λ (w : ℕ → ℕ). Gives (λ _. tt) result (and_then (told judged) (judge_step system.caps system.limit (event_numbers system w)
    (system_functions g.E.EventLaw.function system w) line.line line.time (region_before line) (record { step = line.step; region = shown line.after }))))
    kept.words c.judge_next-judged.ensures.value in
    let judging = line_judged system.caps system.limit events f line (7 + done) (log.header.horizon - done) line.step (region_before line) (shown line.after) judged result
    c.line_in.ensures.line c.line_in.ensures.time refl refl refl own in
    record {
      words = c.judge_next-judged.ensures.words ∙ kept.words;
      queues = held_on _ judged result c.judge_next-judged.ensures.before kept.queues;
      within = λ r is. subst (λ (q : LogRegion). OnOk result (is_within system.caps q ≡ true)) (same_region (shown line.after) r (sym c.line_in.ensures.after ∙ is)) c.judge_next-judged.ensures.within;
      rest = λ r is.
          (ap (λ (q : LogRegion). and_then (told result) (judge_steps system.caps system.limit events f (7 + (done + 1)) (log.header.horizon - (done + 1)) q (drop (done + 1) log.entries)))
          (sym (same_region (shown line.after) r (sym c.line_in.ensures.after ∙ is)))
          ∙ ap (λ (j : Result (Unit {0}) Refusal). and_then j (judge_steps system.caps system.limit events f (7 + (done + 1)) (log.header.horizon - (done + 1)) (shown line.after) (drop (done + 1) log.entries)))
          (sym (told_is result _ judging))
          ∙ judge_turn system.caps system.limit events f (7 + done) (7 + (done + 1)) (log.header.horizon - done) (log.header.horizon - (done + 1)) done (region_before line) log.entries
          (record { step = line.step; region = shown line.after }) (told judged) entry (omega arith) (omega arith)
          ∙ kept.rest (region_before line) c.line_in.ensures.before);
    }

pub returns : goal.returns
returns g c =
    let system = c.args.system.now in
    let log = c.args.log.now in
    let words = g.P.Past.words c.args.past.now in
    let done = c.loop-done.done in
    let kept = c.loop-done.invariant in
    let count : length log.entries ≡ log.header.horizon = c.header-horizon.ensures.log.count in
    let size : c.header-horizon.result.horizon ≡ log.header.horizon = ap (λ (h : Header). h.horizon) c.header-horizon.ensures.value in
    let over : log.header.horizon ≡ done = omega arith in
    record {
      value = λ last is.
          (sym (kept.rest last (subst (λ (k : ℕ). region_at log k ≡ Some last) over is))
          ∙ ap (λ (s : Result LogRegion Refusal). and_then (told c.loop-done.judged) s)
          (judge_over system.caps system.limit (event_numbers system words) (system_functions g.E.EventLaw.function system words) (7 + done) (log.header.horizon - done) done last log.entries (omega arith)));
    }
