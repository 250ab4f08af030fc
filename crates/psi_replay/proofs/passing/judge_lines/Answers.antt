-- Answers in the proof of `passing::judge_lines`.
use Rattle.std.specs.Prelude.{◌≡◌, ℕ, ◌+◌, ◌-◌, length, true, OnOk}
use Rattle.std.proofs.Common.{refl, ap, sym, ◌∙◌, subst, arith}
use Rattle.psi_rate.specs.Composition.{system_functions}
use Rattle.psi_log_format.specs.declared.header.Header.{Header}
use Rattle.psi_log_format.specs.Log.{LogRegion, IsRegion}
use Rattle.psi_log_words.specs.Refusal.{IsLogError}
use Rattle.psi_log.specs.Cursor.{Cursor}
use Rattle.psi_log.proofs.FrontLemmas.{ends_then, next_ends}
use Rattle.psi_log_format.specs.Listed.{shown}
use Rattle.psi_replay.specs.Verdict.{is_within, judge_step, event_numbers}
use Rattle.psi_replay.specs.Judging.{Gives, region_before}
use Rattle.psi_replay.specs.Passes.{told, and_then, left_with}
use Rattle.psi_replay.proofs.JudgingLemmas.{regional_once, held_on}
use Rattle.psi_replay.proofs.PassLemmas.{line_judged, pass_more, pass_fails}
use Rattle.psi_replay.proofs.passing.judge_lines.Goals as goal

pub returns-in-Err-clause-refused : goal.returns-in-Err-clause-refused
returns-in-Err-clause-refused g c =
    let system = c.args.system.now in
    let words = g.P.Past.words c.args.past.now in
    let reader = c.loop-done.reader in
    let kept = c.loop-done.invariant in
    let size : c.header-horizon.result.horizon ≡ c.args.reader.now.header.horizon = ap (λ (k : Header). k.horizon) c.header-horizon.ensures.value in
    let same : reader.header.horizon ≡ c.args.reader.now.header.horizon = ap (λ (k : Header). k.horizon) kept.header in
    subst (λ (k : Cursor). IsLogError c.in-Err.error (left_with g.E.EventLaw.function system words k k.rest c.loop-done.judged)) (sym c.in-Err.ensures.kept)
    (pass_fails system.caps system.limit (event_numbers system words) (system_functions g.E.EventLaw.function system words) reader.header reader.done reader c.loop-done.judged c.in-Err.error
    refl refl (omega arith) c.in-Err.ensures.refused)

pub judge_next-judged-requires-clause-regional : goal.judge_next-judged-requires-clause-regional
judge_next-judged-requires-clause-regional g c =
    let after = c.next.new.self in
    let line = c.line_read.result in
    let caps = c.args.system.now.caps in
    regional_once after.header.queues (length caps) (shown line.after) c.loop-done.judged
    (subst (λ (r : LogRegion). IsRegion after.header.queues r) (sym c.line_read.ensures.after) c.in-Ok.ensures.cursor.region)
    (subst (λ (h : Header). OnOk c.loop-done.judged (h.queues ≡ length caps)) (sym c.in-Ok.ensures.header) c.loop-done.invariant.queues)

pub judge_next-judged-requires-clause-within : goal.judge_next-judged-requires-clause-within
judge_next-judged-requires-clause-within g c =
    subst (λ (r : LogRegion). OnOk c.loop-done.judged (is_within c.args.system.now.caps r ≡ true)) (sym (c.line_read.ensures.before ∙ c.in-Ok.ensures.before)) c.loop-done.invariant.within

pub loop-done-preserved : goal.loop-done-preserved
loop-done-preserved g c =
    let system = c.args.system.now in
    let words = g.P.Past.words c.args.past.now in
    let events = event_numbers system words in
    let f = system_functions g.E.EventLaw.function system words in
    let h = c.args.reader.now.header in
    let done = c.loop-done.done in
    let kept = c.loop-done.invariant in
    let size : c.header-horizon.result.horizon ≡ h.horizon = ap (λ (k : Header). k.horizon) c.header-horizon.ensures.value in
    let before = c.loop-done.reader in
    let after = c.next.new.self in
    let line = c.line_read.result in
    let judged = c.loop-done.judged in
    let result = c.judge_next-judged.result in
    let header : after.header ≡ h = c.in-Ok.ensures.header ∙ kept.header in
    let time = after.header.horizon + 1 - after.done in
    let total : after.header.horizon ≡ h.horizon = ap (λ (k : Header). k.horizon) header in
    let place : after.done ≡ done + 1 = c.in-Ok.ensures.done ∙ ap (λ (d : ℕ). d + 1) kept.done in
    let own = subst (λ (w : ℕ → ℕ). Gives (λ _. tt) result (and_then (told judged) (judge_step system.caps system.limit (event_numbers system w)
    (system_functions g.E.EventLaw.function system w) line.line line.time (region_before line) (record { step = line.step; region = shown line.after }))))
    kept.words c.judge_next-judged.ensures.value in
    let number : line.line ≡ 7 + done = c.line_read.ensures.line ∙ ap (λ (d : ℕ). 6 + d) place ∙ (omega arith) in
    let judging = line_judged system.caps system.limit events f line (7 + done) time c.in-Ok.step after.before after.region judged result number c.line_read.ensures.time c.line_read.ensures.step
    c.line_read.ensures.before c.line_read.ensures.after own in
    record {
      words = c.judge_next-judged.ensures.words ∙ kept.words;
      cursor = c.in-Ok.ensures.cursor;
      header = header;
      done = place;
      ends = ends_then c.args.reader.now.rest before.rest after.rest kept.ends (next_ends before.header (7 + before.done) _ before.rest after.rest _ c.in-Ok.ensures.value);
      queues = subst (λ (k : Header). OnOk result (k.queues ≡ length system.caps)) (sym c.in-Ok.ensures.header) (held_on _ judged result c.judge_next-judged.ensures.before kept.queues);
      within = subst (λ (r : LogRegion). OnOk result (is_within system.caps r ≡ true)) c.line_read.ensures.after c.judge_next-judged.ensures.within;
      left = λ more. kept.left more ∙ pass_more system.caps system.limit events f h done before judged
          after c.in-Ok.step time result kept.header kept.done (omega arith) (omega arith) c.in-Ok.ensures.value c.in-Ok.ensures.before judging more;
    }
