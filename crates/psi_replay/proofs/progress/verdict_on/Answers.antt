-- Answers in the proof of `progress::verdict_on`.
use Rattle.std.specs.Prelude.{ℕ, ◌≤◌, List, [], length, Result}
use Rattle.std.proofs.Common.{ap, sym, ◌∙◌, subst, append-nil}
use Rattle.psi_past.specs.SeedWord.{seed_word}
use Rattle.psi_log_words.specs.Refusal.{Refusal, Gives}
use Rattle.psi_log.specs.Cursor.{Cursor}
use Rattle.psi_replay.specs.declared.answers.Verdict.{Verdict}
use Rattle.psi_replay.specs.declared.progress.Progress.{Progress}
use Rattle.psi_replay.specs.Passes.{left_with, judged_under, replayed}
use Rattle.psi_replay.specs.Streams.{left_under, IsSound, IsProgress}
use Rattle.psi_replay.proofs.progress.verdict_on.Goals as goal

pub returns-in-Ok : goal.returns-in-Ok
returns-in-Ok g c taken few held =
    let function = g.E.EventLaw.function in
    let system = c.args.system.now in
    let pending = c.args.pending.now in
    let reading = c.in-Begun.reading in
    let same = subst (λ (p : Progress). IsProgress function system taken pending p) c.in-Begun.is held in
    let sound = subst (λ (p : Progress). IsSound system.caps p) c.in-Begun.is c.requires in
    let whole = ap (λ (t : List ℕ). replayed (judged_under function system) t) (sym (append-nil taken))
    ∙ same [] (subst (λ (t : List ℕ). length t ≤ 33554432) (sym (append-nil taken)) few)
    ∙ ap (λ (t : List ℕ). left_under function system reading.cursor t reading.judged) (append-nil pending)
    ∙ ap (λ (w : ℕ → ℕ). left_with function system w reading.cursor pending reading.judged) (sym sound.words)
    ∙ ap (λ (k : Cursor). left_with function system (seed_word reading.past.seed reading.past.stream) k k.rest reading.judged) (sym c.in-Ok.ensures.value) in
    subst (λ (r : Result Verdict Refusal). Gives (λ v. v) c.verdict_left.result r) (sym whole) c.verdict_left.ensures.value
