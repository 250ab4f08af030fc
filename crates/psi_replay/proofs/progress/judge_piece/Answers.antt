-- Answers in the proof of `progress::judge_piece`.
use Rattle.std.specs.Prelude.{◌≡◌, ℕ, ◌≤◌, List, ◌++◌, length}
use Rattle.std.proofs.Common.{ap, sym, ◌∙◌, subst, append_assoc}
use Rattle.psi_log.specs.Cursor.{Cursor, EndsAs}
use Rattle.psi_log.proofs.FrontLemmas.{ends_then}
use Rattle.psi_replay.specs.declared.progress.Progress.{Progress}
use Rattle.psi_replay.specs.Passes.{judged_under, replayed}
use Rattle.psi_replay.specs.Streams.{left_under, IsProgress}
use Rattle.psi_replay.proofs.progress.judge_piece.Goals as goal

pub returns-in-Ok-clause-left : goal.returns-in-Ok-clause-left
returns-in-Ok-clause-left g c taken tail held more few =
    let function = g.E.EventLaw.function in
    let system = c.args.system.now in
    let text = c.args.text.now in
    let reading = c.pass-reading.result.0 in
    let all : taken ≡ text ++ tail = subst (λ (p : Progress). IsProgress function system taken (text ++ tail) p) c.in-Unread.is held in
    let whole : taken ++ more ≡ text ++ (tail ++ more) = ap (λ (t : List ℕ). t ++ more) all ∙ append_assoc text tail more in
    ap (λ (t : List ℕ). replayed (judged_under function system) t) whole
    ∙ c.in-Ok.ensures.front (tail ++ more) (subst (λ (t : List ℕ). length t ≤ 33554432) whole few)
    ∙ c.pass-reading.ensures.left (tail ++ more)
    ∙ ap (λ (t : List ℕ). left_under function system reading.cursor t reading.judged) (sym (append_assoc c.pass-reading.result.1.now tail more))

pub returns-in-Ok-resume-clause-left : goal.returns-in-Ok-resume-clause-left
returns-in-Ok-resume-clause-left g c taken tail held more few =
    let function = g.E.EventLaw.function in
    let system = c.args.system.now in
    let text = c.args.text.now in
    let before = c.in-Begun.reading in
    let reading = c.pass-reading-in-Begun.result.0 in
    let same = subst (λ (p : Progress). IsProgress function system taken (text ++ tail) p) c.in-Begun.is held in
    same more few
    ∙ ap (λ (t : List ℕ). left_under function system before.cursor t before.judged) (append_assoc text tail more)
    ∙ ap (λ (k : Cursor). left_under function system k (k.rest ++ (tail ++ more)) before.judged) (sym c.in-Ok-resume.ensures.value)
    ∙ c.pass-reading-in-Begun.ensures.left (tail ++ more)
    ∙ ap (λ (t : List ℕ). left_under function system reading.cursor t reading.judged) (sym (append_assoc c.pass-reading-in-Begun.result.1.now tail more))

pub returns-in-Ok-clause-ends : goal.returns-in-Ok-clause-ends
returns-in-Ok-clause-ends g c =
    ends_then c.args.text.now c.in-Ok.begun.reader.rest c.pass-reading.result.1.now c.in-Ok.ensures.ends c.pass-reading.ensures.ends

pub returns-in-Ok-resume-clause-ends : goal.returns-in-Ok-resume-clause-ends
returns-in-Ok-resume-clause-ends g c =
    subst (λ (k : Cursor). EndsAs k.rest c.pass-reading-in-Begun.result.1.now) c.in-Ok-resume.ensures.value c.pass-reading-in-Begun.ensures.ends
