-- Answers in the proof of `progress::begin`.
use Rattle.std.specs.Prelude.{◌≡◌, ℕ, List, ◌++◌, Result, Ok}
use Rattle.std.proofs.Common.{ap, ◌∙◌}
use Rattle.psi_past.specs.SeedWord.{seed_word}
use Rattle.psi_rate.specs.Composition.{SystemParts, system_functions}
use Rattle.psi_log_format.specs.declared.header.Header.{Header}
use Rattle.psi_log.specs.Cursor.{Cursor, begun}
use Rattle.psi_log.proofs.FrontLemmas.{begun_front, begun_ends}
use Rattle.psi_replay.specs.Verdict.{judged, event_numbers}
use Rattle.psi_replay.specs.Passes.{told, judge_begin, verdict_left, judged_under, replayed}
use Rattle.psi_replay.specs.Streams.{left_under}
use Rattle.psi_replay.specs.declared.causes.Rejection.{Rejection}
use Rattle.psi_replay.proofs.PassLemmas.{told_is, left_begun, replay_refused}
use Rattle.psi_replay.proofs.progress.begin.Goals as goal

pub returns-in-Err-clause-refused : goal.returns-in-Err-clause-refused
returns-in-Err-clause-refused g c = replay_refused (judged_under g.E.EventLaw.function c.args.system.now) c.args.text.now c.in-Err.error c.in-Err.ensures.value

pub returns-clause-ends : goal.returns-clause-ends
returns-clause-ends g c = begun_ends c.args.text.now c.in-Ok.reader c.in-Ok.ensures.value

-- what is left of a text after the lines up to its first step, which were judged
begun_left : {E : Type 0} (function : E → List ℕ → List ℕ) (system : SystemParts E) (text : List ℕ) (c : Cursor) (judging : Result (Unit {0}) Rejection) → begun text ≡ Ok c → c.done ≡ 0
    → judge_begin system.caps system.limit c.header c.region ≡ told judging → replayed (judged_under function system) text ≡ left_under function system c c.rest judging
begun_left function system text c judging is none begins =
    let own_of = λ (w : ℕ → ℕ). judged system.caps system.limit (event_numbers system w) (system_functions function system w) in
    let words = seed_word c.header.seed c.header.stream in
    left_begun system.caps system.limit (event_numbers system words) (system_functions function system words) (judged_under function system) text c is none
    (λ k same. ap (λ (h : Header). own_of (seed_word h.seed h.stream) k) same)
    ∙ ap (verdict_left system.caps system.limit (event_numbers system words) (system_functions function system words) c.header c.done c.region c.rest) begins

pub returns-clause-left : goal.returns-clause-left
returns-clause-left g c =
    let judged_so = told_is c.judge_begin-judged.result _ c.judge_begin-judged.ensures.value in
    begun_left g.E.EventLaw.function c.args.system.now c.args.text.now c.in-Ok.reader c.judge_begin-judged.result c.in-Ok.ensures.value c.in-Ok.ensures.start (cc)

pub returns-clause-front : goal.returns-clause-front
returns-clause-front g c more few =
    let judged_so = told_is c.judge_begin-judged.result _ c.judge_begin-judged.ensures.value in
    begun_left g.E.EventLaw.function c.args.system.now (c.args.text.now ++ more) _ c.judge_begin-judged.result
    (begun_front c.args.text.now more c.in-Ok.reader c.in-Ok.ensures.value few) c.in-Ok.ensures.start (cc)
