-- Answers in the proof of `progress::pass`.
use Rattle.std.specs.Prelude.{◌≡◌, ℕ, List, length, true, OnOk}
use Rattle.std.proofs.Common.{ap, sym, ◌∙◌, subst}
use Rattle.psi_past.specs.SeedWord.{seed_word}
use Rattle.psi_log_format.specs.declared.header.Header.{Header}
use Rattle.psi_log.specs.Cursor.{Cursor, EndsAs}
use Rattle.psi_replay.specs.Verdict.{is_within}
use Rattle.psi_replay.proofs.progress.pass.Goals as goal

pub returns-clause-judged : goal.returns-clause-judged
returns-clause-judged g c =
    let caps = c.args.system.now.caps in
    let judged = c.judge_lines-passed.result.judged in
    let kept = c.into_cursor-cursor.ensures.kept in
    let header : c.into_cursor-cursor.result.0.header ≡ c.args.reader.header = ap (λ (k : Cursor). k.header) kept ∙ c.judge_lines-passed.ensures.header in
    record {
      words = c.judge_lines-passed.ensures.words ∙ c.requires.judged.words ∙ ap (λ (h : Header). seed_word h.seed h.stream) (sym header);
      queues = subst (λ (k : Cursor). OnOk judged (k.header.queues ≡ length caps)) (sym kept) c.judge_lines-passed.ensures.queues;
      within = subst (λ (k : Cursor). OnOk judged (is_within caps k.region ≡ true)) (sym kept) c.judge_lines-passed.ensures.within;
    }

pub returns-clause-ends : goal.returns-clause-ends
returns-clause-ends g c = subst (λ (rest : List ℕ). EndsAs c.args.reader.rest rest) (sym c.into_cursor-cursor.ensures.rest) c.judge_lines-passed.ensures.ends
