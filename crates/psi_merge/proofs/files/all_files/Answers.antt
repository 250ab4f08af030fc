-- Answers in the proof of `all_files`.
use Rattle.std.specs.Prelude.{string_bytes}
use Rattle.std.proofs.Common.{sym, ◌∙◌}
use Rattle.psi_merge.proofs.WordsLemmas.{files-more, files-refused, files-end}
use Rattle.psi_merge.proofs.files.all_files.Goals as goal

pub loop-word-preserved : goal.loop-word-preserved
loop-word-preserved c =
    let file = rw (c.as_str.ensures.value, c.if-not-is_file.false) at c.is_file.ensures in
    files-more string_bytes c.args.words.now c.loop-word.word-index c.word-item.result c.loop-word-test.true c.word-item.is (sym file) ∙ c.loop-word.invariant

pub returns-then-not-is_file : goal.returns-then-not-is_file
returns-then-not-is_file c =
    let other = rw (c.as_str.ensures.value, c.if-not-is_file.true) at c.is_file.ensures in
    sym (files-refused string_bytes c.args.words.now c.loop-word.word-index c.word-item.result c.loop-word-test.true c.word-item.is (sym other)) ∙ c.loop-word.invariant

pub returns : goal.returns
returns c = sym (files-end string_bytes c.args.words.now c.loop-word.word-index c.loop-word-test.false) ∙ c.loop-word.invariant
