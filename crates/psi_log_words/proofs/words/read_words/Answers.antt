-- Answers in the proof of `words::read_words`.
use Rattle.std.proofs.Common.{◌+◌, ◌≤◌, List, ℕ, Ok, map, length, get_or, ap, sym, ◌∙◌, arith, refl}
use Rattle.std.specs.List.{before_first}
use Rattle.std.proofs.lemmas.Bool.{ne_eqb, eq-eqb}
use Rattle.std.proofs.lemmas.List.{length-map, take_rest}
use Rattle.psi_log_words.specs.Words.{is_feed}
use Rattle.psi_log_words.proofs.LineWordsLemmas.{AreKept, kept_none, kept_few, kept_byte, kept_space, kept_feed, words_end}
use Rattle.psi_log_words.proofs.words.read_words.Goals as goal
use Rattle.psi_log_words.proofs.words.read_words.Goals.{then-byte-eq32+in_ok-keep-2, else-byte-eq32}

-- as many words as are seen of them
few : {V : Type 0} (view : V → List ℕ) (text : List ℕ) (at first : ℕ) (vs : List V) → AreKept text at first (map view vs) → length vs ≤ 4101
few view text at first vs kept = omega (arith, kept_few text at first (map view vs) kept, length-map vs view)

pub loop-at-init : goal.loop-at-init
loop-at-init c = rw c.clear.ensures.items (kept_none c.args.text.now)

pub keep-requires : goal.keep-requires
keep-requires c =
    let small : length c.loop-at.words.items ≤ 4101 = few (λ word. word.now) c.args.text.now c.loop-at.at c.loop-at.first c.loop-at.words.items c.loop-at.invariant in omega arith

pub keep-requires-then-byte-eq32 : goal.keep-requires-then-byte-eq32
keep-requires-then-byte-eq32 c =
    let small : length c.loop-at.words.items ≤ 4101 = few (λ word. word.now) c.args.text.now c.loop-at.at c.loop-at.first c.loop-at.words.items c.loop-at.invariant in omega arith

pub loop-at-preserved : goal.loop-at-preserved
loop-at-preserved c =
    let at = c.loop-at.at in
    let other = ne_eqb (get_or c.args.text.now c.loop-at.at 0) 10 c.if-byte-eq10.false in
    elim c.if-byte-eq32.branch [
      | then-byte-eq32+in_ok-keep-2 w ↦ rw (w.first-is, w.words-is) (kept_space c.args.text.now c.loop-at.at c.loop-at.first (map (λ word. word.now) c.loop-at.words.items) _ _
          c.loop-at.invariant c.loop-at-test.true other (eq-eqb (get_or c.args.text.now c.loop-at.at 0) 32 w.if-byte-eq32.true) refl w.in_ok-keep-2.ensures)
      | else-byte-eq32 w ↦ rw (w.first-is, w.words-is) (kept_byte c.args.text.now c.loop-at.at c.loop-at.first (map (λ word. word.now) c.loop-at.words.items)
          c.loop-at.invariant c.loop-at-test.true other (ne_eqb (get_or c.args.text.now c.loop-at.at 0) 32 w.if-byte-eq32.false))
    ]

pub returns-then-byte-eq10-clause-line : goal.returns-then-byte-eq10-clause-line
returns-then-byte-eq10-clause-line c =
    (kept_feed c.args.line c.args.text.now c.loop-at.at c.loop-at.first (map (λ word. word.now) c.loop-at.words.items) _ _ c.loop-at.invariant c.loop-at-test.true c.if-byte-eq10.true refl
    c.in_ok-keep.ensures).0
    ∙ ap (λ (rest : List ℕ). Ok (before_first is_feed c.args.text.now, rest)) (sym (take_rest c.args.text.now (c.loop-at.at + 1)))

pub returns-then-byte-eq10-clause-words : goal.returns-then-byte-eq10-clause-words
returns-then-byte-eq10-clause-words c =
    (kept_feed c.args.line c.args.text.now c.loop-at.at c.loop-at.first (map (λ word. word.now) c.loop-at.words.items) _ _ c.loop-at.invariant c.loop-at-test.true c.if-byte-eq10.true refl
    c.in_ok-keep.ensures).1

pub returns-clause-refused : goal.returns-clause-refused
returns-clause-refused c = rw c.at.ensures (words_end c.args.line c.args.text.now c.loop-at.at c.loop-at.first c.loop-at.invariant.words c.loop-at.invariant.are c.loop-at-test.false)
