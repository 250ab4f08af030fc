-- Answers in the proof of `moves::read_move`.
use Rattle.std.proofs.Common.{◌∙◌, ◌++◌, [], ◌∷◌, ℕ, List, ap, sym, map, length, arith, inl, inr}
use Rattle.std.proofs.lemmas.Grind.{common_steps}
use Rattle.std.proofs.lemmas.List.{length-set}
use Rattle.psi_state.specs.State.{Corners}
use Rattle.psi_log_words.specs.Words.{pieces_of}
use Rattle.psi_log_words.specs.Regions.{read_change}
use Rattle.psi_log_words.specs.ChangesViews.{change}
use Rattle.psi_log_words.proofs.TurnLemmas.{shaped_rest, turn_refused}
use Rattle.psi_log_words.proofs.MovedLemmas.{moved_more, moved_stop, read_none, read_turn, read_ends, move_read, move_fails, move_refused}
use Rattle.psi_log_words.proofs.moves.read_move.Goals as goal
use Rattle.psi_log_words.proofs.moves.read_move.Goals.{then-ordered+then-next-c+then-is_change, else-ordered, else-ordered-via-then-ordered+then-next-c+else-is_change, else-ordered-via-then-ordered+else-next-c, else-ordered-via-else-ordered}

pub loop-word-init : goal.loop-word-init
loop-word-init c = record {
  long = c.requires.same;
  shaped = c.requires.shaped;
  read = read_none c.args.line c.args.queues c.args.from.now (map (λ word. word.now) c.args.words.now);
}

pub loop-word-preserved : goal.loop-word-preserved
loop-word-preserved c =
    let inv = c.loop-word.invariant in
    let rest = read_turn (λ word. word.now) c.args.line c.args.queues c.loop-word.invariant.read.changes c.loop-word.word-index c.args.words.now _ (change c.in_ok-c.c) _ c.loop-word-test.true
    c.in_ok-c.ensures.value c.loop-word.invariant.read.rest in
    let moved = c.loop-word.invariant.read.moved in
    record {
      long = elim c.if-ordered.branch [
        | then-ordered+then-next-c+then-is_change w ↦ ap (λ (b : Corners). length b.lo) (w.to-is ∙ w.set.ensures) ∙ length-set c.loop-word.to.lo c.in_ok-c.c.queue c.in_ok-c.c.least ∙ inv.long
        | else-ordered w ↦ ap (λ (b : Corners). length b.lo) w.to-is ∙ inv.long
      ];
      shaped = shaped_rest (λ word. word.now) 3 c.loop-word.word-index c.args.words.now c.loop-word-test.true inv.shaped;
      read = record {
        changes = c.loop-word.invariant.read.changes ++ change c.in_ok-c.c ∷ [];
        moved = elim c.if-ordered.branch [
          | then-ordered+then-next-c+then-is_change w ↦ rw (w.ordered-is, w.if-ordered.true)
              (moved_more c.args.from.now c.loop-word.invariant.read.changes c.loop-word.to c.loop-word.next (change c.in_ok-c.c) c.if-ordered.to c.if-ordered.next
              (rw w.if-ordered.true at moved) w.if-next-c.true (sym w.is_change.ensures ∙ w.if-is_change.true) (w.to-is ∙ w.set.ensures) w.next-is)
          | else-ordered w ↦ rw (w.to-is, w.next-is, w.ordered-is)
              (moved_stop c.args.from.now c.loop-word.invariant.read.changes c.loop-word.to c.loop-word.next c.loop-word.ordered (change c.in_ok-c.c) moved
              (λ on. elim w.else-ordered.branch [
                | else-ordered-via-then-ordered+then-next-c+else-is_change v ↦ inr (sym v.is_change.ensures ∙ v.if-is_change.false)
                | else-ordered-via-then-ordered+else-next-c v ↦ inl v.if-next-c.false
                | else-ordered-via-else-ordered v ↦ absurd cc
              ]))
        ];
        rest = rest;
      };
    }

pub returns-in_err-c-clause-value : goal.returns-in_err-c-clause-value
returns-in_err-c-clause-value c =
    let fails = turn_refused (λ word. word.now) (λ (word : List ℕ). read_change c.args.line c.args.queues (pieces_of word)) c.loop-word.invariant.read.changes c.loop-word.word-index
    c.args.words.now _ c.in_err-c.field-0.0 _ c.loop-word-test.true c.loop-word.invariant.read.rest c.in_err-c.ensures.value in
    let refused = move_refused c.args.line c.args.queues c.args.from.now (map (λ word. word.now) c.args.words.now) c.in_err-c.field-0.0 fails in
    grind (arith, common_steps)

pub returns-then-not-ordered-clause-value : goal.returns-then-not-ordered-clause-value
returns-then-not-ordered-clause-value c =
    let moved = c.loop-word.invariant.read.moved in
    let read = read_ends (λ word. word.now) c.args.line c.args.queues c.loop-word.invariant.read.changes c.loop-word.word-index c.args.words.now c.loop-word-test.false c.loop-word.invariant.read.rest in
    rw c.at.ensures (move_fails c.args.line c.args.queues c.args.from.now (map (λ word. word.now) c.args.words.now) c.loop-word.invariant.read.changes c.loop-word.to c.loop-word.next
    (rw c.if-not-ordered.true at moved) read)

pub returns-clause-value : goal.returns-clause-value
returns-clause-value c =
    let moved = c.loop-word.invariant.read.moved in
    let read = read_ends (λ word. word.now) c.args.line c.args.queues c.loop-word.invariant.read.changes c.loop-word.word-index c.args.words.now c.loop-word-test.false c.loop-word.invariant.read.rest in
    move_read c.args.line c.args.queues c.args.from.now (map (λ word. word.now) c.args.words.now) c.loop-word.invariant.read.changes c.loop-word.to c.loop-word.next
    (rw c.if-not-ordered.false at moved) read
