-- Answers in the proof of `regions::read_state`.
use Rattle.std.proofs.Common.{◌≡◌, ◌∙◌, ap, length, refl, arith}
use Rattle.std.proofs.lemmas.Grind.{common_steps}
use Rattle.std.proofs.lemmas.Bool.{eqb-true}
use Rattle.std.proofs.lemmas.List.{length-set, length-replicate}
use Rattle.psi_log_words.specs.Words.{number_in, pieces_of}
use Rattle.psi_log_words.specs.Regions.{read_state}
use Rattle.psi_log_words.proofs.TurnLemmas.{onto_none}
use Rattle.psi_log_words.proofs.PieceTurnsLemmas.{rest_turn, piece_turn, piece_refused, pieces_end}
use Rattle.psi_log_words.proofs.regions.read_state.Goals as goal

pub loop-queue-init : goal.loop-queue-init
loop-queue-init c = record {
  count = ap length c.zero-x.ensures ∙ length-replicate c.args.queues 0;
  rest = record { pieces = λ small. refl };
  value = onto_none _;
}

pub loop-queue-preserved : goal.loop-queue-preserved
loop-queue-preserved c =
    let pieces : length (pieces_of c.args.word.now) ≡ c.args.queues = eqb-true (length (pieces_of c.args.word.now)) c.args.queues c.requires.shaped in
    let inv = c.loop-queue.invariant in
    record {
      count = ap length c.set.ensures ∙ length-set c.loop-queue.x c.loop-queue.queue c.in_ok-number.number ∙ c.loop-queue.invariant.count;
      rest = rest_turn c.args.word.now c.loop-queue.rest.now c.in_ok-number.after.now c.loop-queue.queue c.loop-queue.invariant.rest c.in_ok-number.ensures.rest;
      value = piece_turn (number_in c.args.line 0 65535) c.loop-queue.x c.set.new.self c.loop-queue.queue c.args.word.now c.loop-queue.rest.now c.in_ok-number.number _ c.set.ensures
          (omega arith) c.loop-queue.invariant.rest (omega arith) c.loop-queue.invariant.value c.in_ok-number.ensures.value;
    }

pub returns-in_err-number-clause-value : goal.returns-in_err-number-clause-value
unfolding read_state
returns-in_err-number-clause-value c =
    let pieces : length (pieces_of c.args.word.now) ≡ c.args.queues = eqb-true (length (pieces_of c.args.word.now)) c.args.queues c.requires.shaped in
    let refused = piece_refused (number_in c.args.line 0 65535) _ c.loop-queue.queue c.args.word.now c.loop-queue.rest.now c.in_err-number.field-0.0 _ c.loop-queue.invariant.rest (omega arith)
    c.loop-queue.invariant.value c.in_err-number.ensures.value in
    grind (arith, common_steps)

pub returns-clause-value : goal.returns-clause-value
unfolding read_state
returns-clause-value c =
    let pieces : length (pieces_of c.args.word.now) ≡ c.args.queues = eqb-true (length (pieces_of c.args.word.now)) c.args.queues c.requires.shaped in
    let inv = c.loop-queue.invariant in
    pieces_end (number_in c.args.line 0 65535) c.loop-queue.x c.loop-queue.queue c.args.word.now _ (omega arith) (omega arith) c.loop-queue.invariant.value
