-- Answers in the proof of `moves::read_change`.
use Rattle.std.proofs.Common.{arith}
use Rattle.std.proofs.lemmas.Grind.{common_steps}
use Rattle.psi_log_words.proofs.PieceTurnsLemmas.{change_read, queue_refused, least_refused, greatest_refused}
use Rattle.psi_log_words.proofs.moves.read_change.Goals as goal

pub returns-in_err-queue-clause-value : goal.returns-in_err-queue-clause-value
returns-in_err-queue-clause-value c =
    let refused = queue_refused c.args.line c.args.queues c.args.word.now c.in_err-queue.field-0.0 c.requires.shaped c.in_err-queue.ensures.value in
    grind (arith, common_steps)

pub returns-in_err-least-clause-value : goal.returns-in_err-least-clause-value
returns-in_err-least-clause-value c =
    let refused = least_refused c.args.line c.args.queues c.args.word.now c.in_ok-queue.rest.now c.in_ok-queue.queue c.in_err-least.field-0.0 c.requires.shaped c.in_ok-queue.ensures.rest
    c.in_ok-queue.ensures.value c.in_err-least.ensures.value in
    grind (arith, common_steps)

pub returns-in_err-greatest-clause-value : goal.returns-in_err-greatest-clause-value
returns-in_err-greatest-clause-value c =
    let refused = greatest_refused c.args.line c.args.queues c.args.word.now c.in_ok-queue.rest.now c.in_ok-least.rest.now c.in_ok-queue.queue c.in_ok-least.least c.in_err-greatest.field-0.0
    c.requires.shaped c.in_ok-queue.ensures.rest c.in_ok-least.ensures.rest c.in_ok-queue.ensures.value c.in_ok-least.ensures.value c.in_err-greatest.ensures.value in
    grind (arith, common_steps)

pub returns-clause-value : goal.returns-clause-value
returns-clause-value c =
    change_read c.args.line c.args.queues c.args.word.now c.in_ok-queue.rest.now c.in_ok-least.rest.now c.in_ok-queue.queue c.in_ok-least.least c.in_ok-greatest.greatest
    c.requires.shaped c.in_ok-queue.ensures.rest c.in_ok-least.ensures.rest c.in_ok-queue.ensures.value c.in_ok-least.ensures.value c.in_ok-greatest.ensures.value
