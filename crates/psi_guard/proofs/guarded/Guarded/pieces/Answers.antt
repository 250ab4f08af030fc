-- Answers in the proof of `Guarded::pieces`.
use Rattle.std.proofs.Common.{arith}
use Rattle.std.proofs.lemmas.Grind.{common_steps}
use Rattle.psi_guard.proofs.TellingLemmas.{tell-start, tell-next}
use Rattle.psi_guard.proofs.guarded.Guarded.pieces.Goals as goal

pub loop-queue-init : goal.loop-queue-init
loop-queue-init c = grind (arith, common_steps, tell-start)

pub loop-queue-preserved : goal.loop-queue-preserved
loop-queue-preserved c =
    let event = c.args.self.now in
    let place = c.len-queue-end.ensures.value in
    tell-next event.caps event.parts c.loop-queue.queue
    (record { bounds = c.loop-queue.bounds; first = c.loop-queue.first; second = c.loop-queue.second })
    c.get.result c.part_of.result c.pieces_at-own.result c.set.new.self c.put.new.piece c.put-in-loop-queue.new.piece
    c.loop-queue.invariant (omega arith) c.get.ensures c.part_of.ensures.value c.pieces_at-own.ensures
    c.set.ensures c.put.ensures c.put-in-loop-queue.ensures
