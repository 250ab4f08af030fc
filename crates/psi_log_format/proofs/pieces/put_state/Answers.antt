-- Answers in the proof of `put_state`.
use Rattle.std.proofs.Common.{ℕ, List, ◌∷◌, arith, sym, ap, subst}
use Rattle.std.proofs.lemmas.List.{take_all}
use Rattle.psi_log_format.specs.Text.{numbers_text}
use Rattle.psi_log_format.specs.Room.{Puts}
use Rattle.psi_log_format.proofs.JoinedLemmas.{numbers_text_first, numbers_text_more, then}
use Rattle.psi_log_format.proofs.pieces.put_state.Goals as goal

pub loop-queue-init : goal.loop-queue-init
loop-queue-init c = record {
  text = rw (numbers_text_first c.args.x.now c.len-queues.ensures.vector.some, ← c.get.ensures) c.put_first-end.ensures.text;
  short = omega arith;
}

pub loop-queue-preserved : goal.loop-queue-preserved
loop-queue-preserved c = record {
  text = then _ _ _ c.loop-queue.invariant.text c.put_next-end.ensures.text (rw c.get-in-loop-queue.ensures (ap (λ (t : List ℕ). 32 ∷ t) (sym (numbers_text_more c.args.x.now c.loop-queue.queue (omega arith) (omega arith)))));
  short = omega arith;
}

pub returns : goal.returns
returns c = record {
  text = subst (λ (x : List ℕ). Puts c.args.out.now c.loop-queue.out c.args.at c.loop-queue.end (32 ∷ numbers_text x)) (take_all c.loop-queue.queue c.args.x.now (omega arith)) c.loop-queue.invariant.text;
  short = omega arith;
}
