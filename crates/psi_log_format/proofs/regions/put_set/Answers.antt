-- Answers in the proof of `put_set`.
use Rattle.std.proofs.Common.{[], ◌∷◌, codes, arith}
use Rattle.psi_log_format.specs.Text.{numbers_text}
use Rattle.psi_log_format.specs.Room.{Puts, spaced_words}
use Rattle.psi_log_format.proofs.JoinedLemmas.{then_words, one_word, set-more}
use Rattle.psi_log_format.proofs.regions.put_set.Goals as goal

pub loop-x-init : goal.loop-x-init
loop-x-init c = record { text = rw (one_word (codes "set")) c.put-end.ensures; short = omega (arith, c.put-end.ensures.place) }

pub loop-x-preserved : goal.loop-x-preserved
loop-x-preserved c =
    let more : Puts c.loop-x.out c.put_state-end.new.out c.loop-x.end c.put_state-end.result (spaced_words (numbers_text c.x-item.result ∷ [])) = rw (one_word (numbers_text c.x-item.result)) c.put_state-end.ensures.text in
    record {
      text = then_words _ _ _ c.loop-x.invariant.text more (set-more (codes "set") c.args.states.now c.loop-x.x-index c.x-item.result (omega arith) c.x-item.is);
      short = omega arith;
    }
