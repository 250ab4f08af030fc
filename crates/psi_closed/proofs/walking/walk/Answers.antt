-- Answers in the proof of `walk`.
use Rattle.std.proofs.Common.{◌-◌, length, ap, ◌∙◌, arith}
use Rattle.psi_closed.proofs.WalkingLemmas.{moved-long, walk_of-take}
use Rattle.psi_closed.proofs.walking.walk.Goals as goal

pub loop-place-preserved : goal.loop-place-preserved
loop-place-preserved c =
    let caps = c.args.caps.now in
    let place = c.loop-place.place in
    let most = c.requires.left in
    record {
      long = ap (λ xs. length xs) c.make_move.ensures ∙ moved-long caps _ c.loop-place.state c.loop-place.invariant.long;
      left = walk_of-take caps c.args.moves.now c.args.numbers.now place _ c.loop-place.state c.make_move.new.state _ c.loop-place-test.true (omega arith)
          (c.requires.numbers (place - 1) 0 (omega arith)) c.make_move.ensures c.loop-place.invariant.left;
    }
