-- Answers in the proof of `Bounds::volume_at_most`.
use Rattle.std.specs.Prelude.{◌*◌, ◌≤◌, ◌+◌, length}
use Rattle.std.proofs.Common.{arith}
use Rattle.psi_state.specs.State.{box}
use Rattle.psi_state.proofs.CountingLemmas.{counting-next, counting-most, counting-last}
use Rattle.psi_state.proofs.bounds.Bounds.volume_at_most.Goals as goal

pub returns-then-count-most : goal.returns-then-count-most
returns-then-count-most c =
    let ordered = c.len-place-end.ensures.ordered in
    let next = counting-next c.args.self.now.lo c.args.self.now.hi c.loop-place.place c.loop-place.count c.width.result
    ordered (omega arith) c.width.ensures.value c.loop-place.invariant.counting in
    let most : c.loop-place.count * c.width.result ≤ length (box c.args.self.now.lo c.args.self.now.hi) =
    counting-most c.args.self.now.lo c.args.self.now.hi (c.loop-place.place + 1) (c.loop-place.count * c.width.result) ordered next in
    omega arith

pub returns : goal.returns
returns c = (
  counting-last c.args.self.now.lo c.args.self.now.hi c.loop-place.place c.loop-place.count
      c.len-place-end.ensures.ordered (omega arith) c.loop-place.invariant.counting,
  omega arith,
)
