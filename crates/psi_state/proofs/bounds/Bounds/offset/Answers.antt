-- Answers in the proof of `Bounds::offset`.
use Rattle.std.specs.Prelude.{◌≡◌, slice_index}
use Rattle.std.proofs.Common.{ap, arith}
use Rattle.psi_state.specs.State.{Corners}
use Rattle.psi_state.proofs.BoxesLemmas.{In-of_box}
use Rattle.psi_state.proofs.bounds.Bounds.offset.Goals as goal

pub get-requires : goal.get-requires
get-requires c = (let between = In-of_box c.args.self.now.lo c.args.self.now.hi c.args.x.now c.requires.member in omega (arith, between.low.same_length))

pub overflow_sub-result : goal.overflow_sub-result
overflow_sub-result c =
    let between = In-of_box c.args.self.now.lo c.args.self.now.hi c.args.x.now c.requires.member in
    let low : slice_index c.self.inside.lo c.args.place ≡ slice_index c.args.self.now.lo c.args.place =
    ap (λ (b : Corners). slice_index b.lo c.args.place) c.self.view_is in
    omega (arith, between.low.each c.args.place c.requires.within)
