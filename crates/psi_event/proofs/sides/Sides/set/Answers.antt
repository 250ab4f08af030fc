-- Answers in the proof of `Sides::set`.
use Rattle.std.specs.Prelude.{◌≡◌, List, length, slice_set}
use Rattle.std.proofs.Common.{ap, sym, ◌∙◌, arith}
use Rattle.std.proofs.lemmas.List.{length-take-le}
use Rattle.std.proofs.Math.Seq.{take-set-lt}
use Rattle.psi_event.specs.declared.sides.Side.{Side}
use Rattle.psi_event.proofs.sides.Sides.set.Goals as goal

pub returns : goal.returns
returns c =
    let count : length c.args.self.now ≡ c.self.inside.len =
    sym (ap (λ (x : List Side). length x) c.self.view_is) ∙ length-take-le c.self.inside.len c.self.inside.items (let few = c.self.invariant.0 in let whole = c.self.invariant.1 in omega arith) in
    take-set-lt c.self.inside.len c.self.inside.items c.args.i c.args.side (omega (arith, c.requires, count))
    ∙ ap (λ (x : List Side). slice_set x c.args.i c.args.side) c.self.view_is
