-- The difference fits, and so does its product with the steps that are left.
use Rattle.std.specs.Prelude.{◌≡◌, ◌<◌, ◌^◌, pos, ◌-ℤ◌, ◌*ℤ◌}
use Rattle.std.specs.Int.{w128}
use Rattle.std.proofs.Common.{SFits, to_z, arith}
use Rattle.std.proofs.lemmas.Int.{to_z_pos, to_z-of_z}
use Rattle.psi_path.proofs.IntegerLemmas.{fits-wide, difference-fits, rise-few, few-fits}
use Rattle.psi_path.proofs.turning.rise.Goals as goal

pub returns-clause-value : goal.returns-clause-value
returns-clause-value c =
    let first = c.ranges.before in
    let second = c.ranges.value in
    let few : c.args.left < 2 ^ 32 = (let f = c.ranges.left.fits in omega arith) in
    let wide_first = fits-wide c.args.before first in
    let wide_second = fits-wide c.args.value second in
    let difference = difference-fits c.args.before c.args.value first second in
    let under = rise-few c.args.left c.args.before c.args.value few first second in
    let product : SFits w128 (pos c.args.left *ℤ (c.args.value -ℤ c.args.before)) = few-fits (pos c.args.left *ℤ (c.args.value -ℤ c.args.before)) (omega arith) in
    let left : to_z w128 c.args.left ≡ pos c.args.left = to_z_pos w128 c.args.left (omega arith) in
    rw left (simp to_z-of_z)

pub returns-clause-few : goal.returns-clause-few
returns-clause-few c =
    let few : c.args.left < 2 ^ 32 = (let f = c.ranges.left.fits in omega arith) in
    rw (returns-clause-value c) (rise-few c.args.left c.args.before c.args.value few c.ranges.before c.ranges.value)
