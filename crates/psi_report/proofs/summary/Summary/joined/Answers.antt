-- Where there are values in both parts, the sum fits.
use Rattle.std.proofs.Common.{◌≡◌, w64, ◌+ℤ◌, to_z, of_z, SFits, rules, arith}
use Rattle.std.specs.Int.{w128}
use Rattle.std.proofs.lemmas.Int.{ints, to_z-of_z}
use Rattle.psi_report.proofs.SummaryLemmas.{joined_both}
use Rattle.psi_report.proofs.summary.Summary.joined.Goals as goal

pub returns : goal.returns
returns c =
    let both = joined_both c.args.count c.args.others c.args.self.now c.args.other.now c.if-count-eq0.false c.if-others-eq0.false in
    let least : to_z w64 (of_z w64 c.min.result) ≡ c.min.result = omega (arith, ints) in
    let greatest : to_z w64 (of_z w64 c.max.result) ≡ c.max.result = omega (arith, ints) in
    let own_sum : to_z w128 (of_z w128 c.args.self.now.sum) ≡ c.args.self.now.sum = omega (arith, ints) in
    let other_sum : to_z w128 (of_z w128 c.args.other.now.sum) ≡ c.args.other.now.sum = omega (arith, ints) in
    let sum : to_z w128 (of_z w128 (c.args.self.now.sum +ℤ c.args.other.now.sum)) ≡ c.args.self.now.sum +ℤ c.args.other.now.sum = omega (arith, ints) in
    let own_least_fits : SFits w64 c.args.self.now.least = search rules in
    let own_least : to_z w64 (of_z w64 c.args.self.now.least) ≡ c.args.self.now.least = to_z-of_z w64 c.args.self.now.least own_least_fits in
    let other_least_fits : SFits w64 c.args.other.now.least = search rules in
    let other_least : to_z w64 (of_z w64 c.args.other.now.least) ≡ c.args.other.now.least = to_z-of_z w64 c.args.other.now.least other_least_fits in
    let own_greatest_fits : SFits w64 c.args.self.now.greatest = search rules in
    let own_greatest : to_z w64 (of_z w64 c.args.self.now.greatest) ≡ c.args.self.now.greatest = to_z-of_z w64 c.args.self.now.greatest own_greatest_fits in
    let other_greatest_fits : SFits w64 c.args.other.now.greatest = search rules in
    let other_greatest : to_z w64 (of_z w64 c.args.other.now.greatest) ≡ c.args.other.now.greatest = to_z-of_z w64 c.args.other.now.greatest other_greatest_fits in
    cc (both, c.min.ensures.value, c.max.ensures.value)
