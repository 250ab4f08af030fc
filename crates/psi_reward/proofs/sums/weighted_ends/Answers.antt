-- Answers in the proof of `weighted_ends`.
use Rattle.std.specs.Prelude.{◌≡◌}
use Rattle.std.specs.Int.{int_min, int_max}
use Rattle.std.proofs.Common.{ap, ◌∙◌, arith, w32, w64, to_z, of_z}
use Rattle.std.proofs.lemmas.Int.{ints}
use Rattle.psi_reward.specs.Sums.{weighted}
use Rattle.psi_reward.proofs.AddingLemmas.{span-same, weighted-span}
use Rattle.psi_reward.proofs.sums.weighted_ends.Goals as goal

pub returns-clause-span : goal.returns-clause-span
returns-clause-span c =
    let least : to_z w64 (of_z w64 c.min.result) ≡ c.min.result = omega (arith, ints) in
    let greatest : to_z w64 (of_z w64 c.max.result) ≡ c.max.result = omega (arith, ints) in
    let weight : to_z w32 (of_z w32 c.args.weight) ≡ c.args.weight = omega (arith, ints) in
    let first : to_z w64 (of_z w64 c.weighted-first.result) ≡ c.weighted-first.result = omega (arith, ints) in
    let last : to_z w64 (of_z w64 c.weighted-last.result) ≡ c.weighted-last.result = omega (arith, ints) in
    let at_low : c.weighted-first.result ≡ weighted c.args.weight c.args.low = c.weighted-first.ensures.value ∙ ap (λ w. weighted w c.args.low) weight in
    let at_high : c.weighted-last.result ≡ weighted c.args.weight c.args.high = c.weighted-last.ensures.value ∙ ap (λ w. weighted w c.args.high) weight in
    let low : c.min.result ≡ int_min (weighted c.args.weight c.args.low) (weighted c.args.weight c.args.high) =
    c.min.ensures.value ∙ (ap (λ z. int_min z (to_z w64 (of_z w64 c.weighted-last.result))) (first ∙ at_low) ∙ ap (λ z. int_min (weighted c.args.weight c.args.low) z) (last ∙ at_high)) in
    let high : c.max.result ≡ int_max (weighted c.args.weight c.args.low) (weighted c.args.weight c.args.high) =
    c.max.ensures.value ∙ (ap (λ z. int_max z (to_z w64 (of_z w64 c.weighted-last.result))) (first ∙ at_low) ∙ ap (λ z. int_max (weighted c.args.weight c.args.low) z) (last ∙ at_high)) in
    span-same (weighted c.args.weight) c.args.low c.args.high _ _ _ _ (least ∙ low) (greatest ∙ high) (weighted-span c.args.weight c.args.low c.args.high c.requires.ordered)
