use Rattle.std.proofs.Common.{◌*◌, ◌-◌, ◌≤◌, ◌^◌, inl, inr, arith, pow_mono}
use Rattle.std.proofs.lemmas.Bool.{cases_lt}
use Rattle.std.proofs.lemmas.Nat.{leading_top}
use Rattle.psi_follow_sets.proofs.lists.bits_for.Goals as goal

pub returns-clause-few : goal.returns-clause-few
returns-clause-few c =
    let top = leading_top 16 (2 * c.args.most - 1) (omega arith) (omega arith) in
    elim (cases_lt top.0 13) [
      | inl less ↦ omega (arith, less, top.1)
      | inr more ↦ (let most : 2 ^ 13 ≤ 2 ^ top.0 = pow_mono more in absurd (omega (arith, most, top.2)))
    ]
