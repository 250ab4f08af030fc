-- Answers in the proof of `levels_of`.
use Rattle.std.proofs.Common.{◌+◌, ◌^◌, ◌≤◌, length, List, sym, ◌∙◌, subst, arith, zero, ◌<◌}
use Rattle.std.proofs.Math.Nat.{pow-le-pow_right}
use Rattle.psi_index.specs.Extremes.{AreLeast}
use Rattle.psi_index.specs.Inner.LevelsKept.{AreLevels}
use Rattle.psi_index.specs.declared.level.Level.{Level}
use Rattle.psi_index.proofs.WidthsLemmas.{exponent-greatest, levels-more}
use Rattle.psi_index.proofs.level.levels_of.Goals as goal

pub next_level-requires-clause-room : goal.next_level-requires-clause-room
next_level-requires-clause-room c =
    let made = c.deref.ensures.len ∙ c.loop-made.invariant.len in
    let two : zero < 2 = omega arith in
    let order : length c.deref.result.now + 1 ≤ c.ilog2-count.result = omega arith in omega (arith, pow-le-pow_right two order)

pub loop-made-preserved : goal.loop-made-preserved
loop-made-preserved c =
    let kept = c.loop-made.invariant in
    let pushed = c.in_ok-push.ensures in
    record {
      len = omega arith;
      levels = subst (λ (xs : List Level). AreLevels c.args.values.now xs) (sym pushed.items)
          (levels-more c.args.values.now c.loop-made.levels.items c.in_ok-level.level kept.levels
          (subst (λ (xs : List Level). AreLeast c.args.values.now (2 ^ (length xs + 1)) c.in_ok-level.level.least.items) c.deref.ensures.value c.in_ok-level.ensures));
    }

pub returns-clause-enough : goal.returns-clause-enough
returns-clause-enough c = λ e least.
    let most = exponent-greatest (length c.args.values.now) c.ilog2-count.result e c.ilog2-count.ensures.next_power_gt least in
    omega arith
