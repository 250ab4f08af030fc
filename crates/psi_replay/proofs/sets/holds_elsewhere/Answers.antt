-- Answers in the proof of `sets::holds_elsewhere`.
use Rattle.std.specs.Prelude.{◌<◌}
use Rattle.std.proofs.Common.{sym, ◌∙◌, refl, arith}
use Rattle.psi_replay.proofs.ListLemmas.{has_at, has_none}
use Rattle.psi_replay.proofs.SetLemmas.{search_behind, search_before, search_found}
use Rattle.psi_replay.proofs.sets.holds_elsewhere.Goals as goal

pub returns-then-has_at : goal.returns-then-has_at
returns-then-has_at c = sym (has_at c.args.rows.now.states c.args.x.now _ (c.if-has_at.ensures refl))

pub loop-low-preserved-in-Less : goal.loop-low-preserved-in-Less
loop-low-preserved-in-Less c =
    let middle = c.middle_of-middle.result in
    let least = c.middle_of-middle.ensures.least in
    let below = c.middle_of-middle.ensures.most in
    let kept = c.loop-low.invariant in
    record {
      most = kept.most;
      between = λ k is.
          (let old = kept.between k is in
          let behind : middle < k = search_behind c.args.rows.now.states middle k c.args.x.now c.get.result c.requires c.get.ensures (sym c.cmp.ensures ∙ c.in-Less.is) is in
          let top : k < c.loop-low.high = old.1 in
          (omega arith, top));
    }

pub returns-in-Equal : goal.returns-in-Equal
returns-in-Equal c =
    sym (search_found c.args.rows.now.states c.middle_of-middle.result c.args.x.now c.get.result c.get.ensures (sym c.cmp.ensures ∙ c.in-Equal.is))

pub loop-low-preserved : goal.loop-low-preserved
loop-low-preserved c =
    let middle = c.middle_of-middle.result in
    let least = c.middle_of-middle.ensures.least in
    let below = c.middle_of-middle.ensures.most in
    let kept = c.loop-low.invariant in
    let most = kept.most in
    record {
      most = omega arith;
      between = λ k is.
          (let old = kept.between k is in
          (old.0, search_before c.args.rows.now.states middle k c.args.x.now c.get.result c.requires c.get.ensures (sym c.cmp.ensures ∙ c.in-Greater.is) is));
    }

pub returns : goal.returns
returns c =
    sym (has_none c.args.rows.now.states c.args.x.now (λ k is.
    (let old = c.loop-low.invariant.between k is in
    let first = old.0 in
    let second = old.1 in
    omega arith)))
