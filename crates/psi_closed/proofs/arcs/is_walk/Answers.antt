-- Answers in the proof of `is_walk`.
use Rattle.std.proofs.Common.{◌≡◌, ◌≤◌, ◌<◌, ◌+◌, sym, ◌∙◌, length, arith}
use Rattle.std.proofs.lemmas.Bool.{false≢true, eqb-true, eq-eqb}
use Rattle.std.proofs.lemmas.Grind.{common_steps}
use Rattle.psi_closed_arcs.specs.Held.{Listed}
use Rattle.psi_closed.proofs.ArcsLemmas.{arc}
use Rattle.psi_closed.proofs.WalksLemmas.{held-total}
use Rattle.psi_closed.proofs.StatesLemmas.{customers-next, walk-listed, each-next, each-walk, walk-sum}
use Rattle.psi_closed.proofs.arcs.is_walk.Goals as goal

pub returns-then-not-has_arc : goal.returns-then-not-has_arc
returns-then-not-has_arc c = (
  λ no. absurd (false≢true no),
  λ held. (let place : c.loop-level.level < length c.args.state.now = omega arith in
      let listed = walk-listed c.args.arcs.now.arcs c.args.arcs.now.levels c.args.arcs.now.total c.args.state.now c.loop-level.level c.loop-level.before c.get-value.result
      held place c.loop-level.invariant.before c.get-value.ensures in
      absurd (false≢true (sym c.if-not-has_arc.true ∙ c.has_arc.ensures.1 listed))),
)

-- the arc is in range
small : (c : goal.Else-not-has_arc) → c.loop-level.before + c.get-value.result ≤ c.args.arcs.now.total
small c = (c.total-total.ensures.ranged (arc c.loop-level.level c.loop-level.before c.get-value.result) (c.has_arc.ensures.0 c.if-not-has_arc.false)).sum

pub overflow_add-before : goal.overflow_add-before
overflow_add-before c = (let sum = small c in omega arith)

pub loop-level-preserved : goal.loop-level-preserved
loop-level-preserved c =
    let state = c.args.state.now in
    let level = c.loop-level.level in
    record {
      before = customers-next state level c.loop-level.before c.get-value.result (omega arith) c.loop-level.invariant.before c.get-value.ensures;
      small = small c;
      each = grind (arith, common_steps, each-next);
    }

pub returns : goal.returns
returns c =
    let arcs = c.args.arcs.now in
    let state = c.args.state.now in
    let end : c.loop-level.level ≡ length state = omega arith in
    let total = c.total-total.ensures.value in (
      λ same. (let whole : c.loop-level.before ≡ c.total-total.result = eqb-true c.loop-level.before c.total-total.result same in
          each-walk arcs.arcs arcs.levels arcs.total state c.loop-level.level c.loop-level.before c.requires end c.loop-level.invariant.before (whole ∙ total)
          c.loop-level.invariant.each),
      λ held. (let sum = walk-sum arcs.arcs arcs.levels arcs.total state c.loop-level.level c.loop-level.before end c.loop-level.invariant.before
          (held-total (λ l s v. Listed arcs.arcs l s v) arcs.levels arcs.total state held) in
          eq-eqb c.loop-level.before c.total-total.result (sum ∙ sym total)),
    )
