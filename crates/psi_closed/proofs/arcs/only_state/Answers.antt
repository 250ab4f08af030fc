-- Answers in the proof of `only_state`.
use Rattle.std.proofs.Common.{◌≡◌, ◌<◌, ◌+◌, ℕ, List, ◌∙◌, ap, sym, subst, length, slice_index, arith, length-set}
use Rattle.std.proofs.lemmas.Grind.{common_steps}
use Rattle.psi_closed.proofs.StatesLemmas.{IsFront, state-listed, front-next, fronts-single, forked-none, forked-more}
use Rattle.psi_closed.proofs.arcs.only_state.Goals as goal

pub only_value-requires-clause-some : goal.only_value-requires-clause-some
only_value-requires-clause-some c =
    let arcs = c.args.arcs.now in
    let held = c.requires.some in
    record {
      own = slice_index held.0 c.loop-level.level;
      there = state-listed c.args.caps.now arcs.total arcs.arcs held.0 c.loop-level.level c.loop-level.before held.1 (omega arith) (c.loop-level.invariant.front held.0 held.1).sum;
    }

pub returns-in_err-value-clause-value : goal.returns-in_err-value-clause-value
returns-in_err-value-clause-value c = grind (arith, common_steps, forked-none)

pub returns-in_err-value-clause-more : goal.returns-in_err-value-clause-more
returns-in_err-value-clause-more c = grind (arith, common_steps, forked-more)

pub overflow_add-before : goal.overflow_add-before
overflow_add-before c = (let sum = c.in_ok-value.ensures.sum in omega arith)

pub loop-level-preserved : goal.loop-level-preserved
loop-level-preserved c =
    let arcs = c.args.arcs.now in
    let caps = c.args.caps.now in
    let level = c.loop-level.level in
    let place : level < length caps = omega arith in
    record {
      long = ap (λ (xs : List ℕ). length xs) c.set.ensures ∙ (length-set c.loop-level.state level c.in_ok-value.value ∙ c.loop-level.invariant.long);
      small = c.in_ok-value.ensures.sum;
      front = λ y member. subst (λ (xs : List ℕ). IsFront xs y (level + 1) (c.loop-level.before + c.in_ok-value.value)) (sym c.set.ensures)
          (front-next caps arcs.total arcs.arcs c.loop-level.state y level c.loop-level.before c.in_ok-value.value member c.loop-level.invariant.long
          place c.in_ok-value.ensures.value (c.loop-level.invariant.front y member));
    }

pub returns-clause-value : goal.returns-clause-value
returns-clause-value c =
    let arcs = c.args.arcs.now in
    let end : c.loop-level.level ≡ length c.args.caps.now = omega arith in
    fronts-single c.args.caps.now arcs.total arcs.arcs c.loop-level.state c.loop-level.level c.loop-level.before c.requires.some c.loop-level.invariant.long end
    c.loop-level.invariant.front
