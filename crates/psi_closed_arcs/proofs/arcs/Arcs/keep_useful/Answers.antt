-- Answers in the proof of `Arcs::keep_useful`.
use Rattle.std.proofs.Common.{◌≡◌, ◌+◌, ◌-◌, ◌↔◌, ℕ, suc, true, ◌∙◌, subst, sym, arith}
use Rattle.psi_closed_arcs.specs.Sums.{has}
use Rattle.psi_closed_arcs.specs.Walks.{Before, After, Useful}
use Rattle.psi_closed_arcs.specs.Held.{Listed}
use Rattle.psi_closed_arcs.specs.Joining.{Only}
use Rattle.psi_closed_arcs.specs.Windows.{Allows}
use Rattle.psi_closed_arcs.proofs.RowsLemmas.{arc_of}
use Rattle.psi_closed_arcs.proofs.WalksLemmas.{before-zero, after-end, useful-map}
use Rattle.psi_closed_arcs.proofs.MarkedLemmas.{tells-useful}
use Rattle.psi_closed_arcs.proofs.PuttingLemmas.{done-more, done-next, done-all, iff-trans, keeps-at, keeps-useful}
use Rattle.psi_closed_arcs.proofs.arcs.Arcs.keep_useful.Goals as goal

pub mark-requires-clause-first : goal.mark-requires-clause-first
mark-requires-clause-first c l s v above below listed =
    let range = c.total-total.ensures.ranged (arc_of l s v) listed in
    let sum = range.sum in
    let few = c.total-total.ensures.small in
    let e : 0 ≡ l = omega arith in
    subst (λ k. (has c.of.result s ≡ true) ↔ Before (Only (Listed c.args.self.now.arcs) (Allows c.any.result)) k s) e
    (iff-trans (c.of.ensures s (omega arith)) (before-zero (Only (Listed c.args.self.now.arcs) (Allows c.any.result)) s))

pub mark-requires-clause-last : goal.mark-requires-clause-last
mark-requires-clause-last c l s v above below listed =
    let first = c.args.self.now in
    let range = c.total-total.ensures.ranged (arc_of l s v) listed in
    let sum = range.sum in
    let few = c.total-total.ensures.small in
    let value = c.total-total.ensures.value in
    let some = c.levels-last.ensures.some in
    let count = c.levels-last.ensures.value in
    let last : first.levels ≡ suc l = omega arith in
    let told = c.of-2.ensures (s + v) (omega arith) in
    let after = after-end (Only (Listed first.arcs) (Allows c.any.result)) first.levels first.total (s + v) in
    subst (λ k. (has c.of-2.result (s + v) ≡ true) ↔ After (Only (Listed first.arcs) (Allows c.any.result)) first.levels first.total k (s + v)) last
    (λ given. after.0 (told.0 given ∙ value), λ reached. told.1 (after.1 reached ∙ sym value))

pub loop-level-preserved : goal.loop-level-preserved
loop-level-preserved c =
    let first = c.args.self.now in
    let inv = c.loop-level.invariant in
    let test = c.loop-level-test.true in
    let P : ℕ → ℕ → Type 0 = λ _ _. Unit {0} in
    let told = tells-useful first.arcs c.any.result first.levels first.total c.total-total.ensures.ranged c.total-total.ensures.small 0 (c.levels-last.result - 1) c.mark.new.self P
    c.mark.ensures.marked c.mark.ensures.rule (λ i w small. (λ _. tt, λ _. c.any.ensures i w small)) in
    record {
      levels = c.keep_level.ensures.levels ∙ inv.levels;
      total = c.keep_level.ensures.total ∙ inv.total;
      done = done-more 0 (Useful (Listed first.arcs) first.levels first.total) first.arcs c.loop-level.self.arcs c.keep_level.new.self.arcs c.loop-level.level inv.done (omega arith)
          (λ s v. iff-trans (c.keep_level.ensures.own s v) (iff-trans
          (keeps-at (Listed c.loop-level.self.arcs) (Listed first.arcs) c.mark.new.self c.loop-level.level s v
          (done-next 0 (Useful (Listed first.arcs) first.levels first.total) first.arcs c.loop-level.self.arcs c.loop-level.level inv.done s v))
          (iff-trans (keeps-useful (Listed first.arcs) first.levels first.total 0 (c.levels-last.result - 1) P c.mark.new.self told c.loop-level.level s v (omega arith) (omega arith)) (
            λ useful. useful-map (Only (Listed first.arcs) P) (Listed first.arcs) (λ i j w both. both.0) first.levels first.total c.loop-level.level s v useful,
            λ useful. useful-map (Listed first.arcs) (Only (Listed first.arcs) P) (λ i j w listed. (listed, tt)) first.levels first.total c.loop-level.level s v useful,
          ))))
          c.keep_level.ensures.others;
    }

pub returns-clause-arcs : goal.returns-clause-arcs
returns-clause-arcs c =
    let first = c.args.self.now in
    let test = c.loop-level-test.false in
    let some = c.levels-last.ensures.some in
    let count = c.levels-last.ensures.value in
    done-all (Useful (Listed first.arcs) first.levels first.total) first.arcs c.loop-level.self.arcs c.loop-level.level c.loop-level.invariant.done
    (λ l s v member. (let place = (c.total-total.ensures.ranged (arc_of l s v) member).place in omega arith))
    (λ l s v useful. (let place = (c.total-total.ensures.ranged (arc_of l s v) useful.arc).place in omega arith))
