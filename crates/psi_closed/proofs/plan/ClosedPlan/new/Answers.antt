-- Answers in the proof of `ClosedPlan::new`.
use Rattle.std.proofs.Common.{◌≡◌, ℕ, ◌*◌, ◌^◌, ◌%◌, List, ap, sym, subst}
use Rattle.psi_rate.proofs.DoublingLemmas.{shift-power}
use Rattle.psi_rate.specs.Keeping.{KeepsNumbers}
use Rattle.psi_closed.specs.Diagram.{Shown, IsTotal}
use Rattle.psi_closed.specs.Planned.{AreMoves}
use Rattle.psi_state.specs.State.{AreCapacities}
use Rattle.psi_closed.proofs.plan.ClosedPlan.new.Goals as goal

pub invariant_of-result : goal.invariant_of-result
invariant_of-result g c =
    let caps = sym (ap (λ (s : Shown). s.caps) c.in_ok-diagram.ensures) in
    let total = sym (ap (λ (s : Shown). s.total) c.in_ok-diagram.ensures) in
    let most : 1 * 2 ^ c.args.limit % 4294967296 ≡ 2 ^ c.args.limit = shift-power c.args.limit c.requires.most_limit in
    record {
      valid = subst (λ (top : List ℕ). AreCapacities top) caps c.requires.valid;
      fits = subst (λ (top : List ℕ). IsTotal top c.in_ok-diagram.diagram.total) caps (subst (λ n. IsTotal c.args.caps n) total c.requires.fits);
      moves = subst (λ (top : List ℕ). AreMoves top c.args.moves.now) caps c.requires.moves;
      same_count = sym c.requires.same_count;
      most = c.requires.most_limit;
      kept = subst (λ n. KeepsNumbers c.args.wheel.now (g.P.Past.words c.args.past) n c.in_ok-numbers.numbers) most
          (c.in_ok-numbers.ensures c.args.wheel.now (g.P.Past.words c.args.past));
    }
