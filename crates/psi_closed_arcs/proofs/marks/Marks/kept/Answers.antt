-- Answers in the proof of `Marks::kept`.
use Rattle.std.proofs.Common.{arith, ◌≡◌, ◌+◌, true, sym, subst}
use Rattle.std.proofs.lemmas.Grind.{common_steps}
use Rattle.psi_closed_arcs.specs.declared.sums.Sums.{Sums}
use Rattle.psi_closed_arcs.specs.declared.windows.Window.{Window}
use Rattle.psi_closed_arcs.specs.Sums.{has}
use Rattle.psi_closed_arcs.specs.Windows.{IsWithin}
use Rattle.psi_closed_arcs.proofs.marks.Marks.kept.Goals as goal

pub returns-clause-arcs : goal.returns-clause-arcs
returns-clause-arcs c v =
    let led = c.windowed.ensures.arcs v in
    let own = c.requires.at.behind in
    let ahead = c.requires.at.ahead in (
      λ leads. (let parts = (c.and.ensures (c.args.before + v) leads.small).0 leads.there in
          let arc = led.0 (record { small = leads.small; there = parts.0 }) in
          record {
            there = arc.0;
            reached = grind (arith, common_steps, true);
          }),
      λ keeps. (let row = led.1 (keeps.there, subst (λ (w : Window). IsWithin w v) (sym c.requires.at.window) keeps.reached.allowed) in
          record {
            small = row.small;
            there = (c.and.ensures (c.args.before + v) row.small).1 (row.there, subst (λ (x : Sums). has x (c.args.before + v) ≡ true) (sym ahead) keeps.reached.ahead);
          }),
    )
