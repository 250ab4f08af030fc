-- The words of a window are those of its times.
use Rattle.std.specs.Prelude.{ℕ, ◌+◌, ◌-◌, ◌≤◌, length}
use Rattle.std.proofs.Common.{sym, ◌∙◌, subst, rules}
use Rattle.psi_past.specs.Filled.{AreWordsFrom}
use Rattle.psi_path.specs.Path.{first_place}
use Rattle.psi_path_table.proofs.visits.Visits.finish.Goals as goal

pub follow-requires : goal.follow-requires
unfolding first_place
follow-requires g c =
    let left = c.loop-self.self.left in
    let few : length c.fill.new.out ≤ left = search rules in
    let words = c.loop-self.invariant.words ∙ sym c.requires.1.1.1.0 in
    let filled : AreWordsFrom g.trail.words (first_place + (g.trail.steps - left)) c.fill.new.out =
    subst (λ (w : ℕ → ℕ). AreWordsFrom w (first_place + (g.trail.steps - left)) c.fill.new.out) words
    (subst (λ (n : ℕ). AreWordsFrom (g.P.Past.words c.loop-self.past) (first_place + (n - left)) c.fill.new.out) (sym c.requires.1.1.1.1.0) c.fill.ensures.filled) in
    (c.requires.1.1.0 ∙ sym c.wheel-wheel.ensures, (filled, (few, c.loop-self.invariant.stands)))
