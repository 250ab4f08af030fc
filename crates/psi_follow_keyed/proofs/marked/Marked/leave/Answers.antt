-- Answers in the proof of `Marked::leave`.
use Rattle.std.proofs.Common.{ℕ, List, slice_set, inl, inr, sym, ◌∙◌, subst, arith, refl}
use mir.Val.{bool_byte}
use Rattle.psi_follow_keyed.specs.Keys.{AreKeys}
use Rattle.psi_follow_keyed.proofs.MarkingLemmas.{keys-set, keys-beside, left-by}
use Rattle.psi_follow_keyed.proofs.marked.Marked.leave.Goals as goal

pub returns-then-place-lt32-clause-keys : goal.returns-then-place-lt32-clause-keys
returns-then-place-lt32-clause-keys c =
    let board = c.args.board.now in
    subst (λ (y : List ℕ). AreKeys board y (slice_set c.args.self.now.keys c.args.place c.key.result)) (sym c.set.ensures)
    (elim c.requires.place [
      | inl target ↦ keys-set board c.args.self.now.state c.args.self.now.keys c.args.place c.args.queue _ c.key.result c.requires.ranked c.requires.keys c.requires.within
          target.0 target.1 c.key.ensures
      | inr past ↦ (let far = past.0 in absurd (omega arith))
    ])

pub returns-else-place-lt32-clause-left : goal.returns-else-place-lt32-clause-left
returns-else-place-lt32-clause-left c =
    c.set.ensures ∙ left-by c.args.self.now.state c.args.queue c.args.least c.get-held.result bool_byte refl refl c.get-held.ensures

pub returns-else-place-lt32-clause-keys : goal.returns-else-place-lt32-clause-keys
returns-else-place-lt32-clause-keys c =
    let board = c.args.board.now in
    subst (λ (y : List ℕ). AreKeys board y c.args.self.now.keys) (sym c.set.ensures)
    (elim c.requires.place [
      | inl target ↦ (let few = c.requires.ranked.few in let small = target.0 in absurd (omega arith))
      | inr past ↦ keys-beside board c.args.self.now.state c.args.self.now.keys c.args.queue _ c.requires.keys past.1
    ])
