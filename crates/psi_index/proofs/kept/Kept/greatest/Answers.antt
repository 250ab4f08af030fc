-- Answers in the proof of `Kept::greatest`.
use Rattle.std.proofs.Common.{ℕ, ◌+◌, List, length, ap, slice_index, ◌∙◌, arith}
use Rattle.std.proofs.lemmas.List.{get_or-map}
use Rattle.psi_index.specs.Extremes.{complement, greatest_of, least_of, stretch}
use Rattle.psi_index.proofs.JoiningLemmas.{greatest-complements}
use Rattle.psi_index.proofs.RisingLemmas.{rising-order, rising-greatest}
use Rattle.psi_index.proofs.kept.Kept.greatest.Goals as goal

pub returns-then-self-clause-value : goal.returns-then-self-clause-value
returns-then-self-clause-value c =
    let rising = rw c.self.view_is at (c.self.invariant.0.risen.0 c.if-self.true) in
    c.at.ensures ∙ rising-greatest c.args.self.now c.args.from c.args.to rising c.requires.ordered c.requires.within

pub returns-then-self-clause-above : goal.returns-then-self-clause-above
returns-then-self-clause-above c = λ k low high.
    let rising = rw c.self.view_is at (c.self.invariant.0.risen.0 c.if-self.true) in
    let order = rising-order c.args.self.now k c.args.to rising high (omega arith) in
    omega (arith, c.at.ensures)

pub returns-clause-value : goal.returns-clause-value
returns-clause-value c =
    let turn = c.deref.ensures.value ∙ c.self.invariant.0.turned c.if-self.false in
    let count = ap (λ (xs : List ℕ). length xs) c.self.view_is in
    let least = c.least_within.ensures.value ∙ ap (λ (xs : List ℕ). least_of (stretch xs c.args.from c.args.to)) turn in
    let whole = greatest-complements c.self.inside.values.items c.args.from (c.args.to + 1) c.self.invariant.0.valid (omega arith) (omega arith) in
    let same = ap (λ (xs : List ℕ). greatest_of (stretch xs c.args.from c.args.to)) c.self.view_is in
    omega arith

pub returns-clause-above : goal.returns-clause-above
returns-clause-above c = λ k low high.
    let count = ap (λ (xs : List ℕ). length xs) c.self.view_is in
    let below = c.least_within.ensures.least.below k low (omega arith) in
    let turned = ap (λ (xs : List ℕ). slice_index xs k) (c.deref.ensures.value ∙ c.self.invariant.0.turned c.if-self.false)
    ∙ get_or-map complement c.self.inside.values.items k 0 0 (omega arith) in
    let same = ap (λ (xs : List ℕ). slice_index xs k) c.self.view_is in
    let fits = c.self.invariant.0.valid.each k in
    omega arith
