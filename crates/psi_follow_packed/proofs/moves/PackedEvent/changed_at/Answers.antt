use Rattle.std.proofs.Common.{ap, not, nat_eq, ℕ}
use Rattle.psi_follow_packed.proofs.PairingLemmas.{low-at, high-at, changed-both, changed-once}
use Rattle.psi_follow_packed.proofs.moves.PackedEvent.changed_at.Goals as goal

pub returns-then-this-ne0-clause-low : goal.returns-then-this-ne0-clause-low
returns-then-this-ne0-clause-low g c =
    changed-both _ _ _ _ _ _ _ _ _ _ _ c.plus.ensures.low c.plus-changed.ensures.low c.and.ensures.low (low-at c.args.self.now.first.change.pairs c.args.at) c.and-then-this-ne0.ensures.low
    (low-at c.args.self.now.second.change.pairs c.args.at)

pub returns-then-this-ne0-clause-high : goal.returns-then-this-ne0-clause-high
returns-then-this-ne0-clause-high g c =
    changed-both _ _ _ _ _ _ _ _ _ _ _ c.plus.ensures.high c.plus-changed.ensures.high c.and.ensures.high (high-at c.args.self.now.first.change.pairs c.args.at) c.and-then-this-ne0.ensures.high
    (high-at c.args.self.now.second.change.pairs c.args.at)

pub returns-clause-low : goal.returns-clause-low
returns-clause-low g c =
    changed-once _ _ _ _ _ _ _ _ c.plus-changed.ensures.low c.and.ensures.low (low-at c.args.self.now.first.change.pairs c.args.at)
    (c.requires.low (ap (λ (n : ℕ). not (nat_eq n 0)) c.if-this-ne0.false))

pub returns-clause-high : goal.returns-clause-high
returns-clause-high g c =
    changed-once _ _ _ _ _ _ _ _ c.plus-changed.ensures.high c.and.ensures.high (high-at c.args.self.now.first.change.pairs c.args.at)
    (c.requires.high (ap (λ (n : ℕ). not (nat_eq n 0)) c.if-this-ne0.false))
