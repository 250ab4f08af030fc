-- Answers in the proof of `extend`.
use Rattle.std.proofs.Common.{[], ◌∷◌, List, ℕ, sym, subst, refl}
use Rattle.psi_state.specs.Members.{In}
use Rattle.psi_state.specs.Ascending.{IsRising, HaveSame}
use Rattle.psi_pool.proofs.ListingLemmas.{rising-more}
use Rattle.psi_state.proofs.SameLemmas.{same-swap}
use Rattle.psi_pool.proofs.nodes.extend.Goals as goal

pub returns-in-Greater-clause-rising : goal.returns-in-Greater-clause-rising
returns-in-Greater-clause-rising c =
    subst (λ (xs : List (List ℕ)). IsRising xs) (sym c.push_reserved.ensures.items)
    (rising-more c.args.out.now.items c.args.x.now c.requires.rising
    (λ z member. c.in-Greater.ensures.above refl z (subst (λ (xs : List (List ℕ)). In z xs) (sym c.as_slice.ensures.value) member)))

pub returns-in-Greater-clause-listed : goal.returns-in-Greater-clause-listed
returns-in-Greater-clause-listed c = λ yes.
    subst (λ (xs : List (List ℕ)). HaveSame xs (c.args.x.now ∷ c.args.out.now.items)) (sym c.push_reserved.ensures.items)
    (same-swap c.args.out.now.items (c.args.x.now ∷ []))
