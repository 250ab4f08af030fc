-- Answers in the proof of `following`.
use Rattle.std.specs.Prelude.{◌≡◌, ℕ, List, ◌∷◌, ◌+◌, ◌-◌, suc, slice_index}
use Rattle.std.proofs.Common.{ap, sym, ◌∙◌, subst, arith}
use Rattle.psi_state.specs.Listing.{onward}
use Rattle.psi_state.proofs.OdometerLemmas.{IsTurned, turned-raised, turned-last}
use Rattle.psi_state.proofs.states.following.Goals as goal

pub returns-then-number-get-clause-rest : goal.returns-then-number-get-clause-rest
returns-then-number-get-clause-rest c =
    let high : slice_index c.hi-hi.result (c.loop-place.place - 1) ≡ slice_index c.args.bounds.now.hi (c.loop-place.place - 1) =
    ap (λ (h : List ℕ). slice_index h (c.loop-place.place - 1)) c.hi-hi.ensures.value in
    let number : c.get-number.result + 1 ≡ suc (slice_index c.args.x (c.loop-place.place - 1)) = omega arith in
    turned-raised c.args.bounds.now.lo c.args.bounds.now.hi c.args.x c.loop-place.next c.loop-place.place (c.get-number.result + 1)
    c.requires (omega arith) (omega arith) (omega arith) number c.loop-place.invariant.turned
    ∙ ap (λ (y : List ℕ). c.args.x ∷ onward c.args.bounds.now.lo c.args.bounds.now.hi y) (sym c.set.ensures)

pub returns-clause-rest : goal.returns-clause-rest
returns-clause-rest c =
    let end : c.loop-place.place ≡ 0 = omega arith in
    turned-last c.args.bounds.now.lo c.args.bounds.now.hi c.args.x c.loop-place.next c.requires
    (subst (λ n. IsTurned c.args.bounds.now.lo c.args.bounds.now.hi c.args.x c.loop-place.next n) end c.loop-place.invariant.turned)
