-- Answers in the proof of `top_of`.
use Rattle.std.proofs.Common.{◌≡◌, ◌<◌, ℕ, List, length, slice_index, ap, sym, ◌∙◌, subst, arith, length-set}
use Rattle.psi_exact.proofs.AlikeLemmas.{set-each}
use Rattle.psi_exact.proofs.alike.top_of.Goals as goal

pub loop-place-preserved : goal.loop-place-preserved
loop-place-preserved c =
    let old = c.loop-place.top in
    let place = c.loop-place.place in
    let span = c.args.span.now in
    let count = c.loop-place.invariant.same_length in
    record {
      same_length = ap (λ (xs : List ℕ). length xs) c.set.ensures ∙ (length-set {A = ℕ} old place c.top_at.result ∙ count);
      same = λ q small. subst (λ (xs : List ℕ). 0 < slice_index span q → slice_index xs q ≡ slice_index c.args.state.now q) (sym c.set.ensures)
          (set-each (λ k n. 0 < slice_index span k → n ≡ slice_index c.args.state.now k) old place c.top_at.result (omega arith) c.loop-place.invariant.same c.top_at.ensures.same q small);
      full = λ q small. subst (λ (xs : List ℕ). slice_index span q ≡ 0 → slice_index xs q ≡ slice_index c.args.caps.now q) (sym c.set.ensures)
          (set-each (λ k n. slice_index span k ≡ 0 → n ≡ slice_index c.args.caps.now k) old place c.top_at.result (omega arith) c.loop-place.invariant.full c.top_at.ensures.full q small);
    }
