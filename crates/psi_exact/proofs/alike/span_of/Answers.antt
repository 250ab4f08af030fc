-- Answers in the proof of `span_of`.
use Rattle.std.proofs.Common.{ℕ, List, length, slice_index, ap, sym, ◌∙◌, subst, arith, length-set}
use Rattle.psi_exact.specs.Alike.{IsSpanned}
use Rattle.psi_exact.proofs.AlikeLemmas.{set-each}
use Rattle.psi_exact.proofs.alike.span_of.Goals as goal

pub loop-place-preserved : goal.loop-place-preserved
loop-place-preserved g c =
    let caps = g.E.EventLaw.capacities c.args.e.now in
    let f = g.E.EventLaw.function c.args.e.now in
    let old = c.loop-place.span in
    let place = c.loop-place.place in
    let count = c.loop-place.invariant.same_length in
    let first = c.len-place-end.ensures.value in
    let own = ap (λ (xs : List ℕ). length xs) c.caps-span.ensures.value in
    record {
      same_length = ap (λ (xs : List ℕ). length xs) c.set.ensures ∙ (length-set {A = ℕ} old place c.spanned.result ∙ count);
      done = λ q small. subst (λ (xs : List ℕ). IsSpanned caps f q (slice_index xs q)) (sym c.set.ensures)
          (set-each (λ k v. IsSpanned caps f k v) old place c.spanned.result (omega arith) c.loop-place.invariant.done c.spanned.ensures q small);
    }
