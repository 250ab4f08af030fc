-- Answers in the proof of `Bounds::apart`.
use Rattle.std.specs.Prelude.{◌==◌, ◌&&◌, ℕ, Bool, slice_index}
use Rattle.std.proofs.Common.{arith}
use Rattle.psi_state.proofs.ComparingLemmas.{not-both, both-hold, set-told, set-rest, same-told}
use Rattle.psi_state.proofs.bounds.Bounds.apart.Goals as goal
use Rattle.psi_state.proofs.bounds.Bounds.apart.Goals.{then-lo-i, else-lo-i}

pub loop-i-preserved : goal.loop-i-preserved
loop-i-preserved c =
    let same : ℕ → Bool = (λ k. slice_index c.padded-lo.result k == slice_index c.padded-others_lo.result k && slice_index c.padded-hi.result k == slice_index c.padded-others_hi.result k) in
    let l = c.loop-i in
    elim c.if-lo-i.branch [
      | then-lo-i w ↦ (let apart = not-both _ _ w.if-lo-i.true in rw w.apart-is (record {
        told = set-told same l.apart l.i c.loop-i-test.true l.invariant.told l.invariant.rest apart;
        rest = set-rest same l.apart l.i c.loop-i-test.true l.invariant.told l.invariant.rest;
      }))
      | else-lo-i w ↦ (let alike = both-hold _ _ w.if-lo-i.false in rw w.apart-is (record {
        told = same-told same l.apart l.i c.loop-i-test.true l.invariant.told l.invariant.rest alike;
        rest = (λ k above. l.invariant.rest k (omega arith));
      }))
    ]
