-- Answers in the proof of `Guarded::is_told`.
use Rattle.std.proofs.Common.{◌+◌, Bool, true, false, sym, ◌∙◌, subst}
use Rattle.psi_guard.proofs.TellingLemmas.{IsTelling, telling-start, telling-exact, telling-clipped, exact-by, clipped-by}
use Rattle.psi_guard.proofs.guarded.Guarded.is_told.Goals as goal
use Rattle.psi_guard.proofs.guarded.Guarded.is_told.Goals.{then-not-is_exact+else-is_one_clipped+else-not-is_clipped, else-not-is_exact}

pub loop-queue-init : goal.loop-queue-init
loop-queue-init c = telling-start c.args.self.now.caps c.args.self.now.parts

pub loop-queue-preserved : goal.loop-queue-preserved
loop-queue-preserved c =
    let event = c.args.self.now in
    let n = c.loop-queue.queue in
    elim c.if-not-is_exact.branch [
      | then-not-is_exact+else-is_one_clipped+else-not-is_clipped w ↦ subst (λ (b : Bool). IsTelling event.caps event.parts (n + 1) b) (sym w.is_one_clipped-is)
          (telling-clipped event.caps event.parts n
          (subst (λ (b : Bool). IsTelling event.caps event.parts n b) w.if-is_one_clipped.false c.loop-queue.invariant)
          (exact-by event.caps event.parts n c.get-cap.result c.part_of-part.result false c.get-cap.ensures c.part_of-part.ensures.value (sym c.is_exact.ensures ∙ w.if-not-is_exact.true))
          (clipped-by event.caps event.parts n c.get-cap.result c.part_of-part.result true c.get-cap.ensures c.part_of-part.ensures.value (sym w.is_clipped.ensures ∙ w.if-not-is_clipped.false)))
      | else-not-is_exact w ↦ subst (λ (b : Bool). IsTelling event.caps event.parts (n + 1) b) (sym w.is_one_clipped-is)
          (telling-exact event.caps event.parts n c.loop-queue.is_one_clipped c.loop-queue.invariant
          (exact-by event.caps event.parts n c.get-cap.result c.part_of-part.result true c.get-cap.ensures c.part_of-part.ensures.value (sym c.is_exact.ensures ∙ w.if-not-is_exact.false)))
    ]
