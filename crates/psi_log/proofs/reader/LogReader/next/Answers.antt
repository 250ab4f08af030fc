-- Answers in the proof of `LogReader::next`.
use Rattle.std.specs.Prelude.{◌<◌}
use Rattle.std.proofs.Common.{ap, sym, subst}
use Rattle.psi_log.specs.Cursor.{Cursor, IsCursor}
use Rattle.psi_log.proofs.ReaderLemmas.{stays_kept, moves_kept}
use Rattle.psi_log.proofs.reader.LogReader.next.Goals.{then-not-read, else-not-read}
use Rattle.psi_log.proofs.reader.LogReader.next.Goals as goal

pub invariant_of-self-then-not-read : goal.invariant_of-self-then-not-read
invariant_of-self-then-not-read c =
    let old = c.self.inside in
    let small = subst (λ (k : Cursor). k.done < k.header.horizon) (sym c.self.view_is) c.requires in
    moves_kept old.header old.done old.rest.now c.in-Ok.read.rest.now old.slot.value old.spare.value old.stays c.self.invariant small c.in-Ok.read.step c.deref.result.now c.read_onto.new.to
    c.swap.new.x.value c.swap.new.y.value c.in-Ok.read.stays c.deref.ensures (ap (λ b. b.value) c.swap.ensures.x_after) (ap (λ b. b.value) c.swap.ensures.y_after) c.if-not-read.true
    c.in-Ok.ensures.filled c.in-Ok.ensures.value

pub returns-clause-cursor : goal.returns-clause-cursor
returns-clause-cursor c =
    let old = c.self.inside in
    let small = subst (λ (k : Cursor). k.done < k.header.horizon) (sym c.self.view_is) c.requires in
    elim c.if-not-read.branch [
      | then-not-read w ↦ subst (λ (k : Cursor). IsCursor k) (sym w.self-is)
          (moves_kept old.header old.done old.rest.now c.in-Ok.read.rest.now old.slot.value old.spare.value old.stays c.self.invariant small c.in-Ok.read.step c.deref.result.now c.read_onto.new.to
          w.swap.new.x.value w.swap.new.y.value c.in-Ok.read.stays c.deref.ensures (ap (λ b. b.value) w.swap.ensures.x_after) (ap (λ b. b.value) w.swap.ensures.y_after) w.if-not-read.true
          c.in-Ok.ensures.filled c.in-Ok.ensures.value).cursor
      | else-not-read w ↦ subst (λ (k : Cursor). IsCursor k) (sym w.self-is)
          (stays_kept old.header old.done old.rest.now c.in-Ok.read.rest.now old.slot.value old.spare.value old.stays c.self.invariant small c.read_onto.new.to c.in-Ok.read.stays
          w.if-not-read.false c.in-Ok.ensures.queues).cursor
    ]
