-- Answers in the proof of `move_line::read_changes_onto`.
use Rattle.std.proofs.Common.{◌∙◌, ◌+◌, ◌<◌, ◌^◌, ap, length, refl, sym}
use Rattle.std.proofs.lemmas.List.{length-set}
use Rattle.psi_state.specs.State.{Corners}
use Rattle.psi_log_words.specs.ChangesViews.{change}
use Rattle.psi_log_scan.proofs.MoveLineLemmas.{moved_so_none, moved_so_more, moved_so_all}
use Rattle.psi_log_scan.proofs.move_line.read_changes_onto.Goals as goal

pub loop-init : goal.loop-init
loop-init c = record {
  count = c.requires.same;
  within = c.requires.within;
  moved = moved_so_none c.args.queues c.args.from.now c.args.text.now c.args.at;
}

pub loop-preserved : goal.loop-preserved
loop-preserved c =
    let low : c.in_ok-c.c.least < 2 ^ 16 = c.in_ok-c.ensures.range.0 in
    let high : c.in_ok-c.c.greatest < 2 ^ 16 = c.in_ok-c.ensures.range.1 in
    record {
      count = ap (λ (b : Corners). length b.lo) c.set.ensures ∙ length-set c.loop.to.lo c.in_ok-c.c.queue c.in_ok-c.c.least ∙ c.loop.invariant.count;
      within = c.in_ok-c.ensures.within;
      moved = moved_so_more c.args.queues c.args.from.now c.args.text.now c.args.at c.loop.end c.in_ok-c.after c.loop.next (c.in_ok-c.c.queue + 1) c.loop.to c.set.new.self (change c.in_ok-c.c)
          c.loop.invariant.moved (c.if-not-has_byte.ensures.there refl) c.in_ok-c.ensures.there c.in_ok-c.ensures.queue low high c.if-c-next.false
          (sym c.is_change.ensures ∙ c.if-not-is_change.false) c.set.ensures refl;
    }

pub returns-then-not-has_byte-clause-changes : goal.returns-then-not-has_byte-clause-changes
returns-then-not-has_byte-clause-changes c = moved_so_all c.args.queues c.args.from.now c.args.text.now c.args.at c.loop.end c.loop.next c.loop.to c.loop.invariant.moved

pub returns-clause-changes : goal.returns-clause-changes
returns-clause-changes c = moved_so_all c.args.queues c.args.from.now c.args.text.now c.args.at c.loop.end c.loop.next c.loop.to c.loop.invariant.moved
