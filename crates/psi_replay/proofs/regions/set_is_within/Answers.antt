-- Answers in the proof of `regions::set_is_within`.
use Rattle.std.proofs.Common.{sym, ◌∙◌}
use Rattle.psi_replay.proofs.RegionLemmas.{low_within, within_more, within_fails}
use Rattle.psi_replay.proofs.regions.set_is_within.Goals as goal

pub returns-then-are_at_most : goal.returns-then-are_at_most
returns-then-are_at_most c =
    sym (low_within c.args.caps.now c.args.rows.now.states c.least_room.result c.requires c.least_room.ensures (sym c.are_at_most.ensures ∙ c.if-are_at_most.true))

pub returns-then-not-leq : goal.returns-then-not-leq
returns-then-not-leq c = within_fails c.args.caps.now c.args.rows.now.states c.loop-place.place c.leq.result _ c.leq.ensures c.if-not-leq.true c.loop-place.invariant

pub loop-place-preserved : goal.loop-place-preserved
loop-place-preserved c = within_more c.args.caps.now c.args.rows.now.states c.loop-place.place c.leq.result _ c.leq.ensures c.if-not-leq.false c.loop-place.invariant
