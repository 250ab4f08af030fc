-- Answers in the proof of `EventTable::new`.
use Rattle.std.proofs.Common.{arith}
use Rattle.std.proofs.lemmas.Bool.{eqb-true}
use Rattle.std.proofs.lemmas.Grind.{common_steps}
use Rattle.psi_rate.proofs.EventTableLemmas.{shift-stretches}
use Rattle.psi_rate.proofs.event_table.EventTable.new.Goals as goal

pub entries-requires-clause-within : goal.entries-requires-clause-within
entries-requires-clause-within c = λ i small.
    (let within = c.requires.within i small in
    let cut = shift-stretches c.args.modulus c.requires.power.0 c.common_zeros-common.result c.saturating_sub-least.result c.max-shift.result c.requires.power.1
    c.ranges.modulus.fits c.common_zeros-common.ensures.bits c.common_zeros-common.ensures.modulus c.saturating_sub-least.ensures c.max-shift.ensures in
    let whole = cut.whole in omega arith)

pub overflow_sub-result : goal.overflow_sub-result
overflow_sub-result c =
    let cut = shift-stretches c.args.modulus c.requires.power.0 c.common_zeros-common.result c.saturating_sub-least.result c.max-shift.result c.requires.power.1
    c.ranges.modulus.fits c.common_zeros-common.ensures.bits c.common_zeros-common.ensures.modulus c.saturating_sub-least.ensures c.max-shift.ensures in
    cut.some

pub returns : goal.returns
returns c =
    let cut = shift-stretches c.args.modulus c.requires.power.0 c.common_zeros-common.result c.saturating_sub-least.result c.max-shift.result c.requires.power.1
    c.ranges.modulus.fits c.common_zeros-common.ensures.bits c.common_zeros-common.ensures.modulus c.saturating_sub-least.ensures c.max-shift.ensures in
    let made = c.in_ok-entries.ensures in
    record {
      table = grind (arith, common_steps, eqb-true);
    }
