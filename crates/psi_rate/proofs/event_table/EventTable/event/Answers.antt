-- Answers in the proof of `EventTable::event`.
use Rattle.std.proofs.Common.{◌%◌, ◌^◌, length, arith}
use Rattle.std.proofs.lemmas.Grind.{common_steps}
use Rattle.psi_rate.proofs.EventTableLemmas.{entry-first, first-event, stretch-start, word-number}
use Rattle.psi_rate.proofs.event_table.EventTable.event.Goals as goal

pub returns-then-self : goal.returns-then-self
returns-then-self c =
    let kept = c.requires.table in
    let table = c.args.self.now in
    first-event c.args.totals.now table.shift (c.args.word % c.args.modulus) c.index-entry.result.now (kept.multiples c.if-self.true)
    (entry-first c.args.totals.now table.entries.items c.args.modulus table.last table.shift c.args.word c.index-entry.result.now kept.exponent
    kept.count kept.places kept.stretches kept.first c.index-entry.ensures)

pub first_above-requires-clause-below : goal.first_above-requires-clause-below
first_above-requires-clause-below c = λ k small.
    (let kept = c.requires.table in
    let table = c.args.self.now in
    let entry = entry-first c.args.totals.now table.entries.items c.args.modulus table.last table.shift c.args.word c.index-entry.result.now kept.exponent
    kept.count kept.places kept.stretches kept.first c.index-entry.ensures in
    let under = entry.below k small in
    let start = stretch-start (c.args.word % c.args.modulus) (2 ^ table.shift) in
    let number = word-number c.args.word c.args.modulus (length table.entries.items) kept.exponent table.shift kept.count kept.stretches in
    omega arith)

pub returns-else-self : goal.returns-else-self
returns-else-self c = grind (arith, common_steps, word-number)
