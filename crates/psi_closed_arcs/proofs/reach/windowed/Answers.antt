-- Answers in the proof of `windowed`.
use Rattle.std.proofs.Common.{◌+◌, arith}
use Rattle.psi_closed_arcs.proofs.reach.windowed.Goals as goal

pub returns-clause-arcs : goal.returns-clause-arcs
returns-clause-arcs c v =
    let row = c.row-row.ensures.arcs v in (
      λ leads. (let fewer = (c.with_fewer.ensures (c.args.before + v) leads.small).0 leads.there in
          let least = (c.with_least-least.ensures (c.args.before + v) leads.small).0 fewer.0 in
          let low = least.1 in
          let high = fewer.1 in
          (row.0 (record { small = leads.small; there = least.0 }), record { low = omega arith; high = omega arith })),
      λ both. (let led = row.1 both.0 in
          let low = both.1.low in
          let high = both.1.high in
          record {
            small = led.small;
            there = (c.with_fewer.ensures (c.args.before + v) led.small).1 ((c.with_least-least.ensures (c.args.before + v) led.small).1 (led.there, omega arith), omega arith);
          }),
    )
