-- Answers in the proof of `row_list::put_four`.
use Rattle.std.proofs.Common.{arith, refl}
use Rattle.psi_log_format.proofs.RowsLemmas.{put_one}
use Rattle.psi_log_format.proofs.row_list.put_four.Goals as goal

pub returns-clause-front : goal.returns-clause-front
returns-clause-front c =
    let row = c.args.row.now in
    let least = c.requires.least in
    let first = put_one c.args.x.now c.set.new.self row 0 c.set.ensures (omega (arith, c.requires.count)) (omega arith) refl in
    let second = put_one c.set.new.self c.set-2.new.self row 1 c.set-2.ensures first.0 (omega arith) first.1 in
    let third = put_one c.set-2.new.self c.set-3.new.self row 2 c.set-3.ensures second.0 (omega arith) second.1 in
    (put_one c.set-3.new.self c.set-4.new.self row 3 c.set-4.ensures third.0 (omega arith) third.1).1
