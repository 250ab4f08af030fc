-- Each place is put together with the other list's.
use Rattle.std.proofs.Common.{arith}
use Rattle.psi_report.specs.Joined.{joined_summary}
use Rattle.psi_report.proofs.PairLemmas.{paired_more}
use Rattle.psi_report.proofs.SmallLemmas.{small_read}
use Rattle.psi_report.proofs.summary.join_all.Goals as goal

pub joined-requires-clause-own : goal.joined-requires-clause-own
joined-requires-clause-own c =
    small_read (joined_summary c.args.count c.args.others) c.args.own.now.items c.loop-place.own.items c.args.other.now.items c.loop-place.place c.index.result.now
    c.requires.own c.loop-place.invariant (omega arith) c.index.ensures

pub loop-place-preserved : goal.loop-place-preserved
loop-place-preserved c =
    rw c.joined.ensures (paired_more (joined_summary c.args.count c.args.others) c.args.own.now.items c.loop-place.own.items c.args.other.now.items c.loop-place.place
    c.index.result.now c.index-in-loop-place.result.now (omega arith) (omega arith) c.loop-place.invariant c.index.ensures c.index-in-loop-place.ensures)
