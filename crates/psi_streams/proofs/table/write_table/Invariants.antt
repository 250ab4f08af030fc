-- Invariants of the loops of `table::write_table`.
use Rattle.std.proofs.Common.{◌≡◌}
use Rattle.std.specs.List.{list_all}
use Rattle.psi_log_writer.specs.Sending.{IsSent}
use Rattle.psi_table.specs.Paths.{text_of_kind}
use Rattle.psi_streams.specs.Reply.{is_met}
use Rattle.psi_streams.specs.Drawing.{all_drawn}
use Rattle.psi_streams.proofs.table.write_table.Given as goal

-- the streams are as they were, and the table of those before this one is taken by the sink or waits
abbrev pub invariant-loop-i : goal.invariant-loop-i
invariant-loop-i g l = record {
  same : l.streams ≡ l.fn.streams;
  net : l.tabling.net ≡ l.fn.tabling.net;
  seed : l.tabling.seed ≡ l.fn.tabling.seed;
  steps : l.tabling.steps ≡ l.fn.tabling.steps;
  met : l.met ≡ list_all is_met (all_drawn (g.S.Streams.drawn l.fn.streams) l.first l.i);
  sent : IsSent
      (record { held = g.O.Sink.held l.fn.out; took = g.O.Sink.took l.fn.out; faults = g.O.Sink.faults l.fn.out; takes = g.O.Sink.takes l.fn.out })
      (record { held = g.O.Sink.held l.out; took = g.O.Sink.took l.out; faults = g.O.Sink.faults l.out; takes = g.O.Sink.takes l.out })
      l.tabling.waits (text_of_kind l.fn.tabling.steps l.fn.tabling.net l.fn.tabling.seed l.first (all_drawn (g.S.Streams.drawn l.fn.streams) l.first l.i));
}
