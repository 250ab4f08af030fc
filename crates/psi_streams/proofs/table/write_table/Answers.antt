-- Answers in the proof of `table::write_table`.
use Rattle.std.proofs.Common.{ℕ, ◌≡◌, ◌+◌, ◌≤◌, List, [], refl, ap, sym, ◌∙◌, subst, arith}
use Rattle.std.specs.List.{list_all}
use Rattle.psi_log_writer.specs.Sending.{SinkState, IsSent, IsStopped}
use Rattle.psi_report.specs.Samples.{IsSampleOf}
use Rattle.psi_net_model.specs.Network.{Network}
use Rattle.psi_streams.specs.Reply.{is_met}
use Rattle.psi_streams.specs.Drawing.{all_drawn}
use Rattle.psi_streams.proofs.WritingLemmas.{met_more, match_err, line_same, text_until, sent_header, sent_row, stopped_row, sent_last, stopped_last}
use Rattle.psi_streams.proofs.table.write_table.Goals as goal

pub loop-i-init : goal.loop-i-init
loop-i-init g c =
    let t = c.args.tabling.now in
    record {
      same = refl;
      net = refl;
      seed = refl;
      steps = refl;
      met = refl;
      sent = sent_header t.steps t.net t.seed (g.S.Streams.drawn c.args.streams.now) c.args.first _ t.waits c.requires.begun;
    }

pub put-requires : goal.put-requires
put-requires g c =
    let same = ap g.S.Streams.network c.loop-i.invariant.same ∙ c.requires.network ∙ sym c.loop-i.invariant.net in
    subst (λ (net : Network). IsSampleOf net c.sample-outcome.result) same c.sample-outcome.ensures.counts

pub loop-i-preserved : goal.loop-i-preserved
loop-i-preserved g c =
    let t = c.args.tabling.now in
    let was = c.loop-i.invariant in
    let now = c.loop-i.tabling in
    let drawn = g.S.Streams.drawn c.args.streams.now in
    let stream = c.args.first + c.loop-i.i in
    let value : c.sample-outcome.result ≡ drawn stream = c.sample-outcome.ensures.value ∙ ap (λ s. g.S.Streams.drawn s stream) was.same in
    let line = line_same now.steps t.steps now.net t.net now.seed t.seed stream c.sample-outcome.result was.steps was.net was.seed in
    let sent = rw line at c.in_ok-put.ensures.sends in
    record {
      same = c.sample-outcome.ensures.same ∙ was.same;
      net = c.in_ok-put.ensures.net ∙ was.net;
      seed = c.in_ok-put.ensures.seed ∙ was.seed;
      steps = c.in_ok-put.ensures.steps ∙ was.steps;
      met = c.all_met-met.ensures ∙ met_more drawn c.args.first c.loop-i.i c.sample-outcome.result c.loop-i.met value was.met;
      sent = sent_row t.steps t.net t.seed drawn c.args.first _ _ _ now.waits c.put.new.self.waits c.loop-i.i c.sample-outcome.result value was.sent sent;
    }

pub returns-in_err-put : goal.returns-in_err-put
returns-in_err-put g c =
    let t = c.args.tabling.now in
    let was = c.loop-i.invariant in
    let now = c.loop-i.tabling in
    let drawn = g.S.Streams.drawn c.args.streams.now in
    let stream = c.args.first + c.loop-i.i in
    let value : c.sample-outcome.result ≡ drawn stream = c.sample-outcome.ensures.value ∙ ap (λ s. g.S.Streams.drawn s stream) was.same in
    let line = line_same now.steps t.steps now.net t.net now.seed t.seed stream c.sample-outcome.result was.steps was.net was.seed in
    let stopped = rw line at c.in_err-put.ensures.sends in
    let few : c.loop-i.i + 1 ≤ c.args.count = omega arith in
    match_err c.from_residual.result _ _ c.from_residual.ensures.0
    (stopped_row t.steps t.net t.seed drawn c.args.first _ _ _ now.waits c.loop-i.i c.args.count c.sample-outcome.result value few was.sent stopped)

pub returns-in_err-flush : goal.returns-in_err-flush
returns-in_err-flush g c =
    let t = c.args.tabling.now in
    let drawn = g.S.Streams.drawn c.args.streams.now in
    let text = text_until t.steps t.net t.seed drawn c.args.first in
    let all : c.loop-i.i ≡ c.args.count = omega arith in
    let first : SinkState = record { held = g.O.Sink.held c.args.out.now; took = g.O.Sink.took c.args.out.now; faults = g.O.Sink.faults c.args.out.now; takes = g.O.Sink.takes c.args.out.now } in
    let last : SinkState = record { held = g.O.Sink.held c.flush.new.out; took = g.O.Sink.took c.flush.new.out; faults = g.O.Sink.faults c.flush.new.out; takes = g.O.Sink.takes c.flush.new.out } in
    let stopped = stopped_last first _ last c.loop-i.tabling.waits (text c.loop-i.i) c.loop-i.invariant.sent c.in_err-flush.ensures.sent in
    match_err c.from_residual-in_err-flush.result _ _ c.from_residual-in_err-flush.ensures.0 (subst (λ n. IsStopped first last (text n)) all stopped)

pub returns : goal.returns
returns g c =
    let t = c.args.tabling.now in
    let drawn = g.S.Streams.drawn c.args.streams.now in
    let text = text_until t.steps t.net t.seed drawn c.args.first in
    let all : c.loop-i.i ≡ c.args.count = omega arith in
    let first : SinkState = record { held = g.O.Sink.held c.args.out.now; took = g.O.Sink.took c.args.out.now; faults = g.O.Sink.faults c.args.out.now; takes = g.O.Sink.takes c.args.out.now } in
    let before : SinkState = record { held = g.O.Sink.held c.loop-i.out; took = g.O.Sink.took c.loop-i.out; faults = g.O.Sink.faults c.loop-i.out; takes = g.O.Sink.takes c.loop-i.out } in
    let last : SinkState = record { held = g.O.Sink.held c.flush.new.out; took = g.O.Sink.took c.flush.new.out; faults = g.O.Sink.faults c.flush.new.out; takes = g.O.Sink.takes c.flush.new.out } in
    let waits = c.loop-i.tabling.waits in
    let flushed : IsSent before last [] waits = subst (λ (xs : List ℕ). IsSent before last xs waits) c.in_ok-flush.ensures.none c.in_ok-flush.ensures.sent in
    let sent = sent_last first before last waits (text c.loop-i.i) c.loop-i.invariant.sent flushed in (
      c.loop-i.invariant.met ∙ ap (λ n. list_all is_met (all_drawn drawn c.args.first n)) all,
      subst (λ n. IsSent first last [] (text n)) all sent,
    )
