-- Answers in the proof of `write_lines`.
use Rattle.std.proofs.Common.{suc, [], ◌++◌, refl, sym, ◌∙◌, subst, add-one, arith}
use Rattle.psi_log_format.specs.Text.{log_text}
use Rattle.psi_log_writer.specs.Recorded.{log_of}
use Rattle.psi_log_writer.specs.Walking.{line_in, text_in, IsWalking}
use Rattle.psi_log_writer.specs.Sending.{SinkState, IsSent}
use Rattle.psi_log_writer.proofs.WalkingLemmas.{line-same}
use Rattle.psi_log_writer.proofs.TextLemmas.{text-none, text-more, text-whole, text-rest}
use Rattle.psi_log_writer.proofs.SendingLemmas.{sent-none, sent-on, sent-next, stopped-on, sends-stopped, sends-last}
use Rattle.psi_log_writer.proofs.writing.write_lines.Goals as goal

pub loop-place-init : goal.loop-place-init
loop-place-init g c =
    let system = c.args.plan.now.system in
    let words = g.P.Past.words c.args.plan.now.past in
    record {
      walk = record { begun = λ low high. absurd (omega arith); region = λ low high. absurd (omega arith) };
      system = refl;
      words = refl;
      sent = sent-none _ c.clear.new.self c.clear-2.new.self (text_in g.E.EventLaw.function system words c.args.header.now c.args.state.now 0) c.clear.ensures c.clear-2.ensures
          (text-none g.E.EventLaw.function system words c.args.header.now c.args.state.now);
    }

pub returns-in_err-pass_on-clause-sent : goal.returns-in_err-pass_on-clause-sent
returns-in_err-pass_on-clause-sent g c =
    let system = c.args.plan.now.system in
    let words = g.P.Past.words c.args.plan.now.past in
    let h = c.args.header.now in
    let state = c.args.state.now in
    let text = log_text (log_of g.E.EventLaw.function system words h state) in
    let place = c.loop-place.place in
    let rest = text-rest g.E.EventLaw.function system words h state place c.requires.version (omega arith) in
    sends-stopped c.from_residual.result _ _ [] text c.from_residual.ensures.0
    (stopped-on _ _ _ (c.loop-place.block ++ c.loop-place.line) (text_in g.E.EventLaw.function system words h state place) rest.0 text rest.1 c.loop-place.invariant.sent
    c.in_err-pass_on.ensures.sent)

pub loop-place-preserved : goal.loop-place-preserved
loop-place-preserved g c =
    let kept = c.loop-place.invariant in
    let held = c.pass_on.new.line in
    let block = c.pass_on.new.block in
    let out = c.pass_on.new.out in
    let first : SinkState = record { held = g.O.Sink.held c.args.out.now; took = g.O.Sink.took c.args.out.now; faults = g.O.Sink.faults c.args.out.now; takes = g.O.Sink.takes c.args.out.now } in
    let last : SinkState = record { held = g.O.Sink.held out; took = g.O.Sink.took out; faults = g.O.Sink.faults out; takes = g.O.Sink.takes out } in
    let place = c.loop-place.place in
    let h = c.args.header.now in
    let state = c.args.state.now in
    let system = c.args.plan.now.system in
    let words = g.P.Past.words c.args.plan.now.past in
    let text = text_in g.E.EventLaw.function system words h state place in
    let line = line-same g.E.EventLaw.function _ system _ words h state place held c.next_line.new.line kept.system kept.words c.next_line.ensures.line in
    record {
      walk = subst (λ n. IsWalking g.E.EventLaw.function g.P.Past.words c.next_line.new.plan h.horizon n c.next_line.new.told) (sym (add-one place)) c.next_line.ensures.walking;
      system = c.next_line.ensures.system ∙ kept.system;
      words = c.next_line.ensures.words ∙ kept.words;
      sent = subst (λ n. IsSent first last (block ++ c.next_line.new.line) (text_in g.E.EventLaw.function system words h state n)) (sym (add-one place))
          (sent-next first last block held (line_in g.E.EventLaw.function system words h state place) c.next_line.new.line text
          (text_in g.E.EventLaw.function system words h state (suc place)) line
          (text-more g.E.EventLaw.function system words h state place)
          (sent-on first _ last (c.loop-place.block ++ c.loop-place.line) (block ++ held) text kept.sent c.in_ok-pass_on.ensures.sent));
    }

pub returns-clause-sent : goal.returns-clause-sent
returns-clause-sent g c =
    let system = c.args.plan.now.system in
    let words = g.P.Past.words c.args.plan.now.past in
    let text = log_text (log_of g.E.EventLaw.function system words c.args.header.now c.args.state.now) in
    let whole = text-whole g.E.EventLaw.function system words c.args.header.now c.args.state.now c.loop-place.place
    c.requires.version (omega arith) in
    let first : SinkState = record { held = g.O.Sink.held c.args.out.now; took = g.O.Sink.took c.args.out.now; faults = g.O.Sink.faults c.args.out.now; takes = g.O.Sink.takes c.args.out.now } in
    let last : SinkState = record { held = g.O.Sink.held c.loop-place.out; took = g.O.Sink.took c.loop-place.out; faults = g.O.Sink.faults c.loop-place.out; takes = g.O.Sink.takes c.loop-place.out } in
    sends-last c.put_last.result first last _ (c.loop-place.block ++ c.loop-place.line) text
    (subst (λ t. IsSent first last (c.loop-place.block ++ c.loop-place.line) t) whole c.loop-place.invariant.sent) c.put_last.ensures
