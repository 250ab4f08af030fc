-- Answers in the proof of `check::push_events`.
use Rattle.std.specs.Prelude.{◌≡◌, ℕ, ◌+◌, List, take, ◌&&◌, is_none, Some, option_map}
use Rattle.std.specs.List.{list_all}
use Rattle.std.proofs.Common.{ap, sym, ◌∙◌, arith}
use Rattle.std.proofs.lemmas.List.Elements.{All-more}
use Rattle.std.proofs.lemmas.Option.{slice_get-map}
use Rattle.psi_event.specs.Law.{ShowsUpset}
use Rattle.psi_kinds.specs.Kinds.{do_kind}
use Rattle.psi_kinds.specs.Forms.{upset_of}
use Rattle.psi_net_model.specs.Network.{caps_of, marks_of}
use Rattle.psi_net_model.specs.declared.entries.NamedEvent.{NamedEvent}
use Rattle.psi_reply.specs.Check.{event_line}
use Rattle.psi_reply.proofs.MarksLemmas.{mark-right}
use Rattle.psi_reply.proofs.EntriesLemmas.{entry_at, field_of, same_at, lines-more, all-more, and_then, and_else, is_none-from}
use Rattle.psi_reply.proofs.check.push_events.Goals as goal
use Rattle.psi_reply.proofs.check.push_events.Goals.{then-monotone, else-monotone}

pub loop-e-preserved : goal.loop-e-preserved
loop-e-preserved c =
    let found = entry_at c.args.net.now.events c.loop-e.e (omega arith) in
    let name = field_of (λ (e : NamedEvent). e.name) c.args.net.now.events c.loop-e.e found.0 c.event_name-name.result found.1 c.event_name-name.ensures in
    let server = field_of (λ (e : NamedEvent). e.server) c.args.net.now.events c.loop-e.e found.0 c.event_server.result found.1 c.event_server.ensures in
    let rate = field_of (λ (e : NamedEvent). e.rate) c.args.net.now.events c.loop-e.e found.0 c.event_rate.result found.1 c.event_rate.ensures in
    let mark : c.upset-mark.result ≡ upset_of (caps_of c.args.net.now) found.0.kind =
    c.upset-mark.ensures.value ∙ same_at _ (λ (e : NamedEvent). upset_of (caps_of c.args.net.now) e.kind) c.system-system.result.events c.args.net.now.events c.loop-e.e c.event.result.now found.0
    c.system-system.ensures.marks c.event.ensures found.1 in
    let all : list_all is_none (take (c.loop-e.e + 1) (marks_of c.args.net.now)) ≡ (list_all is_none (take c.loop-e.e (marks_of c.args.net.now)) && is_none c.upset-mark.result) =
    all-more is_none (marks_of c.args.net.now) c.loop-e.e c.upset-mark.result
    (slice_get-map (λ (e : NamedEvent). upset_of (caps_of c.args.net.now) e.kind) c.args.net.now.events c.loop-e.e
    ∙ (ap (option_map (λ (e : NamedEvent). upset_of (caps_of c.args.net.now) e.kind)) found.1 ∙ ap Some (sym mark))) in
    record {
      marks = All-more (λ (e : NamedEvent). ShowsUpset (caps_of c.args.net.now) (do_kind (caps_of c.args.net.now) e.kind) (upset_of (caps_of c.args.net.now) e.kind)) c.args.net.now.events c.loop-e.e found.0
          (omega arith) c.loop-e.invariant.marks
          (mark-right _ _ (caps_of c.args.net.now) c.system-system.result c.args.net.now.events c.loop-e.e c.event.result.now found.0 found.0
          c.upset-mark.result c.caps-caps.ensures.fit c.system-system.ensures.caps c.system-system.ensures.functions c.event.ensures found.1 c.upset-mark.ensures.shown mark);
      lines = lines-more (λ (e : NamedEvent). event_line e.name e.server e.rate (upset_of (caps_of c.args.net.now) e.kind)) c.args.net.now.events c.loop-e.e found.0 c.args.text.now.items
          c.loop-e.text.items c.push_event.new.text.items _ found.1 c.loop-e.invariant.lines c.in_ok-push_event.ensures
          (ap (λ (n : List ℕ). event_line n c.event_server.result c.event_rate.result c.upset-mark.result) (c.bytes.ensures.value ∙ name)
          ∙ (ap (λ n. event_line found.0.name n c.event_rate.result c.upset-mark.result) server
          ∙ (ap (λ n. event_line found.0.name found.0.server n c.upset-mark.result) rate
          ∙ ap (λ m. event_line found.0.name found.0.server found.0.rate m) mark)));
      monotone = elim c.if-monotone.branch [
        | then-monotone w ↦ and_then _ (is_none c.upset-mark.result) _ (sym c.loop-e.invariant.monotone ∙ w.if-monotone.true) (w.monotone-is ∙ is_none-from c.upset-mark.result w.is_none-monotone.result w.is_none-monotone.ensures) ∙ sym all
        | else-monotone w ↦ and_else _ (is_none c.upset-mark.result) _ (sym c.loop-e.invariant.monotone ∙ w.if-monotone.false) (w.monotone-is ∙ w.if-monotone.false) ∙ sym all
      ];
    }
