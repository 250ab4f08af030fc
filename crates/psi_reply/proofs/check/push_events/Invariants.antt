-- Invariants of the loops of `check::push_events`.
use Rattle.std.proofs.Common.{◌≡◌, ◌++◌, take}
use Rattle.std.specs.Prelude.{is_none, All}
use Rattle.std.specs.List.{flat_map, list_all}
use Rattle.psi_event.specs.Law.{ShowsUpset}
use Rattle.psi_kinds.specs.Kinds.{do_kind}
use Rattle.psi_kinds.specs.Forms.{upset_of}
use Rattle.psi_net_model.specs.Network.{caps_of, marks_of}
use Rattle.psi_reply.specs.Check.{event_line}
use Rattle.psi_reply.proofs.check.push_events.Given as goal

abbrev pub invariant-loop-e : goal.invariant-loop-e
invariant-loop-e l = record {
  lines : l.text.items ≡ l.fn.text.items ++ flat_map (λ e. event_line e.name e.server e.rate (upset_of (caps_of l.net) e.kind)) (take l.e l.net.events);
  marks : All (λ e. ShowsUpset (caps_of l.net) (do_kind (caps_of l.net) e.kind) (upset_of (caps_of l.net) e.kind)) (take l.e l.net.events);
  monotone : l.monotone ≡ list_all is_none (take l.e (marks_of l.net));
}
