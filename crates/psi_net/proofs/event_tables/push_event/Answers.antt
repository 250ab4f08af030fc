-- Answers in the proof of `push_event`.
use Rattle.std.proofs.Common.{List, sym, subst}
use Rattle.psi_net_model.specs.Expansion.{AreSourced}
use Rattle.psi_net_model.specs.declared.entries.NamedEvent.{NamedEvent}
use Rattle.psi_net.proofs.KeptEventsLemmas.{source_read, sourced_more}
use Rattle.psi_net.proofs.event_tables.push_event.Goals as goal

pub counted-requires-clause-source : goal.counted-requires-clause-source
counted-requires-clause-source c = source_read _ _ _ _ _ _ _ c.in-Ok-read.field-0 c.args.known.now.listed c.args.known.now.named c.args.known.now.held c.in-Ok-read.ensures.value

pub returns-2-clause-sources : goal.returns-2-clause-sources
returns-2-clause-sources c =
    subst (λ (es : List NamedEvent). AreSourced c.args.known.now.queues.items es) (sym c.in_ok-push.ensures.items)
    (sourced_more c.args.known.now.queues.items c.args.list.now.events.items c.in-Ok-read.field-0 c.requires.sources
    (source_read _ _ _ _ _ _ _ c.in-Ok-read.field-0 c.args.known.now.listed c.args.known.now.named c.args.known.now.held c.in-Ok-read.ensures.value))
