-- Invariants of the loops of `all_targets`.
use Rattle.std.proofs.Common.{◌≡◌, ◌+◌, [], length, map, drop}
use Rattle.toml.specs.View.{view}
use Rattle.psi_net_document.specs.Values.{each}
use Rattle.psi_net_document.specs.References.{target_step}
use Rattle.psi_net_document.specs.Targets.{AreTargets}
use Rattle.psi_net_document.specs.Inner.MarksKept.{AreMarked}
use Rattle.psi_net_document.proofs.references.all_targets.Given as goal

abbrev pub invariant-loop-value : goal.invariant-loop-value
invariant-loop-value l =
    (each (target_step l.place l.key l.known.list.keys l.sources) (l.value-index + 1) l.queues (map view (drop l.value-index l.values))
    ≡ each (target_step l.place l.key l.known.list.keys l.sources) 1 [] (map view l.values))
    × AreTargets (length l.known.list.keys) l.sources l.queues
    × AreMarked l.queues l.marks
