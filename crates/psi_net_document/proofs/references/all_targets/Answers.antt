-- Answers in the proof of `all_targets`.
use Rattle.std.proofs.Common.{◌≡◌, ℕ, List, [], length, map, replicate, refl, sym, subst}
use Rattle.toml.specs.View.{view}
use Rattle.psi_net_document.specs.Values.{each}
use Rattle.psi_net_document.specs.References.{target_step}
use Rattle.psi_net_document.specs.Targets.{AreTargets}
use Rattle.psi_net_document.specs.Inner.MarksKept.{AreMarked}
use Rattle.psi_net_document.proofs.MarksLemmas.{no_marks}
use Rattle.psi_net_document.proofs.PigeonLemmas.{no_targets}
use Rattle.psi_net_document.proofs.references.all_targets.Goals as goal

pub loop-value-init : goal.loop-value-init
loop-value-init c =
    let names = c.args.known.now.list.keys in
    let step = target_step c.args.place c.args.key.now names c.args.sources.now in
    let values = map view c.args.values.now in
    subst (λ (qs : List ℕ). (each step 1 qs values ≡ each step 1 [] values) × AreTargets (length names) c.args.sources.now qs × AreMarked qs (replicate 32 0))
    (sym c.empty-queues.ensures) (refl, no_targets (length names) c.args.sources.now, no_marks)
