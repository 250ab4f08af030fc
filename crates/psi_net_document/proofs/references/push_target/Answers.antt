-- Answers in the proof of `push_target`.
use Rattle.std.proofs.Common.{List, ℕ, length, sym, ◌∙◌, subst}
use Rattle.psi_net_document.specs.Targets.{AreTargets}
use Rattle.psi_net_document.proofs.PigeonLemmas.{room_for_more, targets_more}
use Rattle.psi_net_document.proofs.references.push_target.Goals as goal

pub push-requires : goal.push-requires
push-requires c = room_for_more (length c.args.known.now.list.keys) c.args.sources.now c.args.earlier.now c.in-Ok.value c.args.known.now.few c.requires.valid c.in-Ok.ensures.within
    (sym c.is_marked.ensures ∙ c.if-is_marked.false)

pub returns-clause-valid : goal.returns-clause-valid
returns-clause-valid c = subst (λ (qs : List ℕ). AreTargets (length c.args.known.now.list.keys) c.args.sources.now qs) (sym c.push.ensures)
    (targets_more (length c.args.known.now.list.keys) c.args.sources.now c.args.earlier.now c.in-Ok.value c.requires.valid c.in-Ok.ensures.within
    (sym c.is_marked.ensures ∙ c.if-is_marked.false) (sym c.contains.ensures ∙ c.if-contains.false))
