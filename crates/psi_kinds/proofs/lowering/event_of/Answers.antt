-- Answers in the proof of `event_of`.
use Rattle.std.proofs.Common.{List, [], ℕ, None, Some, refl, ap, ◌∙◌, subst}
use Rattle.psi_guard.specs.Refusals as guard
use Rattle.psi_route.specs.Accepted.{shape}
use Rattle.psi_route.specs.Refusals as shapes
use Rattle.psi_route.specs.declared.Full.TheVariants.{Lost}
use Rattle.psi_kinds.specs.declared.kinds.Kind.{Kind}
use Rattle.psi_kinds.specs.Kinds.{IsKindOf}
use Rattle.psi_kinds.specs.Refusals.{IsUnrefused}
use Rattle.psi_kinds.specs.Forms.{fork_parts, join_parts}
use Rattle.psi_kinds.proofs.AcceptingLemmas.{shape-accepted, listed-accepted, tables-fit, tables-within, other-away, parts-few}
use Rattle.psi_kinds.proofs.FittingLemmas.{fork-fits, join-fits}
use Rattle.psi_kinds.proofs.lowering.event_of.Goals as goal

pub listed_route-requires-clause-accepted : goal.listed_route-requires-clause-accepted
listed_route-requires-clause-accepted c =
    let named = subst (λ (k : Kind). IsKindOf c.args.caps k) c.in-Arrival.is c.requires.named in
    let free = subst (λ (k : Kind). IsUnrefused c.args.caps k) c.in-Arrival.is c.requires.unrefused in
    listed-accepted c.args.caps None c.in-Arrival.to Lost c.requires.caps named refl free.once

pub listed_route-requires-in-Service-clause-accepted :
    goal.listed_route-requires-in-Service-clause-accepted
listed_route-requires-in-Service-clause-accepted c =
    let named = subst (λ (k : Kind). IsKindOf c.args.caps k) c.in-Service.is c.requires.named in
    let free = subst (λ (k : Kind). IsUnrefused c.args.caps k) c.in-Service.is c.requires.unrefused in
    listed-accepted c.args.caps (Some c.in-Service.from) c.in-Service.to c.in-Service.full c.requires.caps named.1 free.away free.once

pub index_tables-requires : goal.index_tables-requires
index_tables-requires c =
    let named = subst (λ (k : Kind). IsKindOf c.args.caps k) c.in-Index.is c.requires.named in
    let free = subst (λ (k : Kind). IsUnrefused c.args.caps k) c.in-Index.is c.requires.unrefused in
    λ i small. tables-within c.args.caps c.in-Index.to c.in-Index.table i c.requires.caps named.1 free.tables small

pub accepted-route-requires-clause-accepted : goal.accepted-route-requires-clause-accepted
accepted-route-requires-clause-accepted c =
    let free = subst (λ (k : Kind). IsUnrefused c.args.caps k) c.in-Index.is c.requires.unrefused in
    ap (λ (t : List (List ℕ)). shapes.refusal_of (shape c.args.caps c.in-Index.from c.in-Index.size c.in-Index.to t c.in-Index.full)) c.in_ok-tables-in-Index.ensures
    ∙ shape-accepted c.args.caps c.in-Index.from c.in-Index.size c.in-Index.to c.in-Index.table c.in-Index.full
    free.away free.once (tables-fit c.args.caps c.in-Index.to c.in-Index.table free.tables) free.size

pub listed_route-requires-in-Batch-clause-accepted :
    goal.listed_route-requires-in-Batch-clause-accepted
listed_route-requires-in-Batch-clause-accepted c =
    let free = subst (λ (k : Kind). IsUnrefused c.args.caps k) c.in-Batch.is c.requires.unrefused in
    shape-accepted c.args.caps None c.in-Batch.size c.in-Batch.to [] Lost refl free.once refl free.size

pub fork_parts-parts-requires-clause-few : goal.fork_parts-parts-requires-clause-few
fork_parts-parts-requires-clause-few c =
    let named = subst (λ (k : Kind). IsKindOf c.args.caps k) c.in-Fork.is c.requires.named in
    let free = subst (λ (k : Kind). IsUnrefused c.args.caps k) c.in-Fork.is c.requires.unrefused in
    parts-few c.args.caps (fork_parts c.args.caps c.in-Fork.from c.in-Fork.to) c.requires.caps.few
    (fork-fits c.args.caps c.in-Fork.from c.in-Fork.to named.0 named.1 free.once free.away)

pub accepted-requires-in-Fork-clause-accepted : goal.accepted-requires-in-Fork-clause-accepted
accepted-requires-in-Fork-clause-accepted c =
    let named = subst (λ (k : Kind). IsKindOf c.args.caps k) c.in-Fork.is c.requires.named in
    let free = subst (λ (k : Kind). IsUnrefused c.args.caps k) c.in-Fork.is c.requires.unrefused in
    ap (λ parts. guard.refusal_of c.args.caps parts) c.fork_parts-parts.ensures
    ∙ fork-fits c.args.caps c.in-Fork.from c.in-Fork.to named.0 named.1 free.once free.away

pub join_parts-parts-requires-clause-few : goal.join_parts-parts-requires-clause-few
join_parts-parts-requires-clause-few c =
    let named = subst (λ (k : Kind). IsKindOf c.args.caps k) c.in-Join.is c.requires.named in
    let free = subst (λ (k : Kind). IsUnrefused c.args.caps k) c.in-Join.is c.requires.unrefused in
    parts-few c.args.caps (join_parts c.args.caps c.in-Join.from c.in-Join.to) c.requires.caps.few
    (join-fits c.args.caps c.in-Join.from c.in-Join.to c.requires.caps named.0 named.1 free.once (other-away c.in-Join.from c.in-Join.to free.away))

pub accepted-requires-in-Join-clause-accepted : goal.accepted-requires-in-Join-clause-accepted
accepted-requires-in-Join-clause-accepted c =
    let named = subst (λ (k : Kind). IsKindOf c.args.caps k) c.in-Join.is c.requires.named in
    let free = subst (λ (k : Kind). IsUnrefused c.args.caps k) c.in-Join.is c.requires.unrefused in
    ap (λ parts. guard.refusal_of c.args.caps parts) c.join_parts-parts.ensures
    ∙ join-fits c.args.caps c.in-Join.from c.in-Join.to c.requires.caps named.0 named.1 free.once (other-away c.in-Join.from c.in-Join.to free.away)
