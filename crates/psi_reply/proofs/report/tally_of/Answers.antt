-- Answers in the proof of `report::tally_of`.
use Rattle.std.specs.Prelude.{◌≡◌, ◌+◌, List, [], ◌∷◌, ◌++◌, length}
use Rattle.std.proofs.Common.{sym, ap, ◌∙◌, subst, arith}
use Rattle.psi_state.specs.declared.Outcome.{Outcome}
use Rattle.psi_report.specs.Totals.{StandsFor}
use Rattle.psi_kinds.specs.contracts.event.EventEventLaw.TheImpl.{function-value}
use Rattle.psi_reply.specs.Networks.{IsSystemOf}
use Rattle.psi_reply.specs.Report.{samples_of}
use Rattle.psi_reply.proofs.ReportingLemmas.{samples_more, samples_number}
use Rattle.psi_reply.proofs.report.tally_of.Goals as goal

pub next_sample-outcome-requires : goal.next_sample-outcome-requires
next_sample-outcome-requires c = subst (λ system. IsSystemOf function-value.it c.args.net.now system) (sym c.loop-i.invariant.system) c.in_ok-plan.ensures.system

pub add-requires-clause-stands : goal.add-requires-clause-stands
add-requires-clause-stands c =
    let samples = samples_of c.args.net.now c.args.seed c.args.first c.loop-i.i in
    let number : length samples ≡ c.loop-i.i = samples_number c.args.net.now c.args.seed c.args.first c.loop-i.i in
    (samples, c.loop-i.invariant.stands, omega arith)

pub loop-i-preserved : goal.loop-i-preserved
loop-i-preserved c =
    let samples = samples_of c.args.net.now c.args.seed c.args.first c.loop-i.i in
    let one : samples ++ c.next_sample-outcome.result ∷ [] ≡ samples_of c.args.net.now c.args.seed c.args.first (c.loop-i.i + 1) =
    ap (λ (o : Outcome). samples ++ o ∷ []) c.next_sample-outcome.ensures.value ∙ sym (samples_more c.args.net.now c.args.seed c.args.first c.loop-i.i) in
    record {
      stands = subst (λ (os : List Outcome). StandsFor c.add.new.self c.args.net.now os) one (c.add.ensures samples c.loop-i.invariant.stands);
      system = c.next_sample-outcome.ensures.system ∙ c.loop-i.invariant.system;
    }
