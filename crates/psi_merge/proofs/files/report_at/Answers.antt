-- Answers in the proof of `report_at`.
use Rattle.std.proofs.Common.{rules, Ok, Err, refl, ap, sym, subst}
use Rattle.psi_io.specs.declared.shelf.ShelfFault.{ShelfFault}
use Rattle.psi_io.proofs.AgreeingLemmas.{agrees_one, one_agrees}
use Rattle.psi_merge.specs.declared.reports.TheConstants.{MOST_BYTES}
use Rattle.psi_merge.specs.Reply.{report_reply}
use Rattle.psi_merge.specs.Ended.{MayEnd}
use Rattle.psi_merge.proofs.FindingLemmas.{report-found, unread-found, told-found, told-read}
use Rattle.psi_merge.proofs.files.report_at.Goals as goal

pub returns-in-Err-Failed-clause-found : goal.returns-in-Err-Failed-clause-found
returns-in-Err-Failed-clause-found g c told agrees = unread-found _ c.args.name.now _ c.unread.result c.unread.ensures (c.in-Err-Failed.ensures.failed (ap (λ (fault : ShelfFault). Err fault) c.in-Err-Failed.field-0-is))

pub returns-in-Ok-report_in-clause-found : goal.returns-in-Ok-report_in-clause-found
returns-in-Ok-report_in-clause-found g c told agrees =
    let reads = rw c.as_slice.ensures.value at c.in-Ok-report_in.ensures in
    record {
      answer = report-found MOST_BYTES refl (told c.args.name.now) c.args.name.now c.in-Ok.bytes.items (Ok c.in-Ok-report_in.report) (one_agrees told _ _ _ c.in-Ok.ensures.gave agrees)
          (ap (report_reply c.args.name.now) reads);
      cause = tt;
    }

pub returns-in-Err-Refused-clause-found : goal.returns-in-Err-Refused-clause-found
returns-in-Err-Refused-clause-found g c told agrees =
    let refused = rw (c.as_slice.ensures.value, c.in-Err-Refused.field-0-is) at c.in-Err-Refused.ensures in
    told-found _ c.args.name.now _ c.refused.result
    (report-found MOST_BYTES refl (told c.args.name.now) c.args.name.now c.in-Ok.bytes.items (Err c.refused.result) (one_agrees told _ _ _ c.in-Ok.ensures.gave agrees)
    (subst (MayEnd c.refused.result) (ap (report_reply c.args.name.now) (sym refused)) c.refused.ensures.ending))
    c.refused.ensures.told

pub returns-in-Err-Refused-clause-once : goal.returns-in-Err-Refused-clause-once
returns-in-Err-Refused-clause-once g c = search (rules, agrees_one, told-read c.refused.result c.refused.ensures.told)

pub returns-in-Ok-report_in-clause-once : goal.returns-in-Ok-report_in-clause-once
returns-in-Ok-report_in-clause-once g c = search (rules, agrees_one)
