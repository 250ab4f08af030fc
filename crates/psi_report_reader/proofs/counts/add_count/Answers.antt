-- Answers in the proof of `counts::add_count`.
use Rattle.std.proofs.Common.{◌≡◌, arith, sym, ap, ◌∙◌}
use Rattle.std.proofs.lemmas.List.{get_or_default}
use Rattle.psi_report.specs.declared.figure.HorizonCount.{HorizonCount}
use Rattle.psi_report_reader.proofs.CountLemmas.{with_count-set, with_count-insert, added-large}
use Rattle.psi_report_reader.proofs.counts.add_count.Goals as goal

pub returns-in_default : goal.returns-in_default
returns-in_default c =
    let place = rw c.as_slice.ensures.value at c.place_of-place.ensures.value in
    let there = rw c.as_slice-2.ensures.value at c.if-is_at.ensures in
    added-large c.args.added.now c.index.result.now c.args.counts.now.items c.place_of-place.result (sym place) there.0 c.index.ensures
    (ap (λ (x : HorizonCount). x.horizon) c.index.ensures ∙ there.1 c.index.result.now) (omega (arith, c.in_default.ensures))

pub returns-then-is_at : goal.returns-then-is_at
returns-then-is_at c =
    let place = rw c.as_slice.ensures.value at c.place_of-place.ensures.value in
    let there = rw c.as_slice-2.ensures.value at c.if-is_at.ensures in
    let set = with_count-set c.args.added.now c.index.result.now c.args.counts.now.items c.place_of-place.result (sym place) there.0 c.index.ensures
    (ap (λ (x : HorizonCount). x.horizon) c.index.ensures ∙ there.1 c.index.result.now) in
    let sum = c.in-Some.ensures in
    let same : c.index_mut.result.now.horizon ≡ c.index.result.now.horizon =
    ap (λ (x : HorizonCount). x.horizon) (c.index_mut.ensures.value ∙ get_or_default c.args.counts.now.items c.place_of-place.result _ _ there.0 ∙ sym c.index.ensures) in
    rw (same, sum.1) (sym set)

pub returns : goal.returns
returns c =
    let place = rw c.as_slice.ensures.value at c.place_of-place.ensures.value in
    let other = rw c.as_slice-2.ensures.value at c.if-is_at.ensures in
    c.in_ok-insert.ensures.items ∙ sym (with_count-insert c.args.added.now c.args.counts.now.items c.place_of-place.result (sym place) other)
