-- Answers in the proof of `fit_tables`.
use Rattle.std.proofs.Common.{◌≡◌, ◌<◌, ℕ, [], List, length, get_or, slice_index, sym, ◌∙◌, ap, arith}
use Rattle.std.proofs.lemmas.List.{get_or_read_under}
use Rattle.psi_route.proofs.TablesLemmas.{are_tables-count, are_tables-at, are_tables-each}
use Rattle.psi_route.proofs.JudgedLemmas.{fit_tables-some, not_empty}
use Rattle.psi_route.proofs.judging.fit_tables.Goals as goal

pub returns-then-tables-len : goal.returns-then-tables-len
returns-then-tables-len c =
    sym (fit_tables-some c.args.caps.now c.args.targets.now c.args.tables.now (not_empty c.args.tables.now c.is_empty.result c.is_empty.ensures c.if-is_empty.false)
    ∙ are_tables-count c.args.caps.now c.args.targets.now c.args.tables.now (λ e. c.if-tables-len.true (omega (arith, c.len.ensures.value))))

pub returns-then-len-get : goal.returns-then-len-get
returns-then-len-get c =
    let within : c.loop-i.i < length c.args.targets.now = omega (arith, c.len-i-end.ensures.value) in
    let count : length c.args.tables.now ≡ length c.args.targets.now = omega (arith, c.len.ensures.value, c.if-tables-len.false) in
    let table : get_or c.args.tables.now c.loop-i.i [] ≡ c.index-tables-i.result =
    sym (get_or_read_under c.args.tables.now c.loop-i.i (length c.args.targets.now) c.index-tables-i.result [] c.index-tables-i.is within (sym count)) in
    let long : length (get_or c.args.tables.now c.loop-i.i []) ≡ c.len-in-loop-i.result = ap (λ (t : List ℕ). length t) table ∙ sym c.len-in-loop-i.ensures.value in
    let cap : c.get-in-loop-i.result ≡ slice_index c.args.caps.now (slice_index c.args.targets.now c.loop-i.i) =
    c.get-in-loop-i.ensures ∙ ap (λ q. slice_index c.args.caps.now q) c.get.ensures in
    sym (fit_tables-some c.args.caps.now c.args.targets.now c.args.tables.now (not_empty c.args.tables.now c.is_empty.result c.is_empty.ensures c.if-is_empty.false)
    ∙ are_tables-at c.args.caps.now c.args.targets.now c.args.tables.now c.loop-i.i within
    (λ e. c.if-len-get.true (omega (arith, long, e, cap))) count)

pub returns : goal.returns
returns c =
    sym (fit_tables-some c.args.caps.now c.args.targets.now c.args.tables.now (not_empty c.args.tables.now c.is_empty.result c.is_empty.ensures c.if-is_empty.false)
    ∙ are_tables-each c.args.caps.now c.args.targets.now c.args.tables.now (omega (arith, c.len.ensures.value, c.if-tables-len.false))
    (λ i small. c.loop-i.invariant i (omega (arith, c.len-i-end.ensures.value))))
