-- Answers in the proof of `are_tables`.
use Rattle.std.proofs.Common.{◌≡◌, ◌<◌, ℕ, [], List, length, get_or, slice_index, sym, ◌∙◌, ap, arith}
use Rattle.psi_route.proofs.TablesLemmas.{are_tables-count, are_tables-at, are_tables-each}
use Rattle.psi_kinds.proofs.judging.are_tables.Goals as goal

pub returns-then-len : goal.returns-then-len
returns-then-len c =
    sym (are_tables-count c.args.caps.now c.args.queues.now c.args.tables.now
    (λ e. c.if-len.true (omega (arith, c.len.ensures, c.len-2.ensures.value))))

pub returns-then-row-get : goal.returns-then-row-get
returns-then-row-get c =
    let within : c.loop-i.i < length c.args.queues.now = omega (arith, c.len-i-end.ensures.value) in
    let long : length (get_or c.args.tables.now c.loop-i.i []) ≡ length c.row.result.now = ap (λ (t : List ℕ). length t) (sym c.row.ensures) in
    let cap : c.get-in-loop-i.result ≡ slice_index c.args.caps.now (slice_index c.args.queues.now c.loop-i.i) =
    c.get-in-loop-i.ensures ∙ ap (λ q. slice_index c.args.caps.now q) c.get.ensures in
    sym (are_tables-at c.args.caps.now c.args.queues.now c.args.tables.now c.loop-i.i within
    (λ e. c.if-row-get.true (sym long ∙ (e ∙ sym cap)))
    (omega (arith, c.len.ensures, c.len-2.ensures.value, c.if-len.false)))

pub returns : goal.returns
returns c =
    sym (are_tables-each c.args.caps.now c.args.queues.now c.args.tables.now (omega (arith, c.len.ensures, c.len-2.ensures.value, c.if-len.false))
    (λ i small. c.loop-i.invariant i (omega (arith, c.len-i-end.ensures.value))))
