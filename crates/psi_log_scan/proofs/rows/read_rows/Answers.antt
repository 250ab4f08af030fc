-- Answers in the proof of `rows::read_rows`.
use Rattle.std.specs.Prelude.{◌≡◌, ℕ, ◌+◌, ◌∷◌, [], length, drop, true, Option, IfSome}
use Rattle.std.proofs.Common.{◌∙◌, ap, length-append, refl, subst, arith, inl, inr}
use Rattle.std.proofs.lemmas.Bool.{cases_lt}
use Rattle.std.proofs.lemmas.List.{length-take-le}
use Rattle.psi_log_format.specs.Text.{numbers_text}
use Rattle.psi_log_format.proofs.JoinedLemmas.{then}
use Rattle.psi_log_words.specs.Regions.{ascends}
use Rattle.psi_log_words.proofs.OrderLemmas.{order_none}
use Rattle.psi_log_scan.specs.Inner.RowsViews.{IsNextRow, IsRead}
use Rattle.psi_log_scan.proofs.RowsLemmas.{rising_more, rising_one}
use Rattle.psi_log_scan.proofs.ScanLemmas.{is_state, scanned_none, scanned_more}
use Rattle.psi_log_scan.proofs.rows.read_rows.Goals as goal

pub loop-init : goal.loop-init
loop-init c = record {
  queues = c.requires.queues;
  count = length-take-le c.args.queues _ c.requires.few;
  within = c.requires.within;
  rows = scanned_none c.args.queues c.args.text.now c.args.at c.args.states.now.states;
  order = order_none c.args.states.now.states (length c.args.states.now.states) (omega arith);
}

pub loop-preserved : goal.loop-preserved
loop-preserved c =
    let q = c.args.queues in
    let text = c.args.text.now in
    let start = c.args.states.now.states in
    let first = length c.args.states.now.states in
    let old = c.loop.states.states in
    let mid = c.next_row.new.states.states in
    let new = c.next_run.new.states.states in
    let row = c.next_row.new.row in
    let next = subst (λ (o : Option ℕ). IfSome o (λ next. IsNextRow c.len-first.result c.args.text.now (c.loop.end + 1) next row old mid)) c.in-Some.is c.in_ok-next.ensures.next in
    let made = next.states in
    let count = c.next_row.ensures.count ∙ c.loop.invariant.count in
    let word = then (32 ∷ []) (numbers_text row) (32 ∷ numbers_text row) (c.if-not-has_byte.ensures.there refl) next.there refl in
    let rows = scanned_more q text c.args.at c.loop.end c.in-Some.next start old mid row c.loop.invariant.rows made word (is_state q row count next.range) in
    let order : ascends (drop (length c.args.states.now.states) c.next_row.new.states.states) ≡ true = elim (cases_lt first (length old)) [
      | inl less ↦ rising_more first old mid row made less c.loop.invariant.order (next.order (omega arith))
      | inr none ↦ (let more = c.loop.invariant.rows.more in rising_one old mid row first made (omega arith))
    ] in
    let size = ap length made ∙ length-append old (row ∷ []) in
    let read = subst (λ (k : ℕ). IsRead k text c.in-Some.next c.in_ok-end.end mid new) count c.in_ok-end.ensures.read in
    record {
      queues = c.in_ok-end.ensures.queues ∙ c.next_row.ensures.queues ∙ c.loop.invariant.queues;
      count = count;
      within = read.within;
      rows = read.rows c.args.at start rows;
      order = read.order first (omega arith) order;
    }
