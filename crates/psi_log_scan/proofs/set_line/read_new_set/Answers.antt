-- Answers in the proof of `set_line::read_new_set`.
use Rattle.std.proofs.Common.{◌≡◌, ℕ, length, take, drop, ◌+◌, ◌-◌, ◌∙◌, ap, subst, refl, arith, rules}
use Rattle.std.specs.Prelude.{Option, IfSome, true}
use Rattle.psi_log_words.specs.Regions.{ascends}
use Rattle.psi_log_scan.specs.Scanned.{Stands, AreScanned}
use Rattle.psi_log_scan.proofs.SetLineLemmas.{new_set}
use Rattle.psi_log_scan.proofs.set_line.read_new_set.Goals as goal

pub returns : goal.returns
returns c =
    let first = c.len-first.ensures in
    let last = c.len.ensures in
    let more = c.in_ok-end.ensures.more in
    let room = c.if-not-has_byte.ensures.within refl in
    let rows = subst (λ (o : Option ℕ). IfSome o (λ end. AreScanned c.args.queues c.args.text.now (c.args.at + 4) end c.args.states.now.states c.read_rows.new.states.states))
    c.in-Some.is c.in_ok-end.ensures.rows in
    let order = subst (λ (o : Option ℕ). IfSome o (λ end. ascends (drop (length c.args.states.now.states) c.read_rows.new.states.states) ≡ true)) c.in-Some.is c.in_ok-end.ensures.order in
    let rising : ascends (drop c.len-first.result c.read_rows.new.states.states) ≡ true = ap (λ (k : ℕ). ascends (drop k c.read_rows.new.states.states)) first ∙ order in
    let told = new_set c.args.queues c.args.text.now c.args.at c.in-Some.end c.len-first.result (c.len.result - c.len-first.result) c.args.states.now.states c.read_rows.new.states.states
    (c.if-not-has_name.ensures.there refl) rows (c.if-not-has_byte.ensures.there refl) first (omega arith) (omega arith) c.if-count.false rising room in
    let part = take (c.in-Some.end + 1 - c.args.at) (drop c.args.at c.args.text.now) in
    let size : length (take (c.in-Some.end + 1 - c.args.at) (drop c.args.at c.args.text.now)) ≡ c.in-Some.end + 1 - c.args.at = told.1 in
    let place = rows.words.place in
    let whole : c.in-Some.end + 1 ≡ c.args.at + length (take (c.in-Some.end + 1 - c.args.at) (drop c.args.at c.args.text.now)) = omega arith in
    record {
      queues = search rules;
      kept = search rules;
      more = search rules;
      last = record { there = omega arith; told = told.0 };
      there = subst (λ (k : ℕ). Stands c.args.text.now c.args.at k part) whole told.2;
      within = omega arith;
    }
