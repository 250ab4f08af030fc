-- Answers in the proof of `EventNumbers::extend_to`.
use Rattle.std.proofs.Common.{rules, ◌≡◌, ℕ, suc, ◌+◌, ◌-◌, ◌<◌, List, [], ◌∷◌, length, refl, ap, ◌∙◌, arith}
use Rattle.std.proofs.lemmas.List.{length-append}
use Rattle.std.specs.Vec.{vec_len}
use Rattle.std.proofs.lemmas.Grind.{common_steps}
use Rattle.psi_rate.specs.Numbers.{numbers_below}
use Rattle.psi_rate.specs.Keeping.{mark}
use Rattle.psi_rate.proofs.MarksLemmas.{mark-order, mark-below, mark-rises, marks-only, counted-more}
use Rattle.psi_rate.proofs.numbers.EventNumbers.extend_to.Goals as goal

pub loop-number-init : goal.loop-number-init
loop-number-init g c =
    let kept = c.requires.kept in
    let count = length c.args.self.now.counts.items in
    let reached = c.args.self.now.reached in
    let some : 0 < count = mark-below 0 count reached (omega arith) kept.next in
    let up_to = c.marks_up_to-number.ensures in
    record {
      kept = kept;
      list_room = omega arith;
      count_room = refl;
      number = marks-only count c.marks_up_to-number.result reached some up_to.some kept.last kept.next up_to.last up_to.next;
      words = refl;
    }

pub keep_places-requires-clause-room : goal.keep_places-requires-clause-room
keep_places-requires-clause-room g c =
    let marks = c.marks_up_to-number-end.result in
    let small = c.loop-number-test.true in
    let order = mark-order c.loop-number.number (marks - 1) (omega arith) in
    let last = c.marks_up_to-number-end.ensures.last in
    let room = c.loop-number.invariant.kept.room in
    let is = c.mark-end.ensures in
    omega arith

pub loop-number-preserved : goal.loop-number-preserved
loop-number-preserved g c =
    let kept = c.loop-number.invariant.kept in
    let number = c.loop-number.invariant.number in
    let pushed = c.push_reserved.ensures in
    let rises = mark-rises c.loop-number.number in
    let counts = c.loop-number.self.counts.items in
    let long : length c.push_reserved.new.self.items ≡ c.loop-number.number + 1 =
    ap (λ (xs : List ℕ). length xs) pushed.items ∙ length-append counts (c.len.result ∷ []) ∙ ap (λ n. n + 1) number in
    let next : suc c.loop-number.number ≡ length c.push_reserved.new.self.items = omega arith in
    let last : c.loop-number.number ≡ length c.push_reserved.new.self.items - 1 = omega arith in
    let words = g.P.Past.words c.args.past.now in
    let places : c.keep_places.new.list.items ≡ numbers_below c.args.wheel.now words c.mark-end.result =
    c.keep_places.ensures.kept ∙ ap (λ (w : ℕ → ℕ). numbers_below c.args.wheel.now w c.mark-end.result) c.loop-number.invariant.words in
    let held : vec_len c.keep_places.new.list ≡ length c.keep_places.new.list.items = search rules in
    record {
      kept = record {
        kept = places;
        counted = grind (arith, common_steps, counted-more);
        last = (let same = ap (λ n. mark n) last in let is = c.mark-end.ensures in omega arith);
        next = (let same = ap (λ n. mark n) next in let is = c.mark-end.ensures in omega arith);
        room = (let more = c.keep_places.ensures.capacity in let room = kept.room in omega arith);
        count_room = (let same = pushed.capacity in let room = kept.count_room in omega arith);
      };
      list_room = (let more = c.keep_places.ensures.capacity in let room = c.loop-number.invariant.list_room in omega arith);
      count_room = pushed.capacity ∙ c.loop-number.invariant.count_room;
      number = long;
      words = c.keep_places.ensures.words ∙ c.loop-number.invariant.words;
    }
