use Rattle.std.proofs.Common.{◌≡◌, take, drop, inl, inr, subst, ◌∙◌, arith}
use Rattle.std.proofs.lemmas.List.{with_items_is}
use Rattle.psi_follow_sets.specs.Room.{held}
use Rattle.psi_follow_sets.specs.Inner.HoldingKept.{AreMoved}
use Rattle.psi_follow_sets.proofs.FollowingLemmas.{set-rest, follow-end}
use Rattle.psi_follow_sets.proofs.RoomLemmas.{lists-with_pairs}
use Rattle.psi_follow_sets.proofs.lists.Lists.follow.Goals as goal

pub returns-then-left-gt0 : goal.returns-then-left-gt0
returns-then-left-gt0 g c =
    let p = c.args.program.now in
    let numbers = c.args.numbers.now in
    let left = c.follow_apart-left.result in
    let middle = c.follow_apart-left.new.self in
    let moved = c.follow_apart-left.ensures.moved in
    let made = c.follow_one.new.list in
    let given = c.as_mut_slice.result.now in
    let one : middle.used ≡ 1 = elim c.follow_apart-left.ensures.done [
      | inl none ↦ absurd (omega (arith, none, c.if-left-gt0.true))
      | inr one ↦ one
    ] in
    record {
      lists = lists-with_pairs middle made given moved.lists c.follow_one.auto.list c.as_mut_slice.ensures.len c.as_mut_slice.ensures.value;
      follows = set-rest g.row.K p numbers left (held c.args.self.now) (held middle) _ moved.follows
          (follow-end p (take left numbers) middle.used middle.pairs.items given made _ one c.as_mut_slice.ensures.value
          (with_items_is middle.pairs made (c.follow_one.auto.list ∙ c.as_mut_slice.ensures.len)) c.follow_one.ensures.follows);
      room = moved.room;
      some = moved.some;
    }

pub returns-else-left-gt0 : goal.returns-else-left-gt0
returns-else-left-gt0 g c =
    let none : c.follow_apart-left.result ≡ 0 = omega arith in
    subst (λ n. AreMoved c.args.program.now (drop n c.args.numbers.now) c.args.self.now c.follow_apart-left.new.self) none c.follow_apart-left.ensures.moved
