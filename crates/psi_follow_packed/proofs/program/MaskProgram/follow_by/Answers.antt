use Rattle.std.proofs.Common.{◌≡◌, ◌-◌, ◌≤◌, length, drop, rules, sym, subst, arith}
use Rattle.psi_follow_packed.specs.Moves.{Moving, IsOfFirst}
use Rattle.psi_follow_packed.specs.Programs.{Follows}
use Rattle.psi_follow_packed.specs.Views.{low_words, high_words}
use Rattle.psi_follow_packed.proofs.FollowingLemmas.{follows-none, follows-more}
use Rattle.psi_follow_packed.proofs.program.MaskProgram.follow_by.Goals as goal

pub loop-place-init : goal.loop-place-init
loop-place-init g c = record {
  low = follows-none g.row.K c.args.self.now c.args.numbers.now (low_words c.args.x.now);
  high = follows-none g.row.K c.args.self.now c.args.numbers.now (high_words c.args.x.now);
}

pub loop-place-preserved : goal.loop-place-preserved
loop-place-preserved g c =
    let p = c.args.self.now in
    let numbers = c.args.numbers.now in
    let i = c.loop-place.place in
    let some : 1 ≤ i = c.loop-place-test.true in
    let within : i ≤ length numbers = c.loop-place.auto.place in
    let small = c.requires.numbers (i - 1) (omega arith) in
    record {
      low = follows-more g.row.K p numbers i (low_words c.args.x.now) _ _ _ some within small c.event.ensures.low c.advance_by.ensures.low c.loop-place.invariant.low;
      high = follows-more g.row.K p numbers i (high_words c.args.x.now) _ _ _ some within small c.event.ensures.high c.advance_by.ensures.high c.loop-place.invariant.high;
    }

pub returns-clause-low : goal.returns-clause-low
returns-clause-low g c =
    let none : c.loop-place.place ≡ 0 = omega arith in
    subst (λ n. Follows g.row.K c.args.self.now (drop n c.args.numbers.now) (low_words c.args.x.now) (low_words c.loop-place.own)) none c.loop-place.invariant.low

pub returns-clause-high : goal.returns-clause-high
returns-clause-high g c =
    let none : c.loop-place.place ≡ 0 = omega arith in
    subst (λ n. Follows g.row.K c.args.self.now (drop n c.args.numbers.now) (high_words c.args.x.now) (high_words c.loop-place.own)) none c.loop-place.invariant.high

pub advance_by-requires : goal.advance_by-requires
advance_by-requires g c =
    let small = c.requires.numbers (c.loop-place.place - 1) (omega arith) in (
      search rules,
      (
        search rules,
        (
          λ one. subst (λ (n : Moving). IsOfFirst g.row.K n) (sym c.event.ensures.low) (record { lowered = c.event.ensures.lowered; alone = c.requires.alone one _ small }),
          λ one. subst (λ (n : Moving). IsOfFirst g.row.K n) (sym c.event.ensures.high) (record { lowered = c.event.ensures.lowered; alone = c.requires.alone one _ small }),
        ),
      ),
    )
