use Rattle.std.proofs.Common.{subst}
use Rattle.psi_follow_packed.specs.Views.{low_words, high_words}
use Rattle.psi_follow_packed.specs.Programs.{Follows}
use Rattle.psi_follow_packed.specs.declared.pairs.PackedPair.{PackedPair}
use Rattle.psi_follow_sets.proofs.FollowingLemmas.{follows-first}
use Rattle.psi_follow_sets.proofs.moving.follow_one.Goals as goal

pub returns-clause-follows : goal.returns-clause-follows
returns-clause-follows g c =
    let p = c.args.program.now in
    let numbers = c.args.numbers.now in
    follows-first p numbers c.args.list.now c.index-list-0.result c.follow.new.x c.requires.some
    (subst (λ (q : PackedPair g.row.K). Follows g.row.K p numbers (low_words q) (low_words c.follow.new.x)) c.index-list-0.is c.follow.ensures.low)
    (subst (λ (q : PackedPair g.row.K). Follows g.row.K p numbers (high_words q) (high_words c.follow.new.x)) c.index-list-0.is c.follow.ensures.high)
