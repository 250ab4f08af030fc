-- Answers in the proof of `have_corners_parted`.
use Rattle.std.proofs.Common.{sym, ◌∙◌}
use Rattle.psi_follow_packed.specs.Views.{low_words, high_words}
use Rattle.psi_follow_sets.proofs.MeetingLemmas.{words-part, not-both}
use Rattle.psi_follow_sets.proofs.sets.have_corners_parted.Goals as goal

pub returns : goal.returns
returns g c = λ caps functions lo hi prepared begun parted.
    words-part g.row.K c.args.program.now caps functions c.args.numbers.now (low_words c.args.x.now) (high_words c.args.x.now) (low_words c.follow.new.x) (high_words c.follow.new.x) lo hi
    prepared begun c.follow.ensures.low c.follow.ensures.high
    (λ same. not-both c.is.result parted (c.is.ensures.1 (c.low.ensures ∙ same ∙ sym c.high.ensures)))
