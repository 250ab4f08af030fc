use Rattle.std.proofs.Common.{sym, ◌∙◌}
use Rattle.psi_state.specs.State.{box}
use Rattle.psi_event.specs.Numbers.{follow_numbers}
use Rattle.psi_follow_sets.specs.Room.{held}
use Rattle.psi_follow_sets.proofs.FollowingLemmas.{meets-all, meets-none}
use Rattle.psi_follow_sets.proofs.packed_set.PackedSet.meeting.Goals as goal

pub returns-in_err-words-clause-meeting : goal.returns-in_err-words-clause-meeting
returns-in_err-words-clause-meeting g c = λ caps functions prepared.
    let states = box c.args.bounds.now.lo c.args.bounds.now.hi in
    c.from_residual.ensures
    ∙ sym (meets-none g.row.K c.args.program.now.packing (follow_numbers functions c.args.numbers.now) (held c.follow.new.self) states
    (c.follow.ensures.follows caps functions states prepared c.fill.ensures.holds) c.in_err-words.ensures)

pub returns-clause-meeting : goal.returns-clause-meeting
returns-clause-meeting g c = λ caps functions prepared.
    let states = box c.args.bounds.now.lo c.args.bounds.now.hi in
    sym (meets-all g.row.K c.args.program.now.packing (follow_numbers functions c.args.numbers.now) (held c.follow.new.self) states c.in_ok-words.words.words c.unpack_one.result
    (c.follow.ensures.follows caps functions states prepared c.fill.ensures.holds) c.in_ok-words.ensures c.unpack_one.ensures)
