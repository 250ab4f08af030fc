-- Answers in the proof of `exact::survey_of`.
use Rattle.std.proofs.Common.{ap}
use Rattle.psi_past.specs.Seeded.{Seeded}
use Rattle.psi_past.specs.SeedWord.{seed_word}
use Rattle.psi_reply.specs.Exact.{state_count}
use Rattle.psi_reply.proofs.SurveyingLemmas.{sizes_by, meeting_by}
use Rattle.psi_reply.proofs.exact.survey_of.Goals as goal

pub returns-clause-sizes : goal.returns-clause-sizes
returns-clause-sizes c =
    let made = c.system-system.ensures in
    sizes_by _ c.system-system.result c.args.net.now c.args.seed c.args.stream c.args.h c.survey.result.sizes _ made.kept
    (record { caps = made.caps; functions = made.functions; rates = made.rates; limit = made.limit; split = made.split })
    (ap (λ (p : Seeded). seed_word p.seed p.stream) c.new-past.ensures) c.survey.ensures.sizes

pub returns-clause-meeting : goal.returns-clause-meeting
returns-clause-meeting c =
    let made = c.system-system.ensures in
    meeting_by _ c.system-system.result c.args.net.now c.args.seed c.args.stream c.args.h c.survey.result.meeting made.kept
    (record { caps = made.caps; functions = made.functions; rates = made.rates; limit = made.limit; split = made.split })
    (rw c.new-past.ensures at c.survey.ensures.least)

pub returns-clause-few : goal.returns-clause-few
unfolding state_count
returns-clause-few c = rw (c.caps.ensures.value, c.system-system.ensures.caps) at c.in_ok-table.ensures.few
