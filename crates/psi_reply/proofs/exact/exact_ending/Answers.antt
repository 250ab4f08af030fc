-- Answers in the proof of `exact::exact_ending`.
use Rattle.std.proofs.Common.{subst, refl}
use Rattle.psi_reply.specs.Surveys.{survey_text}
use Rattle.psi_reply.specs.Ended.{ending_of}
use Rattle.psi_reply.specs.Ending.{EndsWith}
use Rattle.psi_reply.specs.Exact.{state_count}
use Rattle.psi_reply.proofs.SurveyingLemmas.{survey_many, surveyed_reply}
use Rattle.psi_reply.proofs.exact.exact_ending.Goals as goal

pub returns-in-Err-TooManyStates : goal.returns-in-Err-TooManyStates
unfolding state_count
returns-in-Err-TooManyStates c =
    survey_many c.args.net.now c.args.seed c.args.stream c.args.h (rw c.in-Err-TooManyStates.field-0-is at c.in-Err-TooManyStates.ensures.refused)

pub returns : goal.returns
returns c =
    let told = c.in-Ok.ensures in
    let wanted = survey_text c.count_of.result c.in-Ok.survey.sizes c.in-Ok.survey.meeting c.in-Ok-region_of.region in
    subst (EndsWith (ending_of c.printed.result))
    (surveyed_reply c.args.net.now c.args.seed c.args.stream c.args.h c.count_of.result c.in-Ok.survey.sizes c.in-Ok.survey.meeting c.in-Ok-region_of.region c.meeting_status.result wanted
    told.few c.count_of.ensures told.sizes told.meeting c.in-Ok-region_of.ensures c.meeting_status.ensures refl)
    (c.printed.ensures.ends wanted c.survey_text-text.ensures)
