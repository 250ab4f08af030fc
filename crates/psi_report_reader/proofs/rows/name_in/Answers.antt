-- Answers in the proof of `rows::name_in`.
use Rattle.psi_report_reader.proofs.NameLemmas.{name-valid, name-invalid}
use Rattle.psi_report_reader.proofs.rows.name_in.Goals as goal

pub returns-in-Ok : goal.returns-in-Ok
returns-in-Ok c = name-valid c.args.word.now c.in-Ok.text.now c.name_of.result c.name_of.ensures c.in-Ok.ensures.cases.0 c.in-Ok.ensures.cases.1

pub returns-in-Err : goal.returns-in-Err
returns-in-Err c = name-invalid c.args.word.now c.in-Err.ensures.cases.0
