-- Answers in the proof of `header::push_column`.
use Rattle.std.proofs.Common.{rules}
use Rattle.psi_table.proofs.HeaderLemmas.{name_short}
use Rattle.psi_table.proofs.header.push_column.Goals as goal

pub returns-clause-fields : goal.returns-clause-fields
returns-clause-fields c = (let short = name_short c.args.name.now c.bytes.ensures.form in search rules)
