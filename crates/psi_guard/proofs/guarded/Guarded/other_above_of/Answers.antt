-- Answers in the proof of `Guarded::other_above_of`.
use Rattle.std.proofs.Common.{rules}
use Rattle.std.proofs.lemmas.Bool.{le-ltb}
use Rattle.psi_guard.proofs.StepsLemmas.{other_above-none}
use Rattle.psi_guard.proofs.guarded.Guarded.other_above_of.Goals as goal

pub returns-else-part_of-get : goal.returns-else-part_of-get
returns-else-part_of-get c = search (rules, other_above-none, le-ltb)
