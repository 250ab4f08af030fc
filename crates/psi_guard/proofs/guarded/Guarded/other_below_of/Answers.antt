-- Answers in the proof of `Guarded::other_below_of`.
use Rattle.std.proofs.Common.{rules}
use Rattle.std.proofs.lemmas.Bool.{le-ltb}
use Rattle.psi_guard.proofs.StepsLemmas.{other_below-none}
use Rattle.psi_guard.proofs.guarded.Guarded.other_below_of.Goals as goal

pub returns-then-part_of-eq0 : goal.returns-then-part_of-eq0
returns-then-part_of-eq0 c = search (rules, other_below-none, le-ltb)
