use Rattle.std.proofs.Common.{◌≡◌, ◌*◌}
use Rattle.psi_follow_packed.proofs.DigitsLemmas.{digits}
use Rattle.psi_follow_packed.proofs.BuildingLemmas.{last_fields}
use Rattle.psi_follow_packed.proofs.layout.Layout.word.Given as goal

abbrev pub invariant-loop-done : goal.invariant-loop-done
invariant-loop-done g l = l.word ≡ digits l.self-inside.bits l.done (last_fields l.x (l.at * l.self-inside.fields) l.self-inside.fields l.done)
