-- Invariants of the loops of `logs::stays_of`.
use Rattle.std.specs.Prelude.{◌≡◌}
use Rattle.psi_test_core.proofs.tests.logs.stays_of.Given as goal

-- so many steps are read
abbrev pub invariant-loop : goal.invariant-loop
invariant-loop l = (l.reader.done ≡ l.counter) × (l.reader.header.horizon ≡ l.horizon)
