-- Laws. The event that changes nothing.
use Rattle.std.specs.Prelude.{ℕ, List}
use Rattle.psi_event.specs.Law.{IsClosed}
use Rattle.psi_event.specs.Idle.{unchanged}

pub unchanged-closed : (caps : List ℕ) → IsClosed caps unchanged
unchanged-closed caps = record { each = λ x within. within }
