-- The description of a network.
use Rattle.std.specs.Prelude.{◌≡◌, List, ℕ, Option, refl}
use Rattle.psi_io.specs.Sink.{appended}
use Rattle.psi_net_model.specs.Network.{Network}
use Rattle.psi_command.specs.declared.status.Status.TheVariants.{Done}
use Rattle.psi_reply.specs.Check.{check_text, AreMarked, IsChecked}

-- what is printed of a network whose marks are right is its description
pub checked_printed : (before after : Option (List ℕ)) (net : Network) → AreMarked net → after ≡ appended before (check_text net) → IsChecked before after Done net
checked_printed before after net marks grew = record { status = refl; text = grew; marks = marks }
