-- What a change of the code is seen as.
use Rattle.psi_log_format.specs.Text.{Change}
use Rattle.psi_log_words.specs.declared.moves.Change.{Change as Read}

-- a change that was read
abbrev pub change : Read → Change
change c = record { queue = c.queue; least = c.least; greatest = c.greatest }
