-- A list of parts in an array is determined by its front, where all after the front is one part that says nothing.
use Rattle.std.specs.Prelude.{pos}
use Rattle.psi_guard.specs.declared.parts.Part.{Part}

-- what stands in a place that holds no part
abbrev pub no_part : Part
no_part = record { queue = 0; least = 0; most = 0; shift = pos 0; floor = 0; ceiling = 0 }
