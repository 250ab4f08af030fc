-- The exit status of each ending, and what a status says of the two texts.
use Rattle.std.specs.Prelude.{ℕ}
use Rattle.psi_merge.specs.declared.status.Status.{Status}
use Rattle.psi_merge.specs.declared.status.Status.TheVariants.{Done, Usage, Refused, OtherNetwork, TooLarge, ReadFault, WriteFault, OutOfMemory}

-- the number with which the program ends
abbrev pub status_code : Status → ℕ
status_code Done = 0
status_code Usage = 2
status_code Refused = 3
status_code OtherNetwork = 4
status_code TooLarge = 5
status_code ReadFault = 6
status_code WriteFault = 7
status_code OutOfMemory = 8

-- the statuses of a reply, which the words and the files alone decide
abbrev pub IsReplied : Status → Type 0
IsReplied Done = Unit {0}
IsReplied Usage = Unit {0}
IsReplied Refused = Unit {0}
IsReplied OtherNetwork = Unit {0}
IsReplied TooLarge = Unit {0}
IsReplied status = ⊥

-- the statuses that come with a line in err
abbrev pub IsReported : Status → Type 0
IsReported Done = ⊥
IsReported WriteFault = ⊥
IsReported status = Unit {0}
