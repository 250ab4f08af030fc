-- The exit status of each ending, and what a status says of the two texts.
use Rattle.std.specs.Prelude.{ℕ}
use Rattle.psi_command.specs.declared.status.Status.{Status}
use Rattle.psi_command.specs.declared.status.Status.TheVariants.{Done, NotCoupled, Usage, NetRefused, LogRefused, LogTooLong, ReadFault, WriteFault, OutOfMemory, UnknownReward, TooManyStates, NotClosed, NoSuchTotal}
use Rattle.psi_command.specs.Command.{Command, reward, exact, closed, certify, replay}

-- the number with which the program ends
abbrev pub status_code : Status → ℕ
status_code Done = 0
status_code NotCoupled = 1
status_code Usage = 2
status_code NetRefused = 3
status_code LogRefused = 4
status_code LogTooLong = 5
status_code ReadFault = 6
status_code WriteFault = 7
status_code OutOfMemory = 8
status_code UnknownReward = 9
status_code TooManyStates = 10
status_code NotClosed = 11
status_code NoSuchTotal = 12

-- the statuses that come with a text in out
abbrev pub IsPrinted : Status → Type 0
IsPrinted Done = Unit {0}
IsPrinted NotCoupled = Unit {0}
IsPrinted status = ⊥

-- the statuses that come with a line in err
abbrev pub IsReported : Status → Type 0
IsReported Done = ⊥
IsReported NotCoupled = ⊥
IsReported WriteFault = ⊥
IsReported status = Unit {0}

-- the statuses of a reply
abbrev pub IsReplied : Status → Type 0
IsReplied Done = Unit {0}
IsReplied NotCoupled = Unit {0}
IsReplied Usage = Unit {0}
IsReplied NetRefused = Unit {0}
IsReplied LogRefused = Unit {0}
IsReplied LogTooLong = Unit {0}
IsReplied UnknownReward = Unit {0}
IsReplied TooManyStates = Unit {0}
IsReplied NotClosed = Unit {0}
IsReplied NoSuchTotal = Unit {0}
IsReplied ReadFault = ⊥
IsReplied WriteFault = ⊥
IsReplied OutOfMemory = ⊥

-- the command is a replay
abbrev pub IsReplay : Command → Type 0
IsReplay (replay net log) = Unit {0}
IsReplay command = ⊥

-- the command asks for the log of a sample
abbrev pub IsCertify : Command → Type 0
IsCertify (certify net seed stream) = Unit {0}
IsCertify command = ⊥

-- the command asks for the value of a reward
abbrev pub IsReward : Command → Type 0
IsReward (reward net seed stream name) = Unit {0}
IsReward command = ⊥

-- the command asks for a survey of the composed map
abbrev pub IsExact : Command → Type 0
IsExact (exact net seed stream h) = Unit {0}
IsExact command = ⊥

-- the command asks for a sample of a closed network
abbrev pub IsClosed : Command → Type 0
IsClosed (closed net seed stream total) = Unit {0}
IsClosed command = ⊥

-- the statuses of a reply to a command: only a replay's log is refused, only the log of a sample is too long, only a reward is unknown, only
-- a survey has too many states, and only a sample of a closed network finds an event that is no move, or no state of its total
abbrev pub IsOfCommand : Status → Command → Type 0
IsOfCommand Done command = Unit {0}
IsOfCommand NotCoupled command = Unit {0}
IsOfCommand NetRefused command = Unit {0}
IsOfCommand LogRefused command = IsReplay command
IsOfCommand LogTooLong command = IsCertify command
IsOfCommand UnknownReward command = IsReward command
IsOfCommand TooManyStates command = IsExact command
IsOfCommand NotClosed command = IsClosed command
IsOfCommand NoSuchTotal command = IsClosed command
IsOfCommand status command = ⊥
