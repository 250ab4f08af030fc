-- The program's own ending, as the definition's.
use Rattle.psi_reply.specs.declared.ending.Ending.{Ending as Ended}
use Rattle.psi_reply.specs.declared.ending.Ending.TheVariants.{Printed, Usage, NetRefused, LogRefused, LogRejected, LogTooLong, UnknownReward, TooManyStates, NotClosed, NoSuchTotal, NetUnread, LogUnread, OutOfMemory}
use Rattle.psi_command.specs.declared.status.Status.TheVariants as status
use Rattle.psi_command.specs.Command.{net_file, log_file}
use Rattle.psi_reply.specs.Lines.{unknown_line, log_refused_line, log_rejected_line, too_long_line, too_many_line, not_closed_line, no_total_line}
use Rattle.psi_program.specs.Reply.{text_reply, line_reply}
use Rattle.psi_reply.specs.Reply.{usage_reply, refused_reply}
use Rattle.psi_program.specs.Ending.{replied, unread, no_memory}
use Rattle.psi_reply.specs.Ending.{Ending}

-- the ending that the program's own is
abbrev pub ending_of : Ended → Ending
ending_of (Printed code text) = replied (text_reply code text.items)
ending_of (Usage place) = replied (usage_reply place)
ending_of (NetRefused refusal) = replied (refused_reply refusal)
ending_of (LogRefused line cause) = replied (line_reply status.LogRefused (log_refused_line line cause))
ending_of (LogRejected line cause) = replied (line_reply status.LogRefused (log_rejected_line line cause))
ending_of LogTooLong = replied (line_reply status.LogTooLong too_long_line)
ending_of UnknownReward = replied (line_reply status.UnknownReward unknown_line)
ending_of TooManyStates = replied (line_reply status.TooManyStates too_many_line)
ending_of (NotClosed event) = replied (line_reply status.NotClosed (not_closed_line event))
ending_of NoSuchTotal = replied (line_reply status.NoSuchTotal no_total_line)
ending_of (NetUnread name) = unread (net_file name.now)
ending_of (LogUnread name) = unread (log_file name.now)
ending_of OutOfMemory = no_memory
