-- Answers in the proof of `ending::Ending::line`.
use Rattle.psi_reply.proofs.ending.Ending.line.Goals as goal

pub returns-in-NetUnread : goal.returns-in-NetUnread
returns-in-NetUnread c = rw c.in-NetUnread.is (c.network_unread_line.ensures c.in-NetUnread.field-0.now)

pub returns-in-LogUnread : goal.returns-in-LogUnread
returns-in-LogUnread c = rw c.in-LogUnread.is (c.log_unread_line.ensures c.in-LogUnread.field-0.now)
