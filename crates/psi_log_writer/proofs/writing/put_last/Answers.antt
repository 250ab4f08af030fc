-- Answers in the proof of `put_last`.
use Rattle.std.proofs.Common.{[], ◌++◌}
use Rattle.psi_log_writer.proofs.SendingLemmas.{sends-stopped, stopped-passed, sends-last, sent-put}
use Rattle.psi_log_writer.proofs.writing.put_last.Goals as goal

pub returns-in_err-put : goal.returns-in_err-put
returns-in_err-put g c =
    sends-stopped c.from_residual.result _ _ [] (c.args.block.now ++ c.args.line.now) c.from_residual.ensures.0
    (stopped-passed _ _ c.args.block.now c.args.line.now c.bytes.result.now c.bytes.ensures c.in_err-put.ensures)

pub returns : goal.returns
returns g c =
    sends-last c.flush.result _ _ _ c.put.new.self (c.args.block.now ++ c.args.line.now)
    (sent-put _ _ c.args.block.now c.args.line.now c.bytes.result.now c.put.new.self c.bytes.ensures c.in_ok-put.ensures) c.flush.ensures.sent
