-- Answers in the proof of `write_log`.
use Rattle.psi_log_writer.proofs.SendingLemmas.{sends-whole, sends-prefix, sends-took, sends-took_part, sends-failed, sends-counts, sends-taken, sends-spared, sends-takes_on}
use Rattle.psi_log_writer.proofs.writing.write_log.Goals as goal

pub returns : goal.returns
returns g c =
    let sent = c.write_lines.ensures.sent in
    record {
      whole = sends-whole _ _ _ _ sent;
      prefix = sends-prefix _ _ _ _ sent;
      took = sends-took _ _ _ _ sent;
      took_part = sends-took_part _ _ _ _ sent;
      failed = sends-failed _ _ _ _ sent;
      counts = sends-counts _ _ _ _ sent;
      taken = sends-taken _ _ _ _ sent;
      spared = sends-spared _ _ _ _ sent;
      takes_on = sends-takes_on _ _ _ _ sent;
      system = c.write_lines.ensures.system;
      words = c.write_lines.ensures.words;
    }
