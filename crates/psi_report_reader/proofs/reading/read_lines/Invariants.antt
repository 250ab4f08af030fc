-- The lines that are left tell what all tell.
use Rattle.std.proofs.Common.{◌≡◌, ◌+◌, map, drop}
use Rattle.psi_report_reader.specs.Reading.{blank, read_lines}
use Rattle.psi_report_reader.proofs.reading.read_lines.Given as goal

abbrev pub invariant-loop-place : goal.invariant-loop-place
invariant-loop-place l = read_lines (l.place + 1) l.report (map (λ line. line.now) (drop l.place l.lines)) ≡ read_lines 1 blank (map (λ line. line.now) l.lines)
