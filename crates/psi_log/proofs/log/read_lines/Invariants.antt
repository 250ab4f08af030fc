-- Invariants of the loops of `log::read_lines`.
use Rattle.std.specs.Prelude.{◌≡◌, ◌+◌, ◌-◌, ◌∷◌, length, drop}
use Rattle.psi_log_words.specs.Regions.{box_before}
use Rattle.psi_log.specs.Reading.{read_steps}
use Rattle.psi_log.specs.Inner.LogViews.{entries_of}
use Rattle.psi_log.proofs.StepLemmas.{behind}
use Rattle.psi_log.proofs.log.read_lines.Given as goal

-- what is left of the lines, after the steps that are read, is what all of them are
abbrev pub invariant-loop-done : goal.invariant-loop-done
invariant-loop-done l = record {
  begin : l.regions.regions ≡ l.fn.reader.region ∷ drop 1 l.regions.regions;
  count : length l.regions.regions ≡ length l.steps.items + 1;
  queues : l.regions.queues ≡ l.fn.reader.header.queues;
  header : l.reader.header ≡ l.fn.reader.header;
  done : l.reader.done ≡ l.done;
  value : behind (entries_of l.steps.items (drop 1 l.regions.regions))
      (read_steps l.fn.reader.header (l.fn.reader.header.horizon - l.done) (7 + l.done) (box_before l.fn.reader.header.version l.reader.region) l.reader.rest)
      ≡ read_steps l.fn.reader.header l.fn.reader.header.horizon 7 (box_before l.fn.reader.header.version l.fn.reader.region) l.fn.reader.rest;
}
