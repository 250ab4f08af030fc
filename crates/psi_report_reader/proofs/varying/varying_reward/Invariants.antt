-- Up to here no greatest value differs from its least.
use Rattle.std.proofs.Common.{◌≡◌, ◌-◌, drop, slice_index_or}
use Rattle.psi_report_reader.specs.Sound.{varying_behind, varying_reward}
use Rattle.psi_report_reader.proofs.JudgeLemmas.{none}
use Rattle.psi_report_reader.proofs.varying.varying_reward.Given as goal

abbrev pub invariant-loop-place : goal.invariant-loop-place
invariant-loop-place l = varying_behind l.place (slice_index_or l.figures (l.place - 1) none) (drop l.place l.figures) ≡ varying_reward l.figures
