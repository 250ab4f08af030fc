-- The words before it are names of files.
use Rattle.std.proofs.Common.{◌≡◌, map, drop}
use Rattle.std.specs.Prelude.{string_bytes}
use Rattle.std.specs.List.{list_all}
use Rattle.psi_merge.specs.Reply.{is_file}
use Rattle.psi_merge.proofs.files.all_files.Given as goal

abbrev pub invariant-loop-word : goal.invariant-loop-word
invariant-loop-word l = list_all is_file (map string_bytes (drop l.word-index l.words)) ≡ list_all is_file (map string_bytes l.words)
