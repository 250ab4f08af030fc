-- Invariants of the loops of `forms::are_shaped`.
use Rattle.std.specs.Prelude.{◌≡◌, map, drop}
use Rattle.std.specs.List.{list_all}
use Rattle.psi_log_words.specs.Words.{has_pieces}
use Rattle.psi_log_words.proofs.forms.are_shaped.Given as goal

abbrev pub invariant-loop-word : goal.invariant-loop-word
invariant-loop-word l =
    list_all (has_pieces l.count) (map (λ word. word.now) (drop l.word-index l.words)) ≡ list_all (has_pieces l.count) (map (λ word. word.now) l.words)
