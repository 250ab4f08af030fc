-- A line in pieces: its first word, the further words each preceded by a space, and the line feed.
use Rattle.std.specs.Prelude.{◌≡◌, ℕ, List, [], ◌∷◌, ◌++◌, codes}
use Rattle.std.specs.List.{join_with_byte}
use Rattle.std.specs.Fmt.{decimal}
use Rattle.std.proofs.Common.{ap, sym, ◌∙◌, append_assoc}
use Rattle.std.proofs.lemmas.List.{append-nil}
use Rattle.psi_state.specs.declared.outcome.Step.{Step}
use Rattle.psi_log_format.specs.Log.{LogRegion}
use Rattle.psi_log_format.specs.Text.{line_text, numbers_text, region_words, begin_text, step_text, end_text}
use Rattle.psi_log_format.specs.Room.{spaced_words}
use Rattle.psi_log_format.proofs.JoinedLemmas.{spaced-append, one_word}

pub joined-words : (word : List ℕ) (words : List (List ℕ)) → join_with_byte 32 (word ∷ words) ≡ word ++ spaced_words words
unfolding spaced_words
joined-words word [] = sym (append-nil word)
joined-words word (next ∷ words) = ap (λ (t : List ℕ). word ++ (32 ∷ t)) (joined-words next words)

pub line_pieces : (word : List ℕ) (words : List (List ℕ)) → line_text (word ∷ words) ≡ word ++ (spaced_words words ++ codes "\n")
unfolding line_text
line_pieces word words = ap (λ (t : List ℕ). t ++ codes "\n") (joined-words word words) ∙ append_assoc word (spaced_words words) (codes "\n")

pub begin_pieces : (region : LogRegion) → begin_text region ≡ codes "begin" ++ (spaced_words (region_words region) ++ codes "\n")
unfolding begin_text
begin_pieces region = line_pieces (codes "begin") (region_words region)

pub step_pieces : (s : Step) (region : List (List ℕ))
    → step_text s region ≡ (codes "step" ++ spaced_words (decimal s.number ∷ decimal s.event ∷ [])) ++ (spaced_words region ++ codes "\n")
unfolding step_text
step_pieces s region =
    line_pieces (codes "step") (decimal s.number ∷ decimal s.event ∷ region)
    ∙ ap (λ (t : List ℕ). codes "step" ++ (t ++ codes "\n")) (spaced-append (decimal s.number ∷ decimal s.event ∷ []) region)
    ∙ ap (λ (t : List ℕ). codes "step" ++ t) (append_assoc (spaced_words (decimal s.number ∷ decimal s.event ∷ [])) (spaced_words region) (codes "\n"))
    ∙ sym (append_assoc (codes "step") (spaced_words (decimal s.number ∷ decimal s.event ∷ [])) (spaced_words region ++ codes "\n"))

pub end_pieces : (x : List ℕ) → end_text x ≡ codes "end" ++ ((32 ∷ numbers_text x) ++ codes "\n")
unfolding end_text
end_pieces x =
    line_pieces (codes "end") (numbers_text x ∷ []) ∙ ap (λ (t : List ℕ). codes "end" ++ (t ++ codes "\n")) (one_word (numbers_text x))
