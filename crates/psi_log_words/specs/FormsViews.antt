-- What the types of the code are seen as.
use Rattle.std.specs.Prelude.{◌≡◌, ℕ, ◌≤◌, map, length, true}
use Rattle.std.specs.List.{list_all}
use Rattle.psi_log_words.specs.Words.{has_pieces}
use Rattle.psi_log_words.specs.Regions.{Given, given_box, given_set, given_move}
use Rattle.psi_log_words.specs.declared.forms.Given.{Given as Words}
use Rattle.psi_log_words.specs.declared.forms.Given.TheVariants.{Box, Set, Move}

-- the words of a region in their form
abbrev pub given : Words → Given
given (Box lo hi) = given_box lo.now hi.now
given (Set states) = given_set (map (λ word. word.now) states.now)
given (Move from changes) = given_move from.now (map (λ word. word.now) changes.now)

-- each word of a form has its pieces, and a box before the words has so many queues
abbrev pub HasForm : ℕ → Words → Type 0
HasForm queues (Box lo hi) = (has_pieces queues lo.now ≡ true) × (has_pieces queues hi.now ≡ true)
HasForm queues (Set states) = (length states.now ≤ 4096) × (list_all (has_pieces queues) (map (λ word. word.now) states.now) ≡ true)
HasForm queues (Move from changes) = (length from.now.lo ≡ queues) × (list_all (has_pieces 3) (map (λ word. word.now) changes.now) ≡ true)
