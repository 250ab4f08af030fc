-- How many bytes a text leaves of a room.
use Rattle.std.proofs.Common.{◌≡◌, ℕ, suc, ◌+◌, ◌-◌, ◌<◌, ◌≤◌, List, ◌++◌, length, true, false, ◌↔◌, IsTrue, refl, sym, ◌∙◌, ap, length-append, arith}
use Rattle.psi_rate.specs.Composition.{SystemParts}
use Rattle.psi_log_format.specs.declared.header.Header.{Header}
use Rattle.psi_log_format.specs.Text.{log_text}
use Rattle.psi_log_writer.specs.Recorded.{log_of}
use Rattle.psi_log_writer.specs.Walking.{line_in, text_in}
use Rattle.psi_log_writer.proofs.TextLemmas.{text-more, text-rest}

-- whether a text fits
pub fits-yes : (size : ℕ) → size ≤ 33554432 → IsTrue true ↔ (size ≤ 33554432)
fits-yes size fits = (λ is. fits, λ short. refl)

fits-no : (size : ℕ) → 33554432 < size → IsTrue false ↔ (size ≤ 33554432)
fits-no size long = (λ no. absurd (cc), λ short. absurd (omega arith))

-- a line that is longer than what is left
line-past : (most room : ℕ) (text line next held rest whole : List ℕ) → room + length text ≡ most → held ≡ line → next ≡ text ++ line → next ++ rest ≡ whole
    → (length held ≤ room → ⊥) → most < length whole
line-past most room text line next held rest whole left same is ends long =
    let count : length next ≡ length text + length line = ap (λ (xs : List ℕ). length xs) is ∙ length-append text line in
    let size : length held ≡ length line = ap (λ (xs : List ℕ). length xs) same in
    let all : length whole ≡ length next + length rest = sym (ap (λ (xs : List ℕ). length xs) ends) ∙ length-append next rest in
    omega arith

-- a line that isn't
line-fits : (most room after : ℕ) (text line next held : List ℕ) → room + length text ≡ most → held ≡ line → next ≡ text ++ line → length held ≤ room
    → room - length held ≡ after → after + length next ≡ most
line-fits most room after text line next held left same is short less =
    let count : length next ≡ length text + length line = ap (λ (xs : List ℕ). length xs) is ∙ length-append text line in
    let size : length held ≡ length line = ap (λ (xs : List ℕ). length xs) same in
    omega arith

-- the line at a place, where the text before it is taken off the room
module _ {E : Type 0} (function : E → List ℕ → List ℕ) (system : SystemParts E) (words : ℕ → ℕ) (h : Header) (state : List ℕ) (place room : ℕ) (line : List ℕ)
    (left : room + length (text_in function system words h state place) ≡ 33554432) (is : line ≡ line_in function system words h state place) where
  pub room-past : h.version ≡ 2 → place < h.horizon + 3 → (length line ≤ room → ⊥) → IsTrue false ↔ (length (log_text (log_of function system words h state)) ≤ 33554432)
  room-past version inside long =
      let rest = text-rest function system words h state (suc place) version (omega arith) in
      fits-no _ (line-past 33554432 room (text_in function system words h state place) (line_in function system words h state place) (text_in function system words h state (suc place)) line
      rest.0 (log_text (log_of function system words h state)) left is (text-more function system words h state place) rest.1 long)

  pub room-after : (after : ℕ) → length line ≤ room → room - length line ≡ after → after + length (text_in function system words h state (suc place)) ≡ 33554432
  room-after after short less =
      line-fits 33554432 room after (text_in function system words h state place) (line_in function system words h state place) (text_in function system words h state (suc place)) line
      left is (text-more function system words h state place) short less
