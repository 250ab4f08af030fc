-- The numbers of a state, joined by commas.
use Rattle.std.specs.Prelude.{◌≡◌, ℕ, ◌+◌, ◌/◌, ◌%◌, ◌<◌, ◌≤◌, List, [], ◌∷◌, ◌++◌, length, take, slice_index}
use Rattle.std.specs.Fmt.{decimal}
use Rattle.std.proofs.Common.{ap, ◌∙◌, append_assoc, arith}
use Rattle.std.proofs.lemmas.Fmt.{decimal_digit, decimal_step}
use Rattle.std.proofs.lemmas.Grind.{common_steps}
use Rattle.psi_log_format.proofs.JoinedLemmas.{numbers_text_more}
use Rattle.psi_reply.specs.Texts.{state_text}

-- a text that holds the front of a state holds one number more, once it is appended after a comma
pub state_text_pushed : (base before after state : List ℕ) (i : ℕ) → 1 ≤ i → i < length state → before ≡ base ++ state_text (take i state)
    → after ≡ before ++ (44 ∷ decimal (slice_index state i)) → after ≡ base ++ state_text (take (i + 1) state)
state_text_pushed base before after state i some small held pushed = grind (arith, common_steps, append_assoc, numbers_text_more)

-- a number below 100 of two digits
pub decimal_two : (n : ℕ) → 10 ≤ n → n < 100 → decimal n ≡ (48 + n / 10) ∷ (48 + n % 10) ∷ []
decimal_two n some small = decimal_step n some (omega arith) ∙ ap (λ (front : List ℕ). front ++ (48 + n % 10) ∷ []) (decimal_digit (n / 10) (omega arith))
