-- Digits, taken one after another as a loop does.
use Rattle.std.specs.Prelude.{◌≡◌, ℕ, ◌+◌, ◌<◌, ◌≤◌, List, length, drop, Some, None, refl}
use Rattle.std.proofs.Common.{get_or}
use Rattle.std.proofs.lemmas.List.{drop_more, drop_all}
use Rattle.psi_report_reader.specs.Numbers.{with_digit, with_digits}

pub digit_taken : (word : List ℕ) (i value next : ℕ) → i < length word → with_digit value (get_or word i 0) ≡ Some next
    → with_digits value (drop i word) ≡ with_digits next (drop (i + 1) word)
unfolding with_digits
digit_taken word i value next small taken = rw (drop_more word i 0 small, taken) refl

pub digit_refused : (word : List ℕ) (i value : ℕ) → i < length word → with_digit value (get_or word i 0) ≡ None
    → with_digits value (drop i word) ≡ None
unfolding with_digits
digit_refused word i value small refused = rw (drop_more word i 0 small, refused) refl

pub digits_end : (word : List ℕ) (i value : ℕ) → length word ≤ i → with_digits value (drop i word) ≡ Some value
unfolding with_digits
digits_end word i value past = rw (drop_all i word past) refl
