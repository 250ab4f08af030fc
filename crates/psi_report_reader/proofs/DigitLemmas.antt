-- The decimal digits of a number are read as this number.
use Rattle.std.specs.Prelude.{◌≡◌, ℕ, ◌+◌, ◌*◌, ◌/◌, ◌%◌, ◌^◌, ◌<◌, ◌≤◌, ℤ, pos, negsuc, List, [], ◌∷◌, ◌++◌, length, All, Some, suc, refl}
use Rattle.std.specs.Fmt.{decimal, signed_decimal}
use Rattle.std.specs.Int.RustNames.{unsigned_abs}
use Rattle.std.specs.Option.{option_and_then}
use Rattle.std.proofs.Common.{ap, ◌∙◌, arith}
use Rattle.std.proofs.lemmas.Bool.{lt-ltb, ne_eqb}
use Rattle.std.proofs.lemmas.Bool.Decides.{nat_tests}
use Rattle.std.proofs.lemmas.Fmt.{decimal_by_steps_wide}
use Rattle.std.proofs.lemmas.List.{length-append}
use Rattle.std.proofs.lemmas.List.Elements.{All-nil, All-cons, All-head, All-push}
use Rattle.std.proofs.lemmas.Nat.{div-add-mod'}
use Rattle.psi_report_reader.specs.Numbers.{with_digit, with_digits, magnitude, integer_of, small, count_in}

-- a decimal digit of ASCII
pub record IsDigit (byte : ℕ) : Type 0 where
  pub least : 48 ≤ byte
  pub most : byte ≤ 57

-- a number is that of these digits, of which there is one at least
pub record AreDigitsOf (n : ℕ) (ds : List ℕ) : Type 0 where
  pub some : 0 < length ds
  pub digits : All IsDigit ds
  pub value : n < 10 ^ 37 → with_digits 0 ds ≡ Some n

digit-value : (value n byte : ℕ) → byte ≡ 48 + n → n < 10 → value < 10 ^ 36 → with_digit value byte ≡ Some (value * 10 + n)
unfolding with_digit
digit-value value n byte is few fits = grind (arith, nat_tests)

-- one more digit at the end
digits-push : (value : ℕ) (ds : List ℕ) (byte : ℕ) → with_digits value (ds ++ byte ∷ []) ≡ option_and_then (λ w. with_digit w byte) (with_digits value ds)
unfolding with_digits
digits-push value [] byte = grind arith
digits-push value (d ∷ ds) byte =
    let rest : (w : ℕ) → with_digits w (ds ++ byte ∷ []) ≡ option_and_then (λ v. with_digit v byte) (with_digits w ds) = λ w. digits-push w ds byte in
    grind (arith, rest)

one-digit : (n : ℕ) → n < 10 → AreDigitsOf n ((48 + n) ∷ [])
unfolding with_digits
one-digit n few = record {
  some = omega arith;
  digits = All-cons IsDigit (48 + n) [] (record { least = omega arith; most = omega arith }) (All-nil IsDigit);
  value = λ fits. rw (digit-value 0 n (48 + n) refl few (omega arith)) (ap Some (omega arith));
}

more-digits : (n : ℕ) (ds : List ℕ) → 10 ≤ n → AreDigitsOf (n / 10) ds → AreDigitsOf n (ds ++ (48 + n % 10) ∷ [])
more-digits n ds large front =
    let whole : n / 10 * 10 + n % 10 ≡ n = div-add-mod' n 10 in
    let last : n % 10 < 10 = omega arith in
    record {
      some = (let long : length (ds ++ (48 + n % 10) ∷ []) ≡ length ds + 1 = length-append ds ((48 + n % 10) ∷ []) in omega arith);
      digits = All-push IsDigit ds (48 + n % 10) front.digits (record { least = omega arith; most = omega arith });
      value = λ fits.
          digits-push 0 ds (48 + n % 10)
          ∙ ap (option_and_then (λ w. with_digit w (48 + n % 10))) (front.value (omega arith))
          ∙ digit-value (n / 10) (n % 10) (48 + n % 10) refl last (omega arith)
          ∙ ap Some whole;
    }

pub decimal-digits : (n : ℕ) → n < 10 ^ 64 → AreDigitsOf n (decimal n)
decimal-digits n fits = decimal_by_steps_wide AreDigitsOf one-digit more-digits n fits

pub magnitude-decimal : (n : ℕ) → n < 10 ^ 37 → magnitude (decimal n) ≡ Some n
magnitude-decimal n fits = (decimal-digits n (omega arith)).value fits

pub count-decimal : (n : ℕ) → n < 2 ^ 64 → count_in (decimal n) ≡ Some n
unfolding count_in
count-decimal n fits = ap (option_and_then small) (magnitude-decimal n (omega arith)) ∙ rw (lt-ltb n (2 ^ 64) fits) refl

digits-integer : (n : ℕ) (word : List ℕ) → AreDigitsOf n word → n < 10 ^ 37 → integer_of word ≡ Some (pos n)
digits-integer n [] are fits = (let some = are.some in absurd (omega arith))
digits-integer n (d ∷ ds) are fits =
    let digit : IsDigit d = All-head IsDigit d ds are.digits in
    rw (ne_eqb d 45 (λ e. absurd (omega arith)), are.value fits) refl

pub integer-signed : (z : ℤ) → unsigned_abs z < 10 ^ 37 → integer_of (signed_decimal z) ≡ Some z
integer-signed (pos n) fits = digits-integer n (decimal n) (decimal-digits n (omega arith)) fits
integer-signed (negsuc n) fits = rw (magnitude-decimal (suc n) fits) refl
