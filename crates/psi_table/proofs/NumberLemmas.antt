-- The decimal digits of a number, a pair at a time.
use Rattle.std.specs.Prelude.{◌≡◌, ℕ, ◌+◌, ◌/◌, ◌%◌, ◌^◌, ◌<◌, ◌≤◌, List, [], ◌∷◌, ◌++◌}
use Rattle.std.specs.Fmt.{decimal}
use Rattle.std.proofs.Common.{ap, sym, ◌∙◌, append_assoc, arith}
use Rattle.std.proofs.lemmas.Fmt.{decimal_digit, decimal_step}

-- a number below 10 is one digit
pub decimal_one : (n : ℕ) → n < 10 → decimal n ≡ (48 + n) ∷ []
decimal_one n small = decimal_digit n small

-- two digits
abbrev pub pair : ℕ → List ℕ
pair n = (48 + n / 10) ∷ (48 + n % 10) ∷ []

-- a number below 100 is two digits
pub decimal_two : (n : ℕ) → 10 ≤ n → n < 100 → decimal n ≡ pair n
decimal_two n some small = decimal_step n some (omega arith) ∙ ap (λ (front : List ℕ). front ++ (48 + n % 10) ∷ []) (decimal_digit (n / 10) (omega arith))

-- the last two digits of a number come after those of its hundreds
pub decimal_pair : (n : ℕ) → 100 ≤ n → n < 2 ^ 64 → decimal n ≡ decimal (n / 100) ++ pair (n % 100)
decimal_pair n some fits =
    let hundreds : n / 10 / 10 ≡ n / 100 = omega arith in
    let tens : n / 10 % 10 ≡ n % 100 / 10 = omega arith in
    let ones : n % 10 ≡ n % 100 % 10 = omega arith in
    decimal_step n (omega arith) fits
    ∙ ap (λ (front : List ℕ). front ++ (48 + n % 10) ∷ []) (decimal_step (n / 10) (omega arith) (omega arith))
    ∙ append_assoc (decimal (n / 10 / 10)) ((48 + n / 10 % 10) ∷ []) ((48 + n % 10) ∷ [])
    ∙ ap (λ m. decimal m ++ (48 + n / 10 % 10) ∷ (48 + n % 10) ∷ []) hundreds
    ∙ ap (λ m. decimal (n / 100) ++ (48 + m) ∷ (48 + n % 10) ∷ []) tens
    ∙ ap (λ m. decimal (n / 100) ++ (48 + n % 100 / 10) ∷ (48 + m) ∷ []) ones

-- pieces of a text that are put behind it
pub pieces_two : (old first second whole : List ℕ) → first ++ second ≡ whole → (old ++ first) ++ second ≡ old ++ whole
pieces_two old first second whole is = append_assoc old first second ∙ ap (λ (xs : List ℕ). old ++ xs) is

-- the last four digits of a number come after those of its ten thousands
pub decimal_pairs : (old : List ℕ) (n : ℕ) → 10000 ≤ n → n < 2 ^ 64 → ((old ++ decimal (n / 10000)) ++ pair (n / 100 % 100)) ++ pair (n % 100) ≡ old ++ decimal n
decimal_pairs old n some fits =
    let front : n / 100 / 100 ≡ n / 10000 = omega arith in
    let middle : decimal (n / 10000) ++ pair (n / 100 % 100) ≡ decimal (n / 100) =
    ap (λ m. decimal m ++ pair (n / 100 % 100)) (sym front) ∙ sym (decimal_pair (n / 100) (omega arith) (omega arith)) in
    ap (λ (xs : List ℕ). xs ++ pair (n % 100)) (pieces_two old (decimal (n / 10000)) (pair (n / 100 % 100)) (decimal (n / 100)) middle)
    ∙ pieces_two old (decimal (n / 100)) (pair (n % 100)) (decimal n) (sym (decimal_pair n (omega arith) fits))
