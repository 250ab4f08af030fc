-- States that wait in an array of numbers to be put onto a list.
use Rattle.std.specs.Prelude.{◌≡◌, ◌-◌, ℕ, zero, suc, ◌+◌, ◌*◌, ◌<◌, ◌≤◌, ◌^◌, List, [], ◌∷◌, ◌++◌, length, take, true, refl}
use Rattle.std.specs.Ordering.{is_lt}
use Rattle.std.proofs.Common.{get_or, set, ap, sym, ◌∙◌, subst, arith, append_assoc}
use Rattle.std.proofs.lemmas.List.{set-append_right, take-take, take-append-le, length-take-le, length-set, get_or-set_same}
use Rattle.std.proofs.Math.Seq.{take-set-lt, take-append-add}
use Rattle.psi_state.specs.Sets.{state_cmp}
use Rattle.psi_log_format.specs.Rows.{rows}
use Rattle.psi_log_format.proofs.RowsLemmas.{rows_push}
use Rattle.psi_log_scan.proofs.RowsLemmas.{above_set}

-- a number that is put where another was put
set_twice : (xs : List ℕ) (i a b : ℕ) → set (set xs i a) i b ≡ set xs i b
set_twice [] i a b = refl
set_twice (x ∷ xs) zero a b = refl
set_twice (x ∷ xs) (suc i) a b = ap (λ (ys : List ℕ). x ∷ ys) (set_twice xs i a b)

-- numbers in their range
pub range_set : (xs : List ℕ) (q n : ℕ) → ((i : ℕ) → get_or xs i 0 < 2 ^ 16) → n < 2 ^ 16 → (i : ℕ) → get_or (set xs q n) i 0 < 2 ^ 16
range_set [] q n all small i = all i
range_set (x ∷ xs) zero n all small zero = small
range_set (x ∷ xs) zero n all small (suc i) = all (suc i)
range_set (x ∷ xs) (suc q) n all small zero = all zero
range_set (x ∷ xs) (suc q) n all small (suc i) = range_set xs q n (λ j. all (suc j)) small i

-- of two states that differ in one number
pub above_other : (row : List ℕ) (q last n : ℕ) → q < length row → last < n → is_lt (state_cmp (set row q last) (set row q n)) ≡ true
above_other row q last n within high =
    let size = length-set row q last in
    let number = get_or-set_same row q last 0 within in
    subst (λ (y : List ℕ). is_lt (state_cmp (set row q last) y) ≡ true) (set_twice row q last n) (above_set (set row q last) q n (omega arith) (omega arith))

-- the first of eight numbers that are put after others
pub front_put : (numbers part row rest : List ℕ) (filled count : ℕ) → part ≡ take 8 row → filled ≤ length numbers → count ≤ 8 → 32 ≤ length row
    → take (filled + count) (take filled numbers ++ (part ++ rest)) ≡ take filled numbers ++ take count row
front_put numbers part row rest filled count is few small long =
    let size = length-take-le filled numbers few in
    let eight = ap length is ∙ length-take-le 8 row (omega arith) in
    ap (λ (k : ℕ). take (k + count) (take filled numbers ++ (part ++ rest))) (sym size) ∙ take-append-add (take filled numbers) (part ++ rest) count
    ∙ ap (λ (xs : List ℕ). take filled numbers ++ xs) (take-append-le count part rest (omega arith) ∙ ap (take count) is ∙ take-take count 8 row small)

-- a state after those that wait
pub put_behind : (numbers new row : List ℕ) (filled count q n : ℕ) → filled ≤ length numbers → q < count → take (filled + count) new ≡ take filled numbers ++ row
    → take (filled + count) (set new (filled + q) n) ≡ take filled numbers ++ set row q n
put_behind numbers new row filled count q n few within is =
    let place : filled + q - filled ≡ q = omega arith in
    take-set-lt (filled + count) new (filled + q) n (omega arith) ∙ ap (λ (xs : List ℕ). set xs (filled + q) n) is
    ∙ set-append_right (take filled numbers) row filled (filled + q) n (length-take-le filled numbers few) (omega arith)
    ∙ ap (λ (k : ℕ). take filled numbers ++ set row k n) place

-- is one state more
pub gathered_more : (states all : List (List ℕ)) (numbers new y : List ℕ) (filled count queues : ℕ) → states ++ rows count queues (take filled numbers) ≡ all
    → take (filled + queues) new ≡ take filled numbers ++ y → filled ≡ count * queues → filled ≤ length numbers → length y ≡ queues
    → states ++ rows (count + 1) queues (take (filled + queues) new) ≡ all ++ y ∷ []
gathered_more states all numbers new y filled count queues are is full few long =
    ap (λ (xs : List ℕ). states ++ rows (count + 1) queues xs) is
    ∙ ap (λ (more : List (List ℕ)). states ++ more) (rows_push count queues (take filled numbers) y (length-take-le filled numbers few ∙ full) long)
    ∙ sym (append_assoc states (rows count queues (take filled numbers)) (y ∷ [])) ∙ ap (λ (xs : List (List ℕ)). xs ++ y ∷ []) are
