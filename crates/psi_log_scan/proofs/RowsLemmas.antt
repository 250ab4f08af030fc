-- The states of a set, read one after another.
use Rattle.std.specs.Prelude.{◌≡◌, ℕ, zero, suc, ◌+◌, ◌-◌, ◌<◌, ◌≤◌, ◌/◌, ◌%◌, ◌^◌, List, [], ◌∷◌, ◌++◌, length, take, drop, Bool, true, ◌&&◌, Option, Some, None, MatchOption, refl}
use Rattle.std.specs.Fmt.{decimal}
use Rattle.std.specs.List.{slice_get}
use Rattle.std.specs.Ordering.{is_lt, nat_cmp}
use Rattle.std.specs.Cmp.Lexicographic.{slice_cmp}
use Rattle.std.proofs.Common.{get_or, set, ap, sym, ◌∙◌, arith, append_assoc, length-append}
use Rattle.std.proofs.lemmas.Bool.{and_parts, and_from, lt-ltb}
use Rattle.std.proofs.lemmas.Fmt.{decimal_digit, decimal_step}
use Rattle.std.proofs.lemmas.List.{take_more, append-nil, drop-append-le, length-set, take-set, get_or-set_same}
use Rattle.std.proofs.lemmas.List.Concat.{flat_map-append}
use Rattle.std.proofs.Math.Seq.{drop-append_seam}
use Rattle.psi_state.specs.Sets.{state_cmp}
use Rattle.psi_log_format.specs.Log.{IsState}
use Rattle.psi_log_format.specs.Text.{numbers_text}
use Rattle.psi_log_format.proofs.RowsLemmas.{less_differs}
use Rattle.psi_log_words.specs.Regions.{ascends}
use Rattle.psi_log_words.proofs.OrderLemmas.{order_none, order_last, order_next}
use Rattle.psi_log_scan.specs.Scanned.{Stands, with_comma, with_commas}
use Rattle.psi_log_scan.specs.Inner.RowsViews.{EndsIn, IsRead}
use Rattle.psi_log_scan.proofs.ScanLemmas.{scanned_more}

-- so many digits
length_more : (n k : ℕ) → 10 ≤ n → n < 2 ^ 16 → length (decimal (n / 10)) ≡ k → length (decimal n) ≡ k + 1
length_more n k high small is = ap length (decimal_step n high (omega arith)) ∙ length-append (decimal (n / 10)) ((48 + n % 10) ∷ []) ∙ (rw is refl)

pub length_one : (n : ℕ) → n < 10 → length (decimal n) ≡ 1
length_one n small = ap length (decimal_digit n small)

pub length_two : (n : ℕ) → 10 ≤ n → n < 100 → length (decimal n) ≡ 2
length_two n high small = length_more n 1 high (omega arith) (length_one (n / 10) (omega arith))

pub length_three : (n : ℕ) → 100 ≤ n → n < 1000 → length (decimal n) ≡ 3
length_three n high small = length_more n 2 (omega arith) (omega arith) (length_two (n / 10) (omega arith) (omega arith))

pub length_four : (n : ℕ) → 1000 ≤ n → n < 10000 → length (decimal n) ≡ 4
length_four n high small = length_more n 3 (omega arith) (omega arith) (length_three (n / 10) (omega arith) (omega arith))

pub length_five : (n : ℕ) → 10000 ≤ n → n < 2 ^ 16 → length (decimal n) ≡ 5
length_five n high small = length_more n 4 (omega arith) small (length_four (n / 10) (omega arith) (omega arith))

-- a front with one number more
pub front_longer : (row : List ℕ) (q : ℕ) → q < length row → length (with_commas (take (q + 1) row)) ≡ length (with_commas (take q row)) + (length (decimal (get_or row q 0)) + 1)
unfolding with_commas
front_longer row q small =
    ap (λ (xs : List ℕ). length (with_commas xs)) (take_more row q 0 small)
    ∙ ap length (flat_map-append with_comma (take q row) (get_or row q 0 ∷ []) ∙ ap (λ (t : List ℕ). with_commas (take q row) ++ t) (append-nil (with_comma (get_or row q 0))))
    ∙ length-append (with_commas (take q row)) (with_comma (get_or row q 0))
    ∙ ap (λ (n : ℕ). length (with_commas (take q row)) + n) (length-append (decimal (get_or row q 0)) (44 ∷ []))

pub front_short : (row : List ℕ) → length (with_commas (take 0 row)) ≡ 0
unfolding with_commas
front_short row = refl

-- a word begins with its fronts
pub text_front : (row : List ℕ) (q : ℕ) → q < length row → numbers_text row ≡ with_commas (take q row) ++ numbers_text (drop q row)
unfolding with_commas numbers_text
text_front row zero small = refl
text_front [] (suc q) small = absurd (omega arith)
text_front (x ∷ []) (suc q) small = absurd (omega arith)
text_front (x ∷ y ∷ ys) (suc q) small =
    ap (λ (t : List ℕ). decimal x ++ (44 ∷ t)) (text_front (y ∷ ys) q (omega arith))
    ∙ sym (append_assoc (with_comma x) (with_commas (take q (y ∷ ys))) (numbers_text (drop q (y ∷ ys)))
    ∙ append_assoc (decimal x) (44 ∷ []) (with_commas (take q (y ∷ ys)) ++ numbers_text (drop q (y ∷ ys))))

-- a state is above another where the first number that differs is
above_at : (x y : List ℕ) (q : ℕ) → take q y ≡ take q x → q < length x → length y ≡ length x → get_or x q 0 < get_or y q 0 → is_lt (state_cmp x y) ≡ true
above_at x y q same within count high =
    less_differs x y q (sym same) within (omega arith) (λ e. omega arith) ∙ lt-ltb (get_or x q 0) (get_or y q 0) high

pub above_set : (x : List ℕ) (q n : ℕ) → q < length x → get_or x q 0 < n → is_lt (state_cmp x (set x q n)) ≡ true
above_set x q n within high =
    let number = get_or-set_same x q n 0 within in
    above_at x (set x q n) q (take-set x q n) within (length-set x q n) (omega arith)

-- states in order, with one more after the last
rising_onto : (xs : List (List ℕ)) (y : List ℕ) (k : ℕ) → k + 1 ≡ length xs → ascends xs ≡ true → ascends (drop k (xs ++ y ∷ [])) ≡ true → ascends (xs ++ y ∷ []) ≡ true
rising_onto [] y k some rising last = absurd (omega arith)
rising_onto (x ∷ []) y zero some rising last = last
rising_onto (x ∷ []) y (suc k) some rising last = absurd (omega arith)
rising_onto (x ∷ z ∷ zs) y zero some rising last = absurd (omega arith)
rising_onto (x ∷ z ∷ zs) y (suc k) some rising last =
    let parts = and_parts (is_lt (state_cmp x z)) (ascends (z ∷ zs)) rising in
    and_from (is_lt (state_cmp x z)) (ascends ((z ∷ zs) ++ y ∷ [])) parts.0 (rising_onto (z ∷ zs) y k (omega arith) parts.1 last)

rising_behind : (first : ℕ) (xs : List (List ℕ)) (y : List ℕ) (k : ℕ) → k + 1 ≡ length xs → first ≤ k → ascends (drop first xs) ≡ true → ascends (drop k (xs ++ y ∷ [])) ≡ true
    → ascends (drop first (xs ++ y ∷ [])) ≡ true
rising_behind zero xs y k some within rising last = rising_onto xs y k some rising last
rising_behind (suc first) [] y k some within rising last = absurd (omega arith)
rising_behind (suc first) (x ∷ xs) y zero some within rising last = absurd (omega arith)
rising_behind (suc first) (x ∷ xs) y (suc k) some within rising last = rising_behind first xs y k (omega arith) (omega arith) rising last

pub rising_more : (first : ℕ) (xs ys : List (List ℕ)) (y : List ℕ) → ys ≡ xs ++ y ∷ [] → first < length xs → ascends (drop first xs) ≡ true → ascends (drop (length xs - 1) ys) ≡ true
    → ascends (drop first ys) ≡ true
rising_more first xs ys y is some rising last =
    ap (λ (zs : List (List ℕ)). ascends (drop first zs)) is
    ∙ rising_behind first xs y (length xs - 1) (omega arith) (omega arith) rising (ap (λ (zs : List (List ℕ)). ascends (drop (length xs - 1) zs)) (sym is) ∙ last)

pub rising_one : (xs ys : List (List ℕ)) (y : List ℕ) (first : ℕ) → ys ≡ xs ++ y ∷ [] → first ≡ length xs → ascends (drop first ys) ≡ true
rising_one xs ys y first made is = ap ascends (ap (drop first) made ∙ ap (λ (k : ℕ). drop k (xs ++ y ∷ [])) is ∙ drop-append_seam xs (y ∷ []))

-- the last two are in order
below_cases : (xs : List (List ℕ)) (i : ℕ) (b : Bool) (o p : Option (List ℕ)) → slice_get xs i ≡ o → slice_get xs (i + 1) ≡ p
    → MatchOption o ⊥ (λ x. MatchOption p ⊥ (λ y. b ≡ is_lt (slice_cmp nat_cmp x y))) → ascends (drop i xs) ≡ (b && ascends (drop (i + 1) xs))
below_cases xs i b None p here next below = absurd below
below_cases xs i b (Some x) None here next below = absurd below
below_cases xs i b (Some x) (Some y) here next below = order_next xs i x y here next ∙ ap (λ (c : Bool). c && ascends (drop (i + 1) xs)) (sym below)

pub below_last : (xs : List (List ℕ)) (i : ℕ) (b : Bool) → i + 2 ≡ length xs
    → MatchOption (slice_get xs i) ⊥ (λ x. MatchOption (slice_get xs (i + 1)) ⊥ (λ y. b ≡ is_lt (slice_cmp nat_cmp x y))) → b ≡ true → ascends (drop (length xs - 2) xs) ≡ true
below_last xs i b last below holds =
    let place : length xs - 2 ≡ i = omega arith in
    let one : ascends (drop (i + 1) xs) ≡ true = order_last xs (i + 1) (omega arith) ∙ order_none xs (i + 1 + 1) (omega arith) in
    ap (λ (k : ℕ). ascends (drop k xs)) place ∙ below_cases xs i b (slice_get xs i) (slice_get xs (i + 1)) refl refl below ∙ and_from b (ascends (drop (i + 1) xs)) holds one

pub below_behind : (xs ys : List (List ℕ)) (y : List ℕ) → ys ≡ xs ++ y ∷ [] → ascends (drop (length ys - 2) ys) ≡ true → ascends (drop (length xs - 1) ys) ≡ true
below_behind xs ys y is order =
    let count : length ys ≡ length xs + 1 = ap length is ∙ length-append xs (y ∷ []) in
    let place : length xs - 1 ≡ length ys - 2 = omega arith in
    ap (λ (k : ℕ). ascends (drop k ys)) place ∙ order

-- the last of the states is the one that was put after them
pub ends_in : (xs ys : List (List ℕ)) (y : List ℕ) → ys ≡ xs ++ y ∷ [] → EndsIn ys y
ends_in xs ys y is =
    let count : length ys ≡ length xs + 1 = ap length is ∙ length-append xs (y ∷ []) in
    let place : length ys - 1 ≡ length xs = omega arith in
    ap (λ (k : ℕ). drop k ys) place ∙ ap (drop (length xs)) is ∙ drop-append_seam xs (y ∷ [])

-- a state above the last one is in order after it
pub above_last : (xs ys : List (List ℕ)) (x y : List ℕ) → EndsIn xs x → ys ≡ xs ++ y ∷ [] → is_lt (state_cmp x y) ≡ true → ascends (drop (length xs - 1) ys) ≡ true
above_last xs ys x y last is above =
    let two : drop (length xs - 1) ys ≡ x ∷ y ∷ [] =
    ap (drop (length xs - 1)) is ∙ drop-append-le (length xs - 1) xs (y ∷ []) (omega arith) ∙ ap (λ (zs : List (List ℕ)). zs ++ y ∷ []) last in
    ap ascends two ∙ and_from (is_lt (state_cmp x y)) true above refl

-- one state more is read, above the last
pub read_more : (queues : ℕ) (text : List ℕ) (at place end : ℕ) (old new newer : List (List ℕ)) (x y : List ℕ) → IsRead queues text at place old new → EndsIn new x → newer ≡ new ++ y ∷ []
    → is_lt (state_cmp x y) ≡ true → Stands text place end (32 ∷ numbers_text y) → end ≤ length text → IsState queues y → IsRead queues text at end old newer
read_more queues text at place end old new newer x y read last is above word within state =
    let count : length newer ≡ length new + 1 = ap length is ∙ length-append new (y ∷ []) in
    let more = read.more in
    record {
      within = within;
      more = omega arith;
      rows = λ begin first are. scanned_more queues text begin place end first new newer y (read.rows begin first are) is word state;
      order = λ first some rising. rising_more first new newer y is (omega arith) (read.order first some rising) (above_last new newer x y last is above);
    }
