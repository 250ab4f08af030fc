-- States that are kept as their numbers.
use Rattle.std.specs.Prelude.{◌≡◌, ℕ, zero, suc, ◌+◌, ◌*◌, ◌<◌, ◌≤◌, ◌-◌, List, [], ◌∷◌, ◌++◌, length, take, drop, slice_set, Some, Bool, ◌&&◌, nat_lt, false, refl}
use Rattle.std.specs.List.{slice_get, list_all}
use Rattle.std.specs.Ordering.{is_lt, nat_cmp, ordering_then}
use Rattle.std.specs.declared.cmp.Ordering.{Ordering}
use Rattle.std.specs.declared.cmp.Ordering.TheVariants.{Equal}
use Rattle.std.specs.Cmp.{nat_cmp_is}
use Rattle.std.specs.Cmp.Lexicographic.{slice_cmp}
use Rattle.std.proofs.Common.{get_or, ap, sym, ◌∙◌, arith}
use Rattle.std.proofs.lemmas.Grind.{common_steps}
use Rattle.std.proofs.lemmas.List.{take_all, take_more, take_more_set, length-set, nil_from_length, take-append-drop, take-append-le, drop-append-le, drop-drop, drop-take, take-take, length-drop}
use Rattle.std.proofs.lemmas.List.Folds.{list_all-append}
use Rattle.std.proofs.lemmas.Nat.{mul-le}
use Rattle.std.proofs.Math.Nat.{add-mul, suc-mul}
use Rattle.psi_log_format.specs.Rows.{rows, States}

pub length_rows : (count queues : ℕ) (numbers : List ℕ) → length (rows count queues numbers) ≡ count
length_rows zero queues numbers = refl
length_rows (suc count) queues numbers = ap suc (length_rows count queues (drop queues numbers))

-- so many states more
pub rows_append : (count more queues : ℕ) (numbers others : List ℕ) → length numbers ≡ count * queues → rows (count + more) queues (numbers ++ others) ≡ rows count queues numbers ++ rows more queues others
rows_append zero more queues numbers others long =
    let none : numbers ≡ [] = nil_from_length numbers (omega arith) in
    let all : zero + more ≡ more = omega arith in
    rw (none, all) refl
rows_append (suc count) more queues numbers others long =
    let next : suc count + more ≡ suc (count + more) = omega arith in
    let size : suc count * queues ≡ count * queues + queues = suc-mul count queues in
    let room : queues ≤ length numbers = omega arith in
    let first : take queues (numbers ++ others) ≡ take queues numbers = take-append-le queues numbers others room in
    let behind : drop queues (numbers ++ others) ≡ drop queues numbers ++ others = drop-append-le queues numbers others room in
    let rest : rows (count + more) queues (drop queues numbers ++ others) ≡ rows count queues (drop queues numbers) ++ rows more queues others =
    rows_append count more queues (drop queues numbers) others (omega (arith, length-drop queues numbers)) in
    rw (next, first, behind, rest) refl

-- one state more
pub rows_push : (count queues : ℕ) (numbers x : List ℕ) → length numbers ≡ count * queues → length x ≡ queues
    → rows (count + 1) queues (numbers ++ x) ≡ rows count queues numbers ++ x ∷ []
rows_push count queues numbers x long same =
    rows_append count 1 queues numbers x long ∙ ap (λ (y : List ℕ). rows count queues numbers ++ y ∷ []) (take_all queues x (omega arith))

pub rows_get : (count queues : ℕ) (numbers : List ℕ) (i : ℕ) → i < count → slice_get (rows count queues numbers) i ≡ Some (take queues (drop (i * queues) numbers))
rows_get zero queues numbers i small = absurd (omega arith)
rows_get (suc count) queues numbers zero small = (let none : 0 * queues ≡ 0 = omega arith in rw none refl)
rows_get (suc count) queues numbers (suc i) small =
    let size : suc i * queues ≡ queues + i * queues = (let e = suc-mul i queues in omega arith) in
    rows_get count queues (drop queues numbers) i (omega arith)
    ∙ ap (λ (xs : List ℕ). Some (take queues xs)) (drop-drop (i * queues) queues numbers ∙ ap (λ (k : ℕ). drop k numbers) (sym size))

-- the numbers of a state stand in the vector
pub rows_room : (count queues i : ℕ) → i < count → i * queues + queues ≤ count * queues
rows_room count queues i small =
    let next : suc i * queues ≡ i * queues + queues = suc-mul i queues in
    let most : suc i * queues ≤ count * queues = mul-le (suc i) queues count queues (omega arith) (omega arith) in
    omega arith

-- the first of some states stand in the front of their numbers, and the others after these
rows_front : (count more queues : ℕ) (numbers : List ℕ) → rows count queues (take (count * queues) numbers) ≡ take count (rows (count + more) queues numbers)
rows_front zero more queues numbers = refl
rows_front (suc count) more queues numbers =
    let size : suc count * queues ≡ queues + count * queues = (let e = suc-mul count queues in omega arith) in
    let all : suc count + more ≡ suc (count + more) = omega arith in
    let first : take queues (take (queues + count * queues) numbers) ≡ take queues numbers = take-take queues (queues + count * queues) numbers (omega arith) in
    let behind : drop queues (take (queues + count * queues) numbers) ≡ take (count * queues) (drop queues numbers) = drop-take queues (count * queues) numbers in
    rw (size, all, first, behind) (ap (λ (xs : List (List ℕ)). take queues numbers ∷ xs) (rows_front count more queues (drop queues numbers)))

rows_behind : (first rest queues : ℕ) (numbers : List ℕ) → drop first (rows (first + rest) queues numbers) ≡ rows rest queues (drop (first * queues) numbers)
rows_behind zero rest queues numbers = (let none : 0 * queues ≡ 0 = omega arith in let all : 0 + rest ≡ rest = omega arith in rw (none, all) refl)
rows_behind (suc first) rest queues numbers =
    let size : suc first * queues ≡ queues + first * queues = (let e = suc-mul first queues in omega arith) in
    let all : suc first + rest ≡ suc (first + rest) = omega arith in
    rw all (rows_behind first rest queues (drop queues numbers) ∙ ap (rows rest queues) (drop-drop (first * queues) queues numbers ∙ ap (λ (k : ℕ). drop k numbers) (sym size)))

-- some of the states
pub rows_part : (total queues first count size : ℕ) (numbers : List ℕ) → first + count ≤ total → size ≡ count * queues
    → rows count queues (take size (drop (first * queues) numbers)) ≡ take count (drop first (rows total queues numbers))
rows_part total queues first count size numbers small is =
    let rest : total ≡ first + (count + (total - (first + count))) = omega arith in
    let behind : drop first (rows total queues numbers) ≡ rows (count + (total - (first + count))) queues (drop (first * queues) numbers) =
    ap (λ (n : ℕ). drop first (rows n queues numbers)) rest ∙ rows_behind first (count + (total - (first + count))) queues numbers in
    ap (λ (n : ℕ). rows count queues (take n (drop (first * queues) numbers))) is
    ∙ rows_front count (total - (first + count)) queues (drop (first * queues) numbers) ∙ ap (take count) (sym behind)

pub rows_until : (total queues first count : ℕ) → first + count ≤ total → first * queues + count * queues ≤ total * queues
rows_until total queues first count small =
    let most = mul-le (first + count) queues total queues small (omega arith) in
    let sum = add-mul first count queues in
    omega arith

-- the first number in which two states differ tells which one is below
one_differs : (x y : ℕ) (o : Ordering) → (x ≡ y → ⊥) → is_lt (ordering_then (nat_cmp x y) o) ≡ nat_lt x y
one_differs x y o differ = grind (arith, common_steps)

pub less_differs : (xs ys : List ℕ) (i : ℕ) → take i xs ≡ take i ys → i < length xs → i < length ys → (get_or xs i 0 ≡ get_or ys i 0 → ⊥)
    → is_lt (slice_cmp nat_cmp xs ys) ≡ nat_lt (get_or xs i 0) (get_or ys i 0)
less_differs [] ys i same left right differ = absurd (omega arith)
less_differs (x ∷ xs) [] i same left right differ = absurd (omega arith)
less_differs (x ∷ xs) (y ∷ ys) zero same left right differ = one_differs x y (slice_cmp nat_cmp xs ys) differ
less_differs (x ∷ xs) (y ∷ ys) (suc i) same left right differ =
    let e : x ≡ y = cc in
    let rest : take i xs ≡ take i ys = cc in
    let tied : Equal ≡ nat_cmp x y = nat_cmp_is x y Equal e in
    rw (← tied) (less_differs xs ys i rest (omega arith) (omega arith) differ)

pub less_never : (xs ys : List ℕ) → xs ≡ ys → is_lt (slice_cmp nat_cmp xs ys) ≡ false
less_never [] [] same = refl
less_never [] (y ∷ ys) same = absurd cc
less_never (x ∷ xs) [] same = absurd cc
less_never (x ∷ xs) (y ∷ ys) same =
    let tied : Equal ≡ nat_cmp x y = nat_cmp_is x y Equal cc in
    rw (← tied) (less_never xs ys cc)

-- a test of all numbers is one of the numbers of each state
pub all_rows : (test : ℕ → Bool) (count queues : ℕ) (numbers : List ℕ) → length numbers ≡ count * queues
    → list_all (list_all test) (rows count queues numbers) ≡ list_all test numbers
all_rows test zero queues numbers long = (let none : numbers ≡ [] = nil_from_length numbers (omega arith) in rw none refl)
all_rows test (suc count) queues numbers long =
    let size : suc count * queues ≡ count * queues + queues = suc-mul count queues in
    let rest : list_all (list_all test) (rows count queues (drop queues numbers)) ≡ list_all test (drop queues numbers) =
    all_rows test count queues (drop queues numbers) (omega (arith, length-drop queues numbers)) in
    ap (λ (b : Bool). list_all test (take queues numbers) && b) rest ∙ sym (list_all-append test (take queues numbers) (drop queues numbers))
    ∙ ap (list_all test) (take-append-drop queues numbers)

-- as many numbers are the same where the states are
rows_numbers : (count queues : ℕ) (xs ys : List ℕ) → length xs ≡ count * queues → length ys ≡ count * queues → rows count queues xs ≡ rows count queues ys → xs ≡ ys
rows_numbers zero queues xs ys long other same =
    nil_from_length xs (omega arith) ∙ sym (nil_from_length ys (omega arith))
rows_numbers (suc count) queues xs ys long other same =
    let size : suc count * queues ≡ count * queues + queues = suc-mul count queues in
    let first : take queues xs ≡ take queues ys = cc in
    let behind : drop queues xs ≡ drop queues ys =
    rows_numbers count queues (drop queues xs) (drop queues ys) (omega (arith, length-drop queues xs)) (omega (arith, length-drop queues ys)) cc in
    sym (take-append-drop queues xs) ∙ ap (λ (front : List ℕ). front ++ drop queues xs) first ∙ ap (λ (rest : List ℕ). take queues ys ++ rest) behind
    ∙ take-append-drop queues ys

pub rows_equal : (a b q r : ℕ) (xs ys : List ℕ) → length xs ≡ a * q → length ys ≡ b * r
    → ◌≡◌ {A = States} (record { queues = q; states = rows a q xs }) (record { queues = r; states = rows b r ys }) → (q ≡ r) × (a ≡ b) × (xs ≡ ys)
rows_equal a b q r xs ys long other same =
    let queues : q ≡ r = ap (λ (s : States). s.queues) same in
    let states : rows a q xs ≡ rows b r ys = ap (λ (s : States). s.states) same in
    let count : a ≡ b = sym (length_rows a q xs) ∙ ap length states ∙ length_rows b r ys in
    let numbers : length ys ≡ a * q = other ∙ ap (λ (k : ℕ). k * r) (sym count) ∙ ap (λ (k : ℕ). a * k) (sym queues) in
    let rest : rows a q xs ≡ rows a q ys = states ∙ ap (λ (k : ℕ). rows k r ys) (sym count) ∙ ap (λ (k : ℕ). rows a k ys) (sym queues) in
    (queues, count, rows_numbers a q xs ys long numbers rest)

pub rows_same : (a b q r : ℕ) (xs ys : List ℕ) → q ≡ r → a ≡ b → xs ≡ ys
    → ◌≡◌ {A = States} (record { queues = q; states = rows a q xs }) (record { queues = r; states = rows b r ys })
rows_same a b q r xs ys queues count numbers = cc

-- the number of one queue more is put on a state
pub put_one : (x y row : List ℕ) (queue : ℕ) → y ≡ slice_set x queue (get_or row queue 0) → length x ≡ length row → queue < length row → take queue x ≡ take queue row
    → (length y ≡ length row) × (take (queue + 1) y ≡ take (queue + 1) row)
put_one x y row queue is same within front =
    let inside : queue < length x = omega arith in
    let put : take (queue + 1) (slice_set x queue (get_or row queue 0)) ≡ take queue x ++ get_or row queue 0 ∷ [] = take_more_set x queue (get_or row queue 0) inside in
    let own : take (queue + 1) row ≡ take queue row ++ get_or row queue 0 ∷ [] = take_more row queue 0 within in (
      ap length is ∙ length-set x queue (get_or row queue 0) ∙ same,
      ap (take (queue + 1)) is ∙ put ∙ ap (λ (xs : List ℕ). xs ++ get_or row queue 0 ∷ []) front ∙ sym own,
    )
