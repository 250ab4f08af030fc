-- Runs of states, whose words differ in one number.
use Rattle.std.specs.Prelude.{◌≡◌, ◌⊎◌, ℕ, zero, suc, ◌+◌, ◌-◌, ◌*◌, ◌<◌, ◌≤◌, List, [], ◌∷◌, ◌++◌, length, take, drop, slice_index_or, Bool, true, false, refl}
use Rattle.std.specs.List.{flat_map}
use Rattle.std.specs.Fmt.{decimal}
use Rattle.std.proofs.Common.{get_or, set, ap, sym, ◌∙◌, subst, arith, append_assoc, drop-cons, length-append, inl, inr}
use Rattle.std.proofs.lemmas.Bool.{cases_lt}
use Rattle.std.proofs.lemmas.List.{take_more_same, take_at, take-take, drop-take, append-nil, length-drop, length-take-le, length-set, take-set, drop-set-lt, get_or-drop, get_or-take, get_or-set_same, get_or-set_other}
use Rattle.std.proofs.Math.Seq.{drop-append_seam}
use Rattle.psi_log_format.specs.Text.{numbers_text}
use Rattle.psi_log_format.proofs.JoinedLemmas.{then}
use Rattle.psi_log_scan.specs.Scanned.{Stands, with_commas}
use Rattle.psi_log_scan.specs.Inner.RowsViews.{IsAlike, IsRun}
use Rattle.psi_log_scan.specs.declared.runs.Run.{Run}
use Rattle.psi_log_scan.proofs.RowsLemmas.{text_front}
use Rattle.psi_log_scan.proofs.ScanLemmas.{part_stands, digit_stands, digit_first, two_digits}
use Rattle.psi_log_scan.proofs.SetLineLemmas.{part_is}

-- numbers, each preceded by a comma
behind : List ℕ → List ℕ
behind numbers = flat_map (λ n. 44 ∷ decimal n) numbers

-- a word is what stands before a number, this number and what stands after it
text_behind : (x : ℕ) (xs : List ℕ) → numbers_text (x ∷ xs) ≡ decimal x ++ behind xs
unfolding numbers_text behind
text_behind x [] = sym (append-nil (decimal x))
text_behind x (y ∷ ys) = ap (λ (t : List ℕ). decimal x ++ (44 ∷ t)) (text_behind y ys)

text_parts : (row : List ℕ) (q : ℕ) → q < length row → numbers_text row ≡ with_commas (take q row) ++ (decimal (get_or row q 0) ++ behind (drop (q + 1) row))
text_parts row q small =
    let next : q + 1 ≡ suc q = omega arith in
    rw next (text_front row q small ∙ ap (λ (t : List ℕ). with_commas (take q row) ++ t) (ap numbers_text (drop-cons row q 0 small) ∙ text_behind (get_or row q 0) (drop (suc q) row)))

-- its digits stand in it
pub digits_within : (row : List ℕ) (q : ℕ) → q < length row → 1 + (length (with_commas (take q row)) + length (decimal (get_or row q 0))) ≤ length (32 ∷ numbers_text row)
digits_within row q small =
    let front = with_commas (take q row) in
    let digits = decimal (get_or row q 0) in
    let back = behind (drop (q + 1) row) in
    let count = ap length (text_parts row q small) ∙ length-append front (digits ++ back) ∙ ap (λ (k : ℕ). length front + k) (length-append digits back) in
    omega arith

-- and with another number
text_other : (row : List ℕ) (q n : ℕ) → q < length row → numbers_text (set row q n) ≡ with_commas (take q row) ++ (decimal n ++ behind (drop (q + 1) row))
text_other row q n small =
    let same = take-set row q n in
    let number = get_or-set_same row q n 0 small in
    let rest = drop-set-lt (q + 1) row q n (omega arith) in
    text_parts (set row q n) q (omega (arith, length-set row q n)) ∙ (rw (same, number, rest) refl)

-- the parts of a text by their places
cut : (bytes front digits back : List ℕ) (from until len : ℕ) → take len bytes ≡ front ++ (digits ++ back) → from ≡ length front → until ≡ from + length digits → len ≡ until + length back
    → (take from bytes ≡ front) × (take (len - until) (drop until bytes) ≡ back)
cut bytes front digits back from until len is first second third =
    let all : len ≡ until + (len - until) = omega arith in
    let size : until ≡ length (front ++ digits) = omega (arith, length-append front digits) in (
      sym (take-take from len bytes (omega arith)) ∙ ap (take from) is ∙ take_at front (digits ++ back) from (sym first),
      sym (drop-take until (len - until) bytes) ∙ ap (λ (k : ℕ). drop until (take k bytes)) (sym all) ∙ ap (drop until) (is ∙ sym (append_assoc front digits back))
          ∙ ap (λ (k : ℕ). drop k ((front ++ digits) ++ back)) size ∙ drop-append_seam (front ++ digits) back,
    )

-- the run of a state
pub run_is : (text row : List ℕ) (at end : ℕ) (run : Run) → at ≤ length text → run.queue < length row → Stands text at end (32 ∷ numbers_text row) → run.len ≡ end - at → run.len < 128
    → take run.len run.bytes ≡ take (end - at) (drop at text) → length run.bytes ≡ 128 → run.from ≡ 1 + length (with_commas (take run.queue row))
    → run.width ≡ length (decimal (get_or row run.queue 0)) → 1 ≤ run.width → ((i : ℕ) → i < run.len → (i < run.from) ⊎ (run.from + run.width ≤ i) → slice_index_or run.same i false ≡ true)
    → IsRun row run
run_is text row at end run within queue there len few bytes size from width some same =
    let place = there.place in
    let front = with_commas (take run.queue row) in
    let digits = decimal (get_or row run.queue 0) in
    let back = behind (drop (run.queue + 1) row) in
    let parts : numbers_text row ≡ front ++ (digits ++ back) = text_parts row run.queue queue in
    let count : length (numbers_text row) ≡ length front + (length digits + length back) =
    ap length parts ∙ length-append front (digits ++ back) ∙ ap (λ (k : ℕ). length front + k) (length-append digits back) in
    let whole : take run.len run.bytes ≡ (32 ∷ front) ++ (digits ++ back) =
    bytes ∙ part_is text (32 ∷ numbers_text row) at end within there ∙ ap (λ (t : List ℕ). 32 ∷ t) parts in
    let pieces = cut run.bytes (32 ∷ front) digits back run.from (run.from + run.width) run.len whole (omega arith) (omega arith) (omega arith) in
    record {
      queue = queue;
      number = some;
      word = omega arith;
      few = few;
      bytes = size;
      same = same;
      words = λ n. (let first = pieces.0 in let last = pieces.1 in let other = text_other row run.queue n queue in rw (first, last, other) refl);
    }

-- bytes that are the same one by one
same_part : (xs ys : List ℕ) (a b n : ℕ) → a + n ≤ length xs → b + n ≤ length ys → ((i : ℕ) → i < n → get_or xs (a + i) 0 ≡ get_or ys (b + i) 0) → take n (drop a xs) ≡ take n (drop b ys)
same_part xs ys a b zero left right each = refl
same_part xs ys a b (suc n) left right each =
    let next : suc n ≡ n + 1 = omega arith in
    rw next (take_more_same (drop a xs) (drop b ys) n 0 (omega (arith, length-drop a xs)) (omega (arith, length-drop b ys)) (same_part xs ys a b n (omega arith) (omega arith) (λ i small. each i (omega arith)))
    (get_or-drop a xs n 0 ∙ each n (omega arith) ∙ sym (get_or-drop b ys n 0)))

same_stands : (text bytes : List ℕ) (a b n end : ℕ) → end ≡ a + n → a + n ≤ length text → b + n ≤ length bytes → ((i : ℕ) → i < n → get_or text (a + i) 0 ≡ get_or bytes (b + i) 0)
    → Stands text a end (take n (drop b bytes))
same_stands text bytes a b n end is left right each =
    part_stands text (take n (drop b bytes)) a n end is (omega (arith, length-take-le n (drop b bytes), length-drop b bytes)) (same_part text bytes a b n left right each)

-- the word of the next state of a run
pub word_stands : (text row : List ℕ) (run : Run) (at n : ℕ) → IsRun row run → at + run.len ≤ length text → IsAlike text at run run.len → Stands text (at + run.from) (at + (run.from + run.width)) (decimal n)
    → Stands text at (at + run.len) (32 ∷ numbers_text (set row run.queue n))
word_stands text row run at n is within alike number =
    let bytes = is.bytes in
    let few = is.few in
    let first = is.number in
    let second = is.word in
    let front : Stands text at (at + run.from) (take run.from run.bytes) =
    same_stands text run.bytes at 0 run.from (at + run.from) refl (omega arith) (omega arith)
    (λ i small. subst (λ (k : ℕ). get_or text (at + i) 0 ≡ get_or run.bytes k 0) (omega arith) (alike i (omega arith) (is.same i (omega arith) (inl small)))) in
    let back : Stands text (at + (run.from + run.width)) (at + run.len) (take (run.len - (run.from + run.width)) (drop (run.from + run.width) run.bytes)) =
    same_stands text run.bytes (at + (run.from + run.width)) (run.from + run.width) (run.len - (run.from + run.width)) (at + run.len) (omega arith) (omega arith) (omega arith)
    (λ i small. subst (λ (k : ℕ). get_or text k 0 ≡ get_or run.bytes (run.from + run.width + i) 0) (omega arith) (alike (run.from + run.width + i) (omega arith) (is.same (run.from + run.width + i) (omega arith) (inr (omega arith))))) in
    then _ _ _ front (then _ _ _ number back refl) (is.words n)

part_at : {X : Type 0} (xs : List X) (first n j : ℕ) (d : X) → j < n → get_or (take n (drop first xs)) j d ≡ get_or xs (first + j) d
part_at xs first n j d small = get_or-take n (drop first xs) j d small ∙ get_or-drop first xs j d

-- sixteen bytes more are a run's
pub alike_more : (text : List ℕ) (at : ℕ) (run : Run) (first upto a b c : ℕ) → a ≡ 16 → b ≡ 16 → c ≡ 16 → upto ≡ first + 16 → IsAlike text at run first
    → ((i : ℕ) → i < 16 → get_or (take c (drop first run.same)) i false ≡ true → get_or (take a (drop (at + first) text)) i 0 ≡ get_or (take b (drop first run.bytes)) i 0)
    → IsAlike text at run upto
alike_more text at run first upto a b c is_a is_b is_c is before each = λ i small same. elim (cases_lt i first) [
  | inl less ↦ before i less same
  | inr most ↦ (let text_is : get_or (take a (drop (at + first) text)) (i - first) 0 ≡ get_or text (at + i) 0 =
      part_at text (at + first) a (i - first) 0 (omega arith) ∙ ap (λ (k : ℕ). get_or text k 0) (omega arith) in
      let bytes_is : get_or (take b (drop first run.bytes)) (i - first) 0 ≡ get_or run.bytes i 0 =
      part_at run.bytes first b (i - first) 0 (omega arith) ∙ ap (λ (k : ℕ). get_or run.bytes k 0) (omega arith) in
      let same_is : get_or (take c (drop first run.same)) (i - first) false ≡ get_or run.same i false =
      part_at run.same first c (i - first) false (omega arith) ∙ ap (λ (k : ℕ). get_or run.same k false) (omega arith) in
      sym text_is ∙ each (i - first) (omega arith) (same_is ∙ same) ∙ bytes_is)
]

-- one place more counts
pub until_more : (place : ℕ) (same : List Bool) → place < length same → ((i : ℕ) → i < place → get_or same i false ≡ true) → (i : ℕ) → i < place + 1 → get_or (set same place true) i false ≡ true
until_more place same room before i small = elim (cases_lt i place) [
  | inl less ↦ get_or-set_other same place i true false (omega arith) ∙ before i less
  | inr most ↦ (let last : i ≡ place = omega arith in ap (λ (k : ℕ). get_or (set same place true) k false) last ∙ get_or-set_same same place true false room)
]

-- one digit more is none that counts
pub around_more : (from until place len : ℕ) (same : List Bool) → from ≤ place → place < until → ((i : ℕ) → i < len → (i < from) ⊎ (until ≤ i) → get_or same i false ≡ true)
    → (i : ℕ) → i < len → (i < from) ⊎ (until ≤ i) → get_or (set same place false) i false ≡ true
around_more from until place len same first last before i small around = elim around [
  | inl less ↦ get_or-set_other same place i false false (omega arith) ∙ before i small (inl less)
  | inr more ↦ get_or-set_other same place i false false (omega arith) ∙ before i small (inr more)
]

-- numbers of one and of two digits
pub one_stands : (text : List ℕ) (at end first : ℕ) → end ≡ at + 1 → at < length text → 48 + first ≡ get_or text at 0 → first ≤ 9 → Stands text at end (decimal first)
one_stands text at end first is small value few =
    subst (λ (k : ℕ). Stands text at k (decimal first)) (sym is) (digit_first text at (at + 1) first few (digit_stands text at (get_or text at 0) first small refl value))

pub two_stand : (text : List ℕ) (at end first second : ℕ) → end ≡ at + 2 → at + 1 < length text → 48 + first ≡ get_or text at 0 → 48 + second ≡ get_or text (at + 1) 0 → first ≤ 9 → second ≤ 9
    → 1 ≤ first → Stands text at end (decimal (10 * first + second))
two_stand text at end first second is small value next few least some =
    subst (λ (k : ℕ). Stands text at k (decimal (10 * first + second))) (omega arith)
    (two_digits text at (at + 1) (at + 1 + 1) first second some few least (digit_stands text at (get_or text at 0) first (omega arith) refl value)
    (digit_stands text (at + 1) (get_or text (at + 1) 0) second small refl next))
