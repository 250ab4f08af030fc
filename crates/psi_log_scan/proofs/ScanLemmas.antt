-- What stands in a text, byte by byte.
use Rattle.std.specs.Prelude.{◌≡◌, ◌⊎◌, ℕ, ◌+◌, ◌-◌, ◌*◌, ◌^◌, ◌<◌, ◌≤◌, ◌/◌, ◌%◌, List, [], ◌∷◌, ◌++◌, length, map, take, drop, slice_index, refl}
use Rattle.std.specs.Fmt.{decimal}
use Rattle.std.proofs.Common.{get_or, set, ap, sym, ◌∙◌, subst, arith, append_assoc, length-append, inl, inr}
use Rattle.std.proofs.lemmas.Fmt.{decimal_digit, decimal_step}
use Rattle.std.proofs.lemmas.List.{take_more, take-set, take_all, drop_all, length-set, get_or-set_same, drop-append-le, take-append-le, append-nil, map-append}
use Rattle.std.proofs.Math.Seq.{take-add}
use Rattle.std.proofs.lemmas.List.Concat.{flat_map-append}
use Rattle.psi_state.specs.Members.{In}
use Rattle.psi_log_format.specs.Log.{IsState}
use Rattle.psi_log_format.specs.Text.{numbers_text}
use Rattle.psi_log_format.specs.Room.{spaced_words}
use Rattle.psi_log_format.proofs.JoinedLemmas.{then, then_words, one_word}
use Rattle.psi_log_scan.specs.Scanned.{Stands, AreScanned, with_comma, with_commas}

pub byte_stands : (text : List ℕ) (at byte : ℕ) → at < length text → get_or text at 0 ≡ byte → Stands text at (at + 1) (byte ∷ [])
byte_stands text at byte small is = record {
  front = take_more text at 0 small ∙ ap (λ (b : ℕ). take at text ++ (b ∷ [])) is;
  place = refl;
  len = refl;
}

pub digit_stands : (text : List ℕ) (at byte digit : ℕ) → at < length text → get_or text at 0 ≡ byte → 48 + digit ≡ byte → Stands text at (at + 1) ((48 + digit) ∷ [])
digit_stands text at byte digit small is value = byte_stands text at (48 + digit) small (is ∙ sym value)

-- a part of a text stands in it
pub part_stands : (text part : List ℕ) (at n end : ℕ) → end ≡ at + n → n ≡ length part → take n (drop at text) ≡ part → Stands text at end part
part_stands text part at n end is size part_is = record {
  front = ap (λ (k : ℕ). take k text) is ∙ take-add at n text ∙ ap (λ (t : List ℕ). take at text ++ t) part_is;
  place = omega arith;
  len = refl;
}

pub word_stands : (text word : List ℕ) (at : ℕ) → at + length word ≤ length text → take (at + length word - at) (drop at text) ≡ word → Stands text at (at + length word) word
word_stands text word at room is = part_stands text word at (at + length word - at) (at + length word) (omega arith) (omega arith) is

pub digit_first : (text : List ℕ) (at end digit : ℕ) → digit ≤ 9 → Stands text at end ((48 + digit) ∷ []) → Stands text at end (decimal digit)
digit_first text at end digit small there = subst (λ (w : List ℕ). Stands text at end w) (sym (decimal_digit digit (omega arith))) there

pub digit_more : (text : List ℕ) (at place end value digit : ℕ) → 1 ≤ value → value ≤ 999999 → digit ≤ 9 → Stands text at place (decimal value)
    → Stands text place end ((48 + digit) ∷ []) → Stands text at end (decimal (10 * value + digit))
digit_more text at place end value digit some few small front last =
    let front_is : (10 * value + digit) / 10 ≡ value = omega arith in
    let last_is : (10 * value + digit) % 10 ≡ digit = omega arith in
    let step : decimal (10 * value + digit) ≡ decimal ((10 * value + digit) / 10) ++ ((48 + (10 * value + digit) % 10) ∷ []) = decimal_step (10 * value + digit) (omega arith) (omega arith) in
    then (decimal value) ((48 + digit) ∷ []) (decimal (10 * value + digit)) front last (sym (rw (front_is, last_is) at step))

pub two_digits : (text : List ℕ) (at place end first second : ℕ) → 1 ≤ first → first ≤ 9 → second ≤ 9 → Stands text at place ((48 + first) ∷ [])
    → Stands text place end ((48 + second) ∷ []) → Stands text at end (decimal (10 * first + second))
two_digits text at place end first second some few small front last =
    digit_more text at place end first second some (omega arith) small (digit_first text at place first few front) last

-- a number and the comma after it
pub comma_stands : (text : List ℕ) (at place end n : ℕ) → Stands text at place (decimal n) → Stands text place end (44 ∷ []) → Stands text at end (with_comma n)
comma_stands text at place end n number comma = then (decimal n) (44 ∷ []) (with_comma n) number comma refl

byte_next : (text : List ℕ) (at end byte : ℕ) → end ≡ at + 1 → at < length text → get_or text at 0 ≡ byte → Stands text at end (byte ∷ [])
byte_next text at end byte next small is = subst (λ (e : ℕ). Stands text at e (byte ∷ [])) (sym next) (byte_stands text at byte small is)

pub one_with_comma : (text : List ℕ) (at first : ℕ) → at + 2 < length text → 48 + first ≡ get_or text at 0 → first ≤ 9 → get_or text (at + 1) 0 ≡ 44
    → Stands text at (at + 2) (with_comma first)
one_with_comma text at first room is small comma =
    comma_stands text at (at + 1) (at + 2) first (digit_first text at (at + 1) first small (byte_next text at (at + 1) (48 + first) refl (omega arith) (sym is)))
    (byte_next text (at + 1) (at + 2) 44 (omega arith) (omega arith) comma)

pub two_with_comma : (text : List ℕ) (at first second : ℕ) → at + 2 < length text → 48 + first ≡ get_or text at 0 → first ≤ 9 → 1 ≤ first → 48 + second ≡ get_or text (at + 1) 0 → second ≤ 9
    → get_or text (at + 2) 0 ≡ 44 → Stands text at (at + 3) (with_comma (10 * first + second))
two_with_comma text at first second room is few some then_is small comma =
    comma_stands text at (at + 2) (at + 3) (10 * first + second)
    (two_digits text at (at + 1) (at + 2) first second some few small (byte_next text at (at + 1) (48 + first) refl (omega arith) (sym is))
    (byte_next text (at + 1) (at + 2) (48 + second) (omega arith) (omega arith) (sym then_is)))
    (byte_next text (at + 2) (at + 3) 44 (omega arith) (omega arith) comma)

-- no number so far
pub commas_none : (text x : List ℕ) (at : ℕ) → Stands text at at (with_commas (take 0 x))
unfolding with_commas
commas_none text x at = record { front = sym (append-nil (take at text)); place = omega arith; len = refl }

front_more : (q n : ℕ) (x y : List ℕ) → q < length x → y ≡ set x q n → take (q + 1) y ≡ take q x ++ n ∷ []
front_more q n x y small is =
    let long : length y ≡ length x = ap length is ∙ length-set x q n in
    let same : take q y ≡ take q x = ap (take q) is ∙ take-set x q n in
    let last : get_or y q 0 ≡ n = ap (λ (z : List ℕ). get_or z q 0) is ∙ get_or-set_same x q n 0 small in
    take_more y q 0 (omega arith) ∙ ap (λ (t : List ℕ). t ++ get_or y q 0 ∷ []) same ∙ ap (λ (v : ℕ). take q x ++ v ∷ []) last

-- and one more
pub commas_more : (text : List ℕ) (at place end q n : ℕ) (x y : List ℕ) → q < length x → y ≡ set x q n → Stands text at place (with_commas (take q x))
    → Stands text place end (with_comma n) → Stands text at end (with_commas (take (q + 1) y))
unfolding with_commas
commas_more text at place end q n x y small is front number =
    let whole : with_commas (take q x) ++ with_comma n ≡ with_commas (take (q + 1) y) =
    sym (ap with_commas (front_more q n x y small is) ∙ flat_map-append with_comma (take q x) (n ∷ []) ∙ ap (λ (t : List ℕ). with_commas (take q x) ++ t) (append-nil (with_comma n))) in
    then (with_commas (take q x)) (with_comma n) (with_commas (take (q + 1) y)) front number whole

-- numbers that are joined have a comma after each but the last
pub text_last : (xs : List ℕ) (n : ℕ) → numbers_text (xs ++ n ∷ []) ≡ with_commas xs ++ decimal n
unfolding with_commas numbers_text
text_last [] n = refl
text_last (x ∷ []) n =
    sym (ap (λ (t : List ℕ). t ++ decimal n) (append-nil (with_comma x)) ∙ append_assoc (decimal x) (44 ∷ []) (decimal n))
text_last (x ∷ y ∷ ys) n =
    ap (λ (t : List ℕ). decimal x ++ (44 ∷ t)) (text_last (y ∷ ys) n)
    ∙ sym (append_assoc (with_comma x) (with_commas (y ∷ ys)) (decimal n) ∙ append_assoc (decimal x) (44 ∷ []) (with_commas (y ∷ ys) ++ decimal n))

-- and the last
pub commas_last : (text : List ℕ) (at place end q n : ℕ) (x y : List ℕ) → length x ≡ q + 1 → y ≡ set x q n → Stands text at place (with_commas (take q x))
    → Stands text place end (decimal n) → Stands text at end (numbers_text y)
commas_last text at place end q n x y size is front number =
    let long : length y ≡ length x = ap length is ∙ length-set x q n in
    let all : y ≡ take q x ++ n ∷ [] = sym (take_all (q + 1) y (omega arith)) ∙ front_more q n x y (omega arith) is in
    then (with_commas (take q x)) (decimal n) (numbers_text y) front number (sym (ap numbers_text all ∙ text_last (take q x) n))

-- numbers of 16 bits for so many queues
pub is_state : (queues : ℕ) (x : List ℕ) → length x ≡ queues → ((i : ℕ) → slice_index x i < 2 ^ 16) → IsState queues x
is_state queues x count each = record { count = count; each = each }

-- no state so far
pub scanned_none : (queues : ℕ) (text : List ℕ) (at : ℕ) (old : List (List ℕ)) → AreScanned queues text at at old old
unfolding spaced_words
scanned_none queues text at old =
    let none : drop (length old) old ≡ [] = drop_all (length old) old (omega arith) in
    record {
      kept = take_all (length old) old (omega arith);
      more = omega arith;
      each = λ x there. absurd (subst (λ (xs : List (List ℕ)). In x xs) none there);
      words = subst (λ (xs : List (List ℕ)). Stands text at at (spaced_words (map numbers_text xs))) (sym none)
          (record { front = sym (append-nil (take at text)); place = omega arith; len = refl });
    }

pub in_push : {X : Type 0} (xs : List X) (x y : X) → In y (xs ++ x ∷ []) → In y xs ⊎ (y ≡ x)
in_push [] x y there = elim there [ inl e ↦ inr e | inr t ↦ absurd t ]
in_push (z ∷ xs) x y there = elim there [ inl e ↦ inl (inl e) | inr t ↦ elim (in_push xs x y t) [ inl u ↦ inl (inr u) | inr e ↦ inr e ] ]

-- and one more, after a space
pub scanned_more : (queues : ℕ) (text : List ℕ) (at place end : ℕ) (old new newer : List (List ℕ)) (x : List ℕ) → AreScanned queues text at place old new
    → newer ≡ new ++ x ∷ [] → Stands text place end (32 ∷ numbers_text x) → IsState queues x → AreScanned queues text at end old newer
scanned_more queues text at place end old new newer x are is word state =
    let more = are.more in
    let behind : drop (length old) newer ≡ drop (length old) new ++ x ∷ [] = ap (drop (length old)) is ∙ drop-append-le (length old) new (x ∷ []) more in
    let one : Stands text place end (spaced_words (numbers_text x ∷ [])) =
    subst (λ (w : List ℕ). Stands text place end w) (sym (one_word (numbers_text x))) word in
    record {
      kept = ap (take (length old)) is ∙ take-append-le (length old) new (x ∷ []) more ∙ are.kept;
      more = (let long : length newer ≡ length new + 1 = ap length is ∙ length-append new (x ∷ []) in omega arith);
      each = λ y there. elim (in_push (drop (length old) new) x y (subst (λ (ys : List (List ℕ)). In y ys) behind there)) [
        | inl t ↦ are.each y t
        | inr e ↦ subst (λ (z : List ℕ). IsState queues z) (sym e) state
      ];
      words = then_words (map numbers_text (drop (length old) new)) (numbers_text x ∷ []) (map numbers_text (drop (length old) newer)) are.words one
          (ap (map numbers_text) behind ∙ map-append numbers_text (drop (length old) new) (x ∷ []));
    }
