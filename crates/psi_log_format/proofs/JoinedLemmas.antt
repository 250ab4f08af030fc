-- Words and numbers that are joined, one after another.
use Rattle.std.specs.Prelude.{◌≡◌, ℕ, zero, suc, ◌+◌, ◌<◌, ◌≤◌, List, [], ◌∷◌, ◌++◌, length, map, filter, take, slice_index, codes, refl}
use Rattle.std.specs.List.{join_with_byte}
use Rattle.std.specs.Fmt.{decimal}
use Rattle.std.proofs.Common.{get_or, drop, ap, sym, ◌∙◌, append_assoc, arith, length-append}
use Rattle.std.proofs.lemmas.List.{take_more, take-append-drop, take-append-le, length-take-le, map-append, append-nil}
use Rattle.std.proofs.Math.Seq.{take-append-add}
use Rattle.std.proofs.lemmas.List.Concat.{flat_map-append}
use Rattle.std.proofs.lemmas.List.Elements.{filter-append}
use Rattle.psi_state.specs.State.{Corners, numbers_from}
use Rattle.psi_log_format.specs.Text.{numbers_text, differs, change_to, change_text, changes, move_words}
use Rattle.psi_log_format.specs.Room.{Puts, spaced, spaced_words, picked}

-- one more piece comes after one more separator
joined-more : (c : ℕ) (x : List ℕ) (xs : List (List ℕ)) (y : List ℕ)
    → join_with_byte c ((x ∷ xs) ++ y ∷ []) ≡ join_with_byte c (x ∷ xs) ++ (c ∷ y)
joined-more c x [] y = refl
joined-more c x (z ∷ zs) y =
    ap (λ (rest : List ℕ). x ++ (c ∷ rest)) (joined-more c z zs y)
    ∙ sym (append_assoc x (c ∷ join_with_byte c (z ∷ zs)) (c ∷ y))

-- one more number comes after one more comma
text-more : (front : List ℕ) (y : ℕ) → 1 ≤ length front → numbers_text (front ++ y ∷ []) ≡ numbers_text front ++ (44 ∷ decimal y)
unfolding numbers_text
text-more [] y some = absurd (omega arith)
text-more (x ∷ xs) y some =
    ap (λ (rest : List (List ℕ)). join_with_byte 44 (decimal x ∷ rest)) (map-append decimal xs (y ∷ []))
    ∙ joined-more 44 (decimal x) (map decimal xs) (decimal y)

pub numbers_text_more : (x : List ℕ) (i : ℕ) → 1 ≤ i → i < length x
    → numbers_text (take (i + 1) x) ≡ numbers_text (take i x) ++ (44 ∷ decimal (slice_index x i))
numbers_text_more x i some small =
    let count : length (take i x) ≡ i = length-take-le i x (omega arith) in
    ap numbers_text (take_more x i 0 small) ∙ text-more (take i x) (slice_index x i) (omega arith)

-- the front of one number is that number
pub numbers_text_first : (x : List ℕ) → 1 ≤ length x → numbers_text (take 1 x) ≡ decimal (slice_index x 0)
unfolding numbers_text
numbers_text_first [] some = absurd (omega arith)
numbers_text_first (x ∷ xs) some = refl

-- a text after a text
pub then : {old mid new : List ℕ} {at place end : ℕ} (first second both : List ℕ) → Puts old mid at place first → Puts mid new place end second → first ++ second ≡ both → Puts old new at end both
then {old} {mid} {new} {at} first second both a b is = record {
  front = b.front ∙ ap (λ (t : List ℕ). t ++ second) a.front ∙ append_assoc (take at old) first second ∙ ap (λ (t : List ℕ). take at old ++ t) is;
  place = (let count : length both ≡ length first + length second = ap length (sym is) ∙ length-append first second in
      let x = a.place in let y = b.place in omega arith);
  len = b.len ∙ a.len;
}

-- words after words
pub spaced-append : (xs ys : List (List ℕ)) → spaced_words (xs ++ ys) ≡ spaced_words xs ++ spaced_words ys
unfolding spaced_words
spaced-append xs ys = flat_map-append spaced xs ys

pub then_words : {old mid new : List ℕ} {at place end : ℕ} (front more both : List (List ℕ)) → Puts old mid at place (spaced_words front) → Puts mid new place end (spaced_words more)
    → both ≡ front ++ more → Puts old new at end (spaced_words both)
then_words front more both a b is = then _ _ _ a b (sym (spaced-append front more) ∙ ap spaced_words (sym is))

pub one_word : (word : List ℕ) → spaced_words (word ∷ []) ≡ 32 ∷ word
unfolding spaced_words
one_word word = append-nil (32 ∷ word)

-- a set's words are those of its front and that of the next state
pub set-more : (name : List ℕ) (xs : List (List ℕ)) (i : ℕ) (x : List ℕ) → i < length xs → x ≡ get_or xs i x
    → name ∷ map numbers_text (take (i + 1) xs) ≡ (name ∷ map numbers_text (take i xs)) ++ (numbers_text x ∷ [])
set-more name xs i x small is =
    ap (λ (ys : List (List ℕ)). name ∷ ys) (ap (map numbers_text) (take_more xs i x small ∙ ap (λ (y : List ℕ). take i xs ++ (y ∷ [])) (sym is)) ∙ map-append numbers_text (take i xs) (x ∷ []))

-- the words of queues after those of others
pub picked-append : (from to : Corners) (xs ys : List ℕ) → picked from to (xs ++ ys) ≡ picked from to xs ++ picked from to ys
picked-append from to xs ys =
    ap (λ (zs : List ℕ). map change_text (map (change_to to) zs)) (filter-append (differs from to) xs ys)
    ∙ ap (map change_text) (map-append (change_to to) (filter (differs from to) xs) (filter (differs from to) ys))
    ∙ map-append change_text (map (change_to to) (filter (differs from to) xs)) (map (change_to to) (filter (differs from to) ys))

pub numbers_from-append : (s m n t : ℕ) → t ≡ s + m → numbers_from s (m + n) ≡ numbers_from s m ++ numbers_from t n
numbers_from-append s zero n t is = (let e : zero + n ≡ n = omega arith in let f : t ≡ s = omega arith in rw (e, f) refl)
numbers_from-append s (suc m) n t is =
    let e : suc m + n ≡ suc (m + n) = omega arith in
    rw e (ap (λ (xs : List ℕ). s ∷ xs) (numbers_from-append (suc s) m n t (omega arith)))

-- a move's words are those of its front and that of the next queue
pub move-more : (name : List ℕ) (from to : Corners) (q : ℕ)
    → name ∷ picked from to (numbers_from 0 (q + 1)) ≡ (name ∷ picked from to (numbers_from 0 q)) ++ picked from to (q ∷ [])
move-more name from to q =
    ap (λ (ys : List (List ℕ)). name ∷ ys) (ap (picked from to) (numbers_from-append 0 q 1 q (omega arith)) ∙ picked-append from to (numbers_from 0 q) (q ∷ []))

-- the words of a move are the name and the words of the queues that changed
pub moved : (from to : Corners) → move_words from to ≡ codes "move" ∷ picked from to (numbers_from 0 (length from.lo))
unfolding changes
moved from to = refl

-- a text in three pieces
pub three_pieces : {old mid next new : List ℕ} {at place further end : ℕ} (text a b c : List ℕ) → Puts old mid at place a → Puts mid next place further b → Puts next new further end c
    → text ≡ a ++ (b ++ c) → Puts old new at end text
three_pieces text a b c first second third is = then a (b ++ c) text first (then b c (b ++ c) second third refl) (sym is)

-- the front of bytes that were put
pub front_text : {old new : List ℕ} {at end : ℕ} (bytes text : List ℕ) (n : ℕ) → n ≤ 4 → length bytes ≡ 4 → take n bytes ≡ text → Puts old new at end bytes
    → at + 4 ≤ length old → Puts old new at (at + n) text
front_text {old} {new} {at} {end} bytes text n few whole is b room =
    let before : length (take at old) ≡ at = length-take-le at old (omega arith) in
    let all : length (take end new) ≡ at + 4 = ap length b.front ∙ length-append (take at old) bytes ∙ (rw (before, whole) refl) in
    let count : length text ≡ n = ap length (sym is) ∙ length-take-le n bytes (omega arith) in
    record {
      front = ap (take (at + n)) (sym (take-append-drop end new)) ∙ take-append-le (at + n) (take end new) (drop end new) (omega arith) ∙ ap (take (at + n)) b.front
          ∙ ap (λ (i : ℕ). take (i + n) (take at old ++ bytes)) (sym before) ∙ take-append-add (take at old) bytes n ∙ ap (λ (t : List ℕ). take at old ++ t) is;
      place = omega arith;
      len = b.len;
    }
