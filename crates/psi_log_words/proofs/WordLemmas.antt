-- Lines, words and pieces: a text is told by what it is cut into, and that by the text.
use Rattle.std.specs.Prelude.{◌≡◌, ℕ, zero, suc, ◌+◌, ◌<◌, List, [], ◌∷◌, ◌++◌, length, take, drop, Bool, true, false, not, ◌==◌, nat_lt, Option, Some, None, Result, Ok, Err, cond, refl}
use Rattle.std.specs.List.{join_with_byte, slice_split, onto_first, position, position_or_len, list_all}
use Rattle.std.specs.Str.{bytes_eq}
use Rattle.std.proofs.Common.{get_or, ap, sym, ◌∙◌, arith, append_assoc, length-append}
use Rattle.std.proofs.lemmas.Bool.{and_parts, and_from, not-true, not_from_false, eq-eqb, eqb-true, lt-ltb}
use Rattle.std.proofs.lemmas.List.{take-append-drop, drop_more, get_or_append_left, get_or_at, take_at, drop_at}
use Rattle.std.proofs.lemmas.List.Folds.{list_all-append}
use Rattle.std.proofs.lemmas.List.Quantifiers.{position-Some}
use Rattle.std.proofs.lemmas.List.Splits.{slice_split-cons_yes, slice_split-cons_no, join_with_byte-slice_split}
use Rattle.std.proofs.lemmas.List.Sums.{position_or_len_is}
use Rattle.std.proofs.lemmas.Slice.Eq.{bytes_eq-Decides}
use Rattle.psi_log_words.specs.Refusal.{Refusal, ◌>>=◌, holds_or}
use Rattle.psi_log_words.specs.Words.{is_feed, cut_at, line_of}

-- what was read in two steps
pub bind_ok : {A B : Type 0} (r : Result A Refusal) (f : A → Result B Refusal) (y : B) → (r >>= f) ≡ Ok y → (x : A) × (r ≡ Ok x) × (f x ≡ Ok y)
bind_ok (Ok x) f y h = (x, refl, h)
bind_ok (Err refusal) f y h = absurd cc

pub ok_same : {A : Type 0} (x y : A) → ◌≡◌ {A = Result A Refusal} (Ok x) (Ok y) → x ≡ y
ok_same x y h = cc

-- a rule that held
pub held : (refusal : Refusal) (b : Bool) (u : Unit {0}) → holds_or refusal b ≡ Ok u → b ≡ true
held refusal true u h = refl
held refusal false u h = absurd cc

-- a word that is what it has to be
pub same_word : (word name : List ℕ) → bytes_eq word name ≡ true → word ≡ name
same_word word name h = (bytes_eq-Decides word name).0 h

pub own_word : (word : List ℕ) → bytes_eq word word ≡ true
own_word word = (bytes_eq-Decides word word).1 refl

-- no byte of a word is this one
abbrev pub lacks : ℕ → List ℕ → Bool
lacks c word = list_all (λ b. not (b == c)) word

pub lacks_at : (c : ℕ) (word : List ℕ) (k d : ℕ) → lacks c word ≡ true → k < length word → (get_or word k d == c) ≡ false
lacks_at c [] k d h small = absurd (omega arith)
lacks_at c (b ∷ word) zero d h small = not-true (b == c) (and_parts (not (b == c)) (lacks c word) h).0
lacks_at c (b ∷ word) (suc k) d h small = lacks_at c word k d (and_parts (not (b == c)) (lacks c word) h).1 (omega arith)

-- a word without the byte, cut at it
split-lacking : (c : ℕ) (word text : List ℕ) → lacks c word ≡ true
    → slice_split (λ b. b == c) (word ++ (c ∷ text)) ≡ word ∷ slice_split (λ b. b == c) text
split-lacking c [] text h = slice_split-cons_yes (λ b. b == c) c text (eq-eqb c c refl)
split-lacking c (b ∷ word) text h =
    let parts = and_parts (not (b == c)) (lacks c word) h in
    slice_split-cons_no (λ x. x == c) b (word ++ (c ∷ text)) (not-true (b == c) parts.0)
    ∙ ap (onto_first b) (split-lacking c word text parts.1)

split-last : (c : ℕ) (word : List ℕ) → lacks c word ≡ true → slice_split (λ b. b == c) word ≡ word ∷ []
split-last c [] h = refl
split-last c (b ∷ word) h =
    let parts = and_parts (not (b == c)) (lacks c word) h in
    slice_split-cons_no (λ x. x == c) b word (not-true (b == c) parts.0) ∙ ap (onto_first b) (split-last c word parts.1)

-- words that are joined by a byte that none has, cut at it
pub split-join : (c : ℕ) (word : List ℕ) (words : List (List ℕ)) → list_all (lacks c) (word ∷ words) ≡ true
    → slice_split (λ b. b == c) (join_with_byte c (word ∷ words)) ≡ word ∷ words
split-join c word [] h = split-last c word (and_parts (lacks c word) true h).0
split-join c word (next ∷ words) h =
    let parts = and_parts (lacks c word) (list_all (lacks c) (next ∷ words)) h in
    split-lacking c word (join_with_byte c (next ∷ words)) parts.0 ∙ ap (λ (ws : List (List ℕ)). word ∷ ws) (split-join c next words parts.1)

-- and a text that is cut at a byte, joined by it
pub join-split : (c : ℕ) (text : List ℕ) → join_with_byte c (slice_split (λ b. b == c) text) ≡ text
join-split c text = join_with_byte-slice_split c text

-- words that lack a byte lack it when they are joined by another
pub lacks-join : (c by : ℕ) (words : List (List ℕ)) → (by == c) ≡ false → list_all (lacks c) words ≡ true → lacks c (join_with_byte by words) ≡ true
lacks-join c by [] other h = refl
lacks-join c by (word ∷ []) other h = (and_parts (lacks c word) true h).0
lacks-join c by (word ∷ next ∷ words) other h =
    let parts = and_parts (lacks c word) (list_all (lacks c) (next ∷ words)) h in
    list_all-append (λ b. not (b == c)) word (by ∷ join_with_byte by (next ∷ words))
    ∙ and_from (lacks c word) (lacks c (by ∷ join_with_byte by (next ∷ words))) parts.0
    (and_from (not (by == c)) (lacks c (join_with_byte by (next ∷ words))) (not_from_false (by == c) other) (lacks-join c by (next ∷ words) other parts.1))

-- a line and its line feed begin the text that it was cut from
pub line_found : (n : ℕ) (text : List ℕ) (line : List ℕ × List ℕ) → line_of n text ≡ Ok line → text ≡ line.0 ++ (10 ∷ line.1)
unfolding line_of
line_found n text line h = go (position is_feed text) refl h
  where
    go : (found : Option ℕ) → position is_feed text ≡ found → cut_at n text found ≡ Ok line → text ≡ line.0 ++ (10 ∷ line.1)
    go None is cut = absurd cc
    go (Some at) is cut =
        let there = position-Some is_feed text at 0 is in
        let feed : get_or text at 0 ≡ 10 = eqb-true (get_or text at 0) 10 there.1 in
        let same : (take at text, drop (at + 1) text) ≡ line = ok_same _ _ cut in
        let parts : text ≡ take at text ++ (10 ∷ drop (at + 1) text) =
        sym (take-append-drop at text) ∙ ap (λ (xs : List ℕ). take at text ++ xs) (drop_more text at 0 there.0)
        ∙ ap (λ (b : ℕ). take at text ++ (b ∷ drop (at + 1) text)) feed in
        parts ∙ ap (λ (p : List ℕ × List ℕ). p.0 ++ (10 ∷ p.1)) same

-- and a line without a line feed is cut from the text that it begins
pub line_again : (n : ℕ) (line rest : List ℕ) → lacks 10 line ≡ true → line_of n (line ++ (10 ∷ rest)) ≡ Ok (line, rest)
unfolding line_of
line_again n line rest h =
    let long : length line < length (line ++ (10 ∷ rest)) = omega (arith, length-append line (10 ∷ rest)) in
    let place : position_or_len is_feed (line ++ (10 ∷ rest)) ≡ length line =
    position_or_len_is is_feed (line ++ (10 ∷ rest)) (length line) 0 (omega arith)
    (λ k less. ap (λ (b : ℕ). b == 10) (get_or_append_left line (10 ∷ rest) 0 k less) ∙ lacks_at 10 line k 0 h less)
    (λ less. ap (λ (b : ℕ). b == 10) (get_or_at line 10 rest 0 (length line) refl)) in
    let found : position is_feed (line ++ (10 ∷ rest)) ≡ Some (length line) =
    ap (λ (k : ℕ). cond (nat_lt k (length (line ++ (10 ∷ rest)))) (Some k) None) place
    ∙ ap (λ (b : Bool). cond b (Some (length line)) None) (lt-ltb (length line) (length (line ++ (10 ∷ rest))) long) in
    let behind : drop (length line + 1) (line ++ (10 ∷ rest)) ≡ rest =
    ap (drop (length line + 1)) (sym (append_assoc line (10 ∷ []) rest)) ∙ drop_at (line ++ (10 ∷ [])) rest (length line + 1) (length-append line (10 ∷ [])) in
    ap (cut_at n (line ++ (10 ∷ rest))) found ∙ rw (take_at line (10 ∷ rest) (length line) refl, behind) refl
