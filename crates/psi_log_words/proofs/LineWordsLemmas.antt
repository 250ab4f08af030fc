-- The words of a line, read one after another up to its line feed, as a loop does.
use Rattle.std.specs.Prelude.{◌≡◌, ℕ, zero, suc, ◌+◌, ◌-◌, ◌<◌, ◌≤◌, List, [], ◌∷◌, ◌++◌, length, map, take, drop, Bool, true, false, not, cond, Some, None, Ok, Err, refl}
use Rattle.std.specs.List.{position, position_or_len, before_first, after_first}
use Rattle.std.proofs.Common.{get_or, ap, sym, ◌∙◌, arith, append_assoc, length-append, inl, inr}
use Rattle.std.proofs.lemmas.Bool.{eq-eqb, lt-ltb, le-ltb, cases_eq, cases_lt}
use Rattle.std.proofs.lemmas.List.{take_all, take-take, take-append-le, drop-take, drop-drop, get_or-drop, get_or-take, length-take-le, length-take, length-drop, length-map, map-append}
use Rattle.std.proofs.lemmas.List.Elements.{All-from_get_or}
use Rattle.std.proofs.lemmas.List.Splits.{slice_split_none, slice_split_first}
use Rattle.std.proofs.lemmas.List.Sums.{prefix_len-le-length, position_or_len_is, fails_before_first, passes_at_first}
use Rattle.psi_log_words.specs.Refusal.{refused}
use Rattle.psi_log_words.specs.Words.{is_feed, is_space, cut_at, line_of, tokens_of}
use Rattle.psi_log_words.specs.declared.refusals.LogCause.TheVariants.{Truncated}

-- the front of a list stays when its own front is taken first
pub take_onto : {X : Type 0} (n : ℕ) (xs ys : List X) → take n (take n xs ++ ys) ≡ take n (xs ++ ys)
take_onto zero xs ys = refl
take_onto (suc n) [] ys = refl
take_onto {X} (suc n) (x ∷ xs) ys = ap (λ (zs : List X). x ∷ zs) (take_onto n xs ys)

-- a word that is put after fewer, and one that isn't
pub front_more : {V : Type 0} (view : V → List ℕ) (n : ℕ) (vs more : List V) (v : V) → more ≡ vs ++ v ∷ [] → length vs < n → map view more ≡ take n (map view vs ++ view v ∷ [])
front_more view n vs more v is few =
    let whole : map view more ≡ map view vs ++ view v ∷ [] = ap (map view) is ∙ map-append view vs (v ∷ []) in
    let long : length (map view vs ++ view v ∷ []) ≤ n = omega (arith, length-append (map view vs) (view v ∷ []), length-map vs view) in
    whole ∙ sym (take_all n (map view vs ++ view v ∷ []) long)

pub front_full : {V : Type 0} (view : V → List ℕ) (n : ℕ) (vs : List V) (v : V) → length vs ≡ n → map view vs ≡ take n (map view vs ++ view v ∷ [])
front_full view n vs v is =
    let same : length (map view vs) ≡ n = length-map vs view ∙ is in
    let few : n ≤ length (map view vs) = omega arith in
    let many : length (map view vs) ≤ n = omega arith in
    sym (take-append-le n (map view vs) (view v ∷ []) few ∙ take_all n (map view vs) many)

-- no line feed so far, and the words in front of the one that begins at a place
pub record AreWords (text : List ℕ) (at first : ℕ) (front : List (List ℕ)) : Type 0 where
  pub line : at ≤ position_or_len is_feed text
  pub start : first ≤ at
  pub plain : (k : ℕ) → first ≤ k → k < at → is_space (get_or text k 0) ≡ false
  pub words : front ++ tokens_of (drop first (before_first is_feed text)) ≡ tokens_of (before_first is_feed text)

pub words_none : (text : List ℕ) → AreWords text 0 0 []
words_none text = record { line = omega arith; start = omega arith; plain = λ k least less. absurd (omega arith); words = refl }

-- a byte that is no line feed
line_more : (text : List ℕ) (at : ℕ) → at ≤ position_or_len is_feed text → at < length text → is_feed (get_or text at 0) ≡ false → at + 1 ≤ position_or_len is_feed text
line_more text at line small other = elim (cases_lt at (position_or_len is_feed text)) [
  | inl less ↦ omega arith
  | inr past ↦ (let here : position_or_len is_feed text ≡ at = omega arith in
      let feed : is_feed (get_or text (position_or_len is_feed text) 0) ≡ true = passes_at_first is_feed text 0 (omega arith) in
      let same : is_feed (get_or text (position_or_len is_feed text) 0) ≡ is_feed (get_or text at 0) = ap (λ (k : ℕ). is_feed (get_or text k 0)) here in
      absurd cc)
]

-- the line, from where a word begins
line_at : (text : List ℕ) (first k : ℕ) → first + k < position_or_len is_feed text → get_or (drop first (before_first is_feed text)) k 0 ≡ get_or text (first + k) 0
line_at text first k small = get_or-drop first (before_first is_feed text) k 0 ∙ get_or-take (position_or_len is_feed text) text (first + k) 0 small

line_length : (text : List ℕ) (first : ℕ) → length (drop first (before_first is_feed text)) ≡ position_or_len is_feed text - first
line_length text first =
    length-drop first (before_first is_feed text) ∙ ap (λ (n : ℕ). n - first) (length-take-le (position_or_len is_feed text) text (prefix_len-le-length (λ b. not (is_feed b)) text))

line_front : (text : List ℕ) (first at : ℕ) → first ≤ at → at ≤ position_or_len is_feed text → take (at - first) (drop first (before_first is_feed text)) ≡ take (at - first) (drop first text)
line_front text first at start line =
    let whole : first + (position_or_len is_feed text - first) ≡ position_or_len is_feed text = omega arith in
    ap (λ (n : ℕ). take (at - first) (drop first (take n text))) (sym whole)
    ∙ ap (take (at - first)) (drop-take first (position_or_len is_feed text - first) text)
    ∙ take-take (at - first) (position_or_len is_feed text - first) (drop first text) (omega arith)

pub words_byte : (text : List ℕ) (at first : ℕ) (words : List (List ℕ)) → AreWords text at first words → at < length text → is_feed (get_or text at 0) ≡ false
    → is_space (get_or text at 0) ≡ false → AreWords text (at + 1) first words
words_byte text at first words are small other plain = record {
  line = line_more text at are.line small other;
  start = (let start = are.start in omega arith);
  plain = λ k least less. elim (cases_eq k at) [ inl e ↦ ap (λ (j : ℕ). is_space (get_or text j 0)) e ∙ plain | inr ne ↦ are.plain k least (omega arith) ];
  words = are.words;
}

pub words_space : (text : List ℕ) (at first : ℕ) (words more : List (List ℕ)) (word : List ℕ) → AreWords text at first words → at < length text
    → is_feed (get_or text at 0) ≡ false → is_space (get_or text at 0) ≡ true → word ≡ take (at - first) (drop first text) → more ≡ words ++ word ∷ []
    → AreWords text (at + 1) (at + 1) more
words_space text at first words more word are small other space is then =
    let line : at + 1 ≤ position_or_len is_feed text = line_more text at are.line small other in
    let start = are.start in
    let there : first + (at - first) ≡ at = omega arith in
    let long : length (drop first (before_first is_feed text)) ≡ position_or_len is_feed text - first = line_length text first in
    let place : position_or_len is_space (drop first (before_first is_feed text)) ≡ at - first =
    position_or_len_is is_space (drop first (before_first is_feed text)) (at - first) 0 (omega arith)
    (λ k less. ap is_space (line_at text first k (omega arith)) ∙ are.plain (first + k) (omega arith) (omega arith))
    (λ less. ap is_space (line_at text first (at - first) (omega arith)) ∙ ap (λ (k : ℕ). is_space (get_or text k 0)) there ∙ space) in
    let cut : tokens_of (drop first (before_first is_feed text))
    ≡ before_first is_space (drop first (before_first is_feed text)) ∷ tokens_of (after_first is_space (drop first (before_first is_feed text))) =
    slice_split_first is_space (drop first (before_first is_feed text)) 0 (omega arith) in
    let front : before_first is_space (drop first (before_first is_feed text)) ≡ word =
    ap (λ (k : ℕ). take k (drop first (before_first is_feed text))) place ∙ line_front text first at start are.line ∙ sym is in
    let behind : after_first is_space (drop first (before_first is_feed text)) ≡ drop (at + 1) (before_first is_feed text) =
    drop-drop (position_or_len is_space (drop first (before_first is_feed text)) + 1) first (before_first is_feed text)
    ∙ ap (λ (k : ℕ). drop k (before_first is_feed text)) (omega arith) in
    let both : word ∷ tokens_of (drop (at + 1) (before_first is_feed text)) ≡ tokens_of (drop first (before_first is_feed text)) =
    cc (ap tokens_of behind) in
    record {
      line = line;
      start = omega arith;
      plain = λ k least less. absurd (omega arith);
      words = ap (λ (ws : List (List ℕ)). ws ++ tokens_of (drop (at + 1) (before_first is_feed text))) then
          ∙ append_assoc words (word ∷ []) (tokens_of (drop (at + 1) (before_first is_feed text))) ∙ ap (λ (ws : List (List ℕ)). words ++ ws) both ∙ are.words;
    }

pub words_feed : (n : ℕ) (text : List ℕ) (at first : ℕ) (words more : List (List ℕ)) (word : List ℕ) → AreWords text at first words → at < length text
    → get_or text at 0 ≡ 10 → word ≡ take (at - first) (drop first text) → more ≡ words ++ word ∷ []
    → (line_of n text ≡ Ok (before_first is_feed text, drop (at + 1) text)) × (more ≡ tokens_of (before_first is_feed text))
unfolding line_of
words_feed n text at first words more word are small feed is then =
    let start = are.start in
    let line = are.line in
    let here : position_or_len is_feed text ≡ at =
    position_or_len_is is_feed text at 0 (omega arith) (λ k less. fails_before_first is_feed text k 0 (omega arith)) (λ less. eq-eqb (get_or text at 0) 10 feed) in
    let long : length (drop first (before_first is_feed text)) ≡ at - first = line_length text first ∙ ap (λ (k : ℕ). k - first) here in
    let last : tokens_of (drop first (before_first is_feed text)) ≡ drop first (before_first is_feed text) ∷ [] =
    slice_split_none is_space (drop first (before_first is_feed text)) (All-from_get_or (λ b. is_space b ≡ false) (drop first (before_first is_feed text)) 0
    (λ k less. ap is_space (line_at text first k (omega arith)) ∙ are.plain (first + k) (omega arith) (omega arith))) in
    let same : drop first (before_first is_feed text) ≡ word =
    sym (take_all (at - first) (drop first (before_first is_feed text)) (omega arith)) ∙ line_front text first at start line ∙ sym is in
    let found : position is_feed text ≡ Some (position_or_len is_feed text) =
    ap (λ (t : Bool). cond t (Some (position_or_len is_feed text)) None) (lt-ltb (position_or_len is_feed text) (length text) (omega arith)) in (
      ap (cut_at n text) found ∙ ap (λ (k : ℕ). Ok (before_first is_feed text, drop (k + 1) text)) here,
      then ∙ ap (λ (w : List ℕ). words ++ w ∷ []) (sym same) ∙ ap (λ (ws : List (List ℕ)). words ++ ws) (sym last) ∙ are.words,
    )

pub words_end : (n : ℕ) (text : List ℕ) (at first : ℕ) (words : List (List ℕ)) → AreWords text at first words → length text ≤ at → line_of n text ≡ Err (refused n Truncated)
unfolding line_of
words_end n text at first words are past =
    let line = are.line in
    let none : position is_feed text ≡ None =
    ap (λ (t : Bool). cond t (Some (position_or_len is_feed text)) None) (le-ltb (position_or_len is_feed text) (length text) (omega arith)) in
    ap (cut_at n text) none

-- of the words in front of the one that begins at a place the first 4,101
pub record AreKept (text : List ℕ) (at first : ℕ) (front : List (List ℕ)) : Type 0 where
  pub words : List (List ℕ)
  pub are : AreWords text at first words
  pub cut : front ≡ take 4101 words

pub kept_none : (text : List ℕ) → AreKept text 0 0 []
kept_none text = record { words = []; are = words_none text; cut = refl }

pub kept_few : (text : List ℕ) (at first : ℕ) (front : List (List ℕ)) → AreKept text at first front → length front ≤ 4101
kept_few text at first front kept = omega (arith, ap length kept.cut, length-take 4101 kept.words)

pub kept_byte : (text : List ℕ) (at first : ℕ) (front : List (List ℕ)) → AreKept text at first front → at < length text → is_feed (get_or text at 0) ≡ false
    → is_space (get_or text at 0) ≡ false → AreKept text (at + 1) first front
kept_byte text at first front kept small other plain = record { words = kept.words; are = words_byte text at first kept.words kept.are small other plain; cut = kept.cut }

-- the front with one word more
front_next : (front more words : List (List ℕ)) (word : List ℕ) → front ≡ take 4101 words → more ≡ take 4101 (front ++ word ∷ []) → more ≡ take 4101 (words ++ word ∷ [])
front_next front more words word is then = then ∙ ap (λ (ws : List (List ℕ)). take 4101 (ws ++ word ∷ [])) is ∙ take_onto 4101 words (word ∷ [])

pub kept_space : (text : List ℕ) (at first : ℕ) (front more : List (List ℕ)) (word : List ℕ) → AreKept text at first front → at < length text
    → is_feed (get_or text at 0) ≡ false → is_space (get_or text at 0) ≡ true → word ≡ take (at - first) (drop first text) → more ≡ take 4101 (front ++ word ∷ [])
    → AreKept text (at + 1) (at + 1) more
kept_space text at first front more word kept small other space is then = record {
  words = kept.words ++ word ∷ [];
  are = words_space text at first kept.words (kept.words ++ word ∷ []) word kept.are small other space is refl;
  cut = front_next front more kept.words word kept.cut then;
}

pub kept_feed : (n : ℕ) (text : List ℕ) (at first : ℕ) (front more : List (List ℕ)) (word : List ℕ) → AreKept text at first front → at < length text
    → get_or text at 0 ≡ 10 → word ≡ take (at - first) (drop first text) → more ≡ take 4101 (front ++ word ∷ [])
    → (line_of n text ≡ Ok (before_first is_feed text, drop (at + 1) text)) × (more ≡ take 4101 (tokens_of (before_first is_feed text)))
kept_feed n text at first front more word kept small feed is then =
    let whole = words_feed n text at first kept.words (kept.words ++ word ∷ []) word kept.are small feed is refl in
    (whole.0, front_next front more kept.words word kept.cut then ∙ ap (take 4101) whole.1)
