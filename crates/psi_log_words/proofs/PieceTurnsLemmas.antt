-- The pieces of a word, read one after another, as a loop does.
use Rattle.std.specs.Prelude.{◌≡◌, ℕ, ◌+◌, ◌-◌, ◌<◌, ◌≤◌, List, [], ◌∷◌, length, take, drop, true, Result, Ok, refl}
use Rattle.std.specs.List.{before_first, after_first}
use Rattle.std.proofs.Common.{set, ap, sym, ◌∙◌, subst, arith}
use Rattle.std.proofs.lemmas.Bool.{eqb-true}
use Rattle.std.proofs.lemmas.List.{drop-drop, drop_all, take_all, take_more_set, append-nil, length-drop}
use Rattle.psi_log_format.specs.Text.{Change}
use Rattle.psi_log_words.specs.Refusal.{Refusal, ◌>>=◌, each, IsLogError}
use Rattle.psi_log_words.specs.Words.{is_comma, pieces_of, has_pieces, number_in}
use Rattle.psi_log_words.specs.declared.refusals.LogError.{LogError}
use Rattle.psi_log_words.specs.declared.refusals.LogError.TheVariants.{Refused, OutOfMemory}
use Rattle.psi_log_words.proofs.PieceLemmas.{first_and_rest, rest_pieces}
use Rattle.psi_log_words.specs.Regions.{read_change}
use Rattle.psi_log_words.proofs.TurnLemmas.{onto, onto_more}

-- a reading that is refused refuses what goes on from it
pub bind_refused : {A B : Type 0} (error : LogError) (r : Result A Refusal) (f : A → Result B Refusal) → IsLogError error r → IsLogError error (r >>= f)
bind_refused (Refused line cause) r f fails = rw fails refl
bind_refused OutOfMemory r f fails = tt

-- the rest of a word is what is left of its pieces
pub record IsRest (word rest : List ℕ) (i : ℕ) : Type 0 where
  pub pieces : i < length (pieces_of word) → pieces_of rest ≡ drop i (pieces_of word)

pub rest_first : (word rest : List ℕ) (i : ℕ) → IsRest word rest i → i < length (pieces_of word) → drop i (pieces_of word) ≡ before_first is_comma rest ∷ drop (i + 1) (pieces_of word)
rest_first word rest i is small =
    let pieces = is.pieces small in
    sym pieces ∙ first_and_rest rest ∙ ap (λ (ps : List (List ℕ)). before_first is_comma rest ∷ drop 1 ps) pieces
    ∙ ap (λ (ps : List (List ℕ)). before_first is_comma rest ∷ ps) (drop-drop 1 i (pieces_of word))

pub rest_turn : (word rest after : List ℕ) (i : ℕ) → IsRest word rest i → after ≡ after_first is_comma rest → IsRest word after (i + 1)
rest_turn word rest after i is then = record {
  pieces = λ small. (let pieces = is.pieces (omega arith) in
      let more : 2 ≤ length (pieces_of rest) = omega (arith, ap length pieces, length-drop i (pieces_of word)) in
      ap pieces_of then ∙ rest_pieces rest more ∙ ap (drop 1) pieces ∙ drop-drop 1 i (pieces_of word));
}

-- a piece that is read takes the loop one step on
pub piece_turn : (reading : List ℕ → Result ℕ Refusal) (old new : List ℕ) (i : ℕ) (word rest : List ℕ) (b : ℕ) (whole : Result (List ℕ) Refusal)
    → new ≡ set old i b → i < length old → IsRest word rest i → i < length (pieces_of word) → onto (take i old) (each reading (drop i (pieces_of word))) ≡ whole
    → reading (before_first is_comma rest) ≡ Ok b → onto (take (i + 1) new) (each reading (drop (i + 1) (pieces_of word))) ≡ whole
unfolding each
piece_turn reading old new i word rest b whole is room left small same read =
    ap (λ (front : List ℕ). onto front (each reading (drop (i + 1) (pieces_of word)))) (ap (take (i + 1)) is ∙ take_more_set old i b room)
    ∙ sym (onto_more (take i old) b (each reading (drop (i + 1) (pieces_of word)))) ∙ rw (rest_first word rest i left small, read) at same

-- one that is refused is what the whole is refused for
pub piece_refused : (reading : List ℕ → Result ℕ Refusal) (front : List ℕ) (i : ℕ) (word rest : List ℕ) (error : LogError) (whole : Result (List ℕ) Refusal)
    → IsRest word rest i → i < length (pieces_of word) → onto front (each reading (drop i (pieces_of word))) ≡ whole → IsLogError error (reading (before_first is_comma rest))
    → IsLogError error whole
unfolding each
piece_refused reading front i word rest (Refused line cause) whole left small same fails = sym same ∙ rw (rest_first word rest i left small, fails) refl
piece_refused reading front i word rest OutOfMemory whole left small same fails = tt

-- and after the last all is read
pub pieces_end : (reading : List ℕ → Result ℕ Refusal) (x : List ℕ) (i : ℕ) (word : List ℕ) (whole : Result (List ℕ) Refusal) → length (pieces_of word) ≤ i → length x ≤ i
    → onto (take i x) (each reading (drop i (pieces_of word))) ≡ whole → whole ≡ Ok x
unfolding each
pieces_end reading x i word whole past all same =
    sym same ∙ rw (drop_all i (pieces_of word) past, take_all i x all) (ap (λ (xs : List ℕ). Ok xs) (append-nil x))

-- the three numbers of a change
pub three_read : (line queues : ℕ) (word rest last : List ℕ) → has_pieces 3 word ≡ true → rest ≡ after_first is_comma word → last ≡ after_first is_comma rest
    → read_change line queues (pieces_of word)
    ≡ (number_in line 0 (queues - 1) (before_first is_comma word) >>= (λ q. number_in line 0 65535 (before_first is_comma rest) >>= (λ l.
    number_in line 0 65535 (before_first is_comma last) >>= (λ g. Ok (record { queue = q; least = l; greatest = g })))))
unfolding read_change
three_read line queues word rest last shaped first second =
    let count : length (pieces_of word) ≡ 3 = eqb-true (length (pieces_of word)) 3 shaped in
    let one : IsRest word rest 1 = rest_turn word word rest 0 (record { pieces = λ small. refl }) first in
    let two : IsRest word last 2 = rest_turn word rest last 1 one second in
    let start : pieces_of word ≡ before_first is_comma word ∷ drop 1 (pieces_of word) = first_and_rest word in
    let next : drop 1 (pieces_of word) ≡ before_first is_comma rest ∷ drop 2 (pieces_of word) = rest_first word rest 1 one (omega arith) in
    let then : drop 2 (pieces_of word) ≡ before_first is_comma last ∷ drop 3 (pieces_of word) = rest_first word last 2 two (omega arith) in
    let end : drop 3 (pieces_of word) ≡ [] = drop_all 3 (pieces_of word) (omega arith) in
    ap (read_change line queues) (start ∙ ap (λ (ps : List (List ℕ)). before_first is_comma word ∷ ps) (next ∙ ap (λ (ps : List (List ℕ)). before_first is_comma rest ∷ ps)
    (then ∙ ap (λ (ps : List (List ℕ)). before_first is_comma last ∷ ps) end)))

pub queue_refused : (line queues : ℕ) (word : List ℕ) (error : LogError) → has_pieces 3 word ≡ true
    → IsLogError error (number_in line 0 (queues - 1) (before_first is_comma word)) → IsLogError error (read_change line queues (pieces_of word))
queue_refused line queues word error shaped fails =
    subst (λ (r : Result Change Refusal). IsLogError error r) (sym (three_read line queues word _ _ shaped refl refl)) (bind_refused error (number_in line 0 (queues - 1) (before_first is_comma word)) _ fails)

pub least_refused : (line queues : ℕ) (word rest : List ℕ) (q : ℕ) (error : LogError) → has_pieces 3 word ≡ true → rest ≡ after_first is_comma word
    → number_in line 0 (queues - 1) (before_first is_comma word) ≡ Ok q → IsLogError error (number_in line 0 65535 (before_first is_comma rest))
    → IsLogError error (read_change line queues (pieces_of word))
least_refused line queues word rest q error shaped first queue fails =
    subst (λ (r : Result Change Refusal). IsLogError error r) (sym (three_read line queues word rest _ shaped first refl))
    (rw queue (bind_refused error (number_in line 0 65535 (before_first is_comma rest)) _ fails))

pub greatest_refused : (line queues : ℕ) (word rest last : List ℕ) (q l : ℕ) (error : LogError) → has_pieces 3 word ≡ true → rest ≡ after_first is_comma word → last ≡ after_first is_comma rest
    → number_in line 0 (queues - 1) (before_first is_comma word) ≡ Ok q → number_in line 0 65535 (before_first is_comma rest) ≡ Ok l
    → IsLogError error (number_in line 0 65535 (before_first is_comma last)) → IsLogError error (read_change line queues (pieces_of word))
greatest_refused line queues word rest last q l error shaped first second queue least fails =
    subst (λ (r : Result Change Refusal). IsLogError error r) (sym (three_read line queues word rest last shaped first second))
    (rw (queue, least) (bind_refused error (number_in line 0 65535 (before_first is_comma last)) _ fails))

pub change_read : (line queues : ℕ) (word rest last : List ℕ) (q l g : ℕ) → has_pieces 3 word ≡ true → rest ≡ after_first is_comma word → last ≡ after_first is_comma rest
    → number_in line 0 (queues - 1) (before_first is_comma word) ≡ Ok q → number_in line 0 65535 (before_first is_comma rest) ≡ Ok l → number_in line 0 65535 (before_first is_comma last) ≡ Ok g
    → read_change line queues (pieces_of word) ≡ Ok (record { queue = q; least = l; greatest = g })
change_read line queues word rest last q l g shaped first second queue least greatest = three_read line queues word rest last shaped first second ∙ rw (queue, least, greatest) refl
