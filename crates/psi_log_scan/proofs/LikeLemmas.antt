-- The line of a set of one state that is like that of another one.
use Rattle.std.specs.Prelude.{◌≡◌, ℕ, ◌+◌, ◌-◌, ◌<◌, ◌≤◌, ◌^◌, List, [], ◌∷◌, ◌++◌, length, slice_index, take, drop, codes, refl}
use Rattle.std.specs.Fmt.{decimal}
use Rattle.std.proofs.Common.{get_or, ap, sym, ◌∙◌, subst, arith, append_assoc, length-append, inl, inr}
use Rattle.std.proofs.lemmas.List.{take_more, take_all, take-take, take-append-le, length-drop, drop-drop, get_or-drop, append-nil}
use Rattle.std.proofs.Math.Seq.{take-add, drop-append_seam}
use Rattle.std.proofs.lemmas.List.Concat.{flat_map-append}
use Rattle.psi_log_format.specs.Log.{in_set, IsState, IsSet}
use Rattle.psi_log_format.specs.Text.{numbers_text, region_words}
use Rattle.psi_log_format.specs.Room.{spaced_words}
use Rattle.psi_log_format.proofs.JoinedLemmas.{then}
use Rattle.std.proofs.lemmas.List.{take_rest}
use Rattle.psi_log_words.proofs.StateLemmas.{rising_found}
use Rattle.psi_log_scan.specs.Scanned.{Stands, TellsSet, with_comma, with_commas}
use Rattle.psi_log_scan.proofs.ScanLemmas.{part_stands, commas_none, text_last, is_state}
use Rattle.psi_log_scan.proofs.RowsLemmas.{front_longer, front_short, text_front}
use Rattle.psi_log_scan.proofs.SetLineLemmas.{part_is}

-- the numbers of the row before a queue stand in the text up to a place, and those from there on in the word from another place on
pub record IsLike (text word row : List ℕ) (at end place queue : ℕ) : Type 0 where
  pub within : queue < length row
  pub front : Stands text at end (with_commas (take queue row))
  pub back : drop place word ≡ numbers_text (drop queue row) ++ (10 ∷ [])

pub like_begin : (text word row : List ℕ) (at : ℕ) → 1 ≤ length row → word ≡ numbers_text row ++ (10 ∷ []) → IsLike text word row at at 0 0
like_begin text word row at some is = record {
  within = omega arith;
  front = commas_none text row at;
  back = is;
}

-- bytes of a text that are those of another one
alike_part : (text word : List ℕ) (end place same : ℕ) → take same (take (length text - end) (drop end text)) ≡ take same (take (length word - place) (drop place word))
    → take same (drop end text) ≡ take same (drop place word)
alike_part text word end place same is = ap (take same) (sym (take_rest text end)) ∙ is ∙ ap (take same) (take_rest word place)

-- all that is left is the same
pub like_whole : (text word row : List ℕ) (at end place queue same : ℕ) → IsLike text word row at end place queue → place ≤ length word → same ≡ length word - place
    → take same (take (length text - end) (drop end text)) ≡ take same (take (length word - place) (drop place word)) → Stands text at (end + same) (numbers_text row ++ (10 ∷ []))
like_whole text word row at end place queue same like room all alike =
    let left : length (drop place word) ≡ same = length-drop place word ∙ sym all in
    let part : take same (drop end text) ≡ numbers_text (drop queue row) ++ (10 ∷ []) =
    alike_part text word end place same alike ∙ take_all same (drop place word) (omega arith) ∙ like.back in
    let size : same ≡ length (numbers_text (drop queue row) ++ (10 ∷ [])) = sym left ∙ ap length like.back in
    then (with_commas (take queue row)) (numbers_text (drop queue row) ++ (10 ∷ [])) (numbers_text row ++ (10 ∷ [])) like.front
    (part_stands text (numbers_text (drop queue row) ++ (10 ∷ [])) end same (end + same) refl size part)
    (sym (ap (λ (t : List ℕ). t ++ (10 ∷ [])) (text_front row queue like.within) ∙ append_assoc (with_commas (take queue row)) (numbers_text (drop queue row)) (10 ∷ [])))

-- the numbers between two queues
between : (row : List ℕ) (queue next : ℕ) → queue ≤ next → with_commas (take queue row) ++ with_commas (take (next - queue) (drop queue row)) ≡ with_commas (take next row)
unfolding with_commas
between row queue next after =
    let whole : queue + (next - queue) ≡ next = omega arith in
    sym (ap (λ (k : ℕ). with_commas (take k row)) (sym whole) ∙ ap with_commas (take-add queue (next - queue) row)
    ∙ flat_map-append with_comma (take queue row) (take (next - queue) (drop queue row)))

-- what is left of the word after them
left_behind : (word row : List ℕ) (place queue next : ℕ) → queue ≤ next → next < length row → drop place word ≡ numbers_text (drop queue row) ++ (10 ∷ [])
    → drop place word ≡ with_commas (take (next - queue) (drop queue row)) ++ (numbers_text (drop next row) ++ (10 ∷ []))
left_behind word row place queue next after within back =
    let whole : queue + (next - queue) ≡ next = omega arith in
    back
    ∙ ap (λ (t : List ℕ). t ++ (10 ∷ [])) (text_front (drop queue row) (next - queue) (omega (arith, length-drop queue row)))
    ∙ append_assoc (with_commas (take (next - queue) (drop queue row))) (numbers_text (drop (next - queue) (drop queue row))) (10 ∷ [])
    ∙ ap (λ (d : List ℕ). with_commas (take (next - queue) (drop queue row)) ++ (numbers_text d ++ (10 ∷ []))) (drop-drop (next - queue) queue row ∙ ap (λ (k : ℕ). drop k row) whole)

behind : (word front rest : List ℕ) (place len : ℕ) → len ≡ length front → drop place word ≡ front ++ rest → drop (place + len) word ≡ rest
behind word front rest place len size is =
    sym (drop-drop len place word) ∙ ap (drop len) is ∙ ap (λ (k : ℕ). drop k (front ++ rest)) size ∙ drop-append_seam front rest

-- the word goes on after them
pub room_behind : (text word row : List ℕ) (at end place queue next len : ℕ) → IsLike text word row at end place queue → place ≤ length word → queue < next → next < length row
    → length (with_commas (take queue row)) + len ≡ length (with_commas (take next row)) → place + len ≤ length word
room_behind text word row at end place queue next len like room after within is =
    let front = with_commas (take (next - queue) (drop queue row)) in
    let rest = numbers_text (drop next row) ++ (10 ∷ []) in
    let size = ap length (left_behind word row place queue next (omega arith) within like.back) ∙ length-append front rest in
    let left = length-drop place word in
    let count = ap length (between row queue next (omega arith)) in
    let parts = length-append (with_commas (take queue row)) (with_commas (take (next - queue) (drop queue row))) in
    omega arith

-- the numbers up to a queue are the same
pub like_pass : (text word row : List ℕ) (at end place queue next same len : ℕ) → IsLike text word row at end place queue → queue ≤ next → next < length row
    → length (with_commas (take queue row)) + len ≡ length (with_commas (take next row)) → len ≤ same
    → take same (take (length text - end) (drop end text)) ≡ take same (take (length word - place) (drop place word)) → IsLike text word row at (end + len) (place + len) next
like_pass text word row at end place queue next same len like after within is few alike =
    let front = with_commas (take (next - queue) (drop queue row)) in
    let rest = numbers_text (drop next row) ++ (10 ∷ []) in
    let joined = between row queue next after in
    let count = ap length joined in
    let parts = length-append (with_commas (take queue row)) (with_commas (take (next - queue) (drop queue row))) in
    let size : len ≡ length (with_commas (take (next - queue) (drop queue row))) = omega arith in
    let left = left_behind word row place queue next after within like.back in
    let part : take len (drop end text) ≡ with_commas (take (next - queue) (drop queue row)) =
    sym (take-take len same (drop end text) few) ∙ ap (take len) (alike_part text word end place same alike) ∙ take-take len same (drop place word) few
    ∙ ap (take len) left ∙ take-append-le len front rest (omega arith) ∙ take_all len front (omega arith) in
    record {
      within = within;
      front = then (with_commas (take queue row)) front (with_commas (take next row)) like.front (part_stands text front end len (end + len) refl size part) joined;
      back = behind word front rest place len size left;
    }

-- one number with the comma after it
one_size : (row : List ℕ) (q : ℕ) → q < length row → length (with_commas (take (q + 1 - q) (drop q row))) ≡ length (decimal (get_or row q 0)) + 1
one_size row q small =
    let one : q + 1 - q ≡ 0 + 1 = omega arith in
    let same : q + 0 ≡ q = omega arith in
    let longer = front_longer (drop q row) 0 (omega (arith, length-drop q row)) in
    let none = front_short (drop q row) in
    let number : get_or (drop q row) 0 0 ≡ get_or row q 0 = get_or-drop q row 0 0 ∙ ap (λ (k : ℕ). get_or row k 0) same in
    let count = ap (λ (k : ℕ). length (with_commas (take k (drop q row)))) one in
    let digits = ap (λ (n : ℕ). length (decimal n)) number in
    omega arith

-- a number more, which may be another one
pub like_more : (text word row newer : List ℕ) (at end after place queue bytes : ℕ) → IsLike text word row at end place queue → queue + 1 < length row → length newer ≡ length row
    → take queue newer ≡ take queue row → drop (queue + 1) newer ≡ drop (queue + 1) row → bytes ≡ length (decimal (get_or row queue 0)) + 1
    → Stands text end after (with_comma (get_or newer queue 0)) → IsLike text word newer at after (place + bytes) (queue + 1)
unfolding with_commas
like_more text word row newer at end after place queue bytes like more count same others is there =
    let front = with_commas (take (queue + 1 - queue) (drop queue row)) in
    let rest = numbers_text (drop (queue + 1) row) ++ (10 ∷ []) in
    let left = left_behind word row place queue (queue + 1) (omega arith) more like.back in
    let size : bytes ≡ length (with_commas (take (queue + 1 - queue) (drop queue row))) = is ∙ sym (one_size row queue (omega arith)) in
    let joined : with_commas (take queue row) ++ with_comma (get_or newer queue 0) ≡ with_commas (take (queue + 1) newer) =
    sym (ap with_commas (take_more newer queue 0 (omega arith) ∙ ap (λ (t : List ℕ). t ++ get_or newer queue 0 ∷ []) same)
    ∙ flat_map-append with_comma (take queue row) (get_or newer queue 0 ∷ [])
    ∙ ap (λ (t : List ℕ). with_commas (take queue row) ++ t) (append-nil (with_comma (get_or newer queue 0)))) in
    record {
      within = omega arith;
      front = then (with_commas (take queue row)) (with_comma (get_or newer queue 0)) (with_commas (take (queue + 1) newer)) like.front there joined;
      back = behind word front rest place bytes size left ∙ ap (λ (d : List ℕ). numbers_text d ++ (10 ∷ [])) (sym others);
    }

-- and the last one
pub like_last : (text word row newer : List ℕ) (at end after place queue : ℕ) → IsLike text word row at end place queue → queue + 1 ≡ length row → length newer ≡ length row
    → take queue newer ≡ take queue row → Stands text end after (decimal (get_or newer queue 0) ++ (10 ∷ [])) → Stands text at after (numbers_text newer ++ (10 ∷ []))
like_last text word row newer at end after place queue like last count same there =
    let number = get_or newer queue 0 in
    let all : newer ≡ take queue row ++ number ∷ [] =
    sym (take_all (queue + 1) newer (omega arith)) ∙ take_more newer queue 0 (omega arith) ∙ ap (λ (t : List ℕ). t ++ get_or newer queue 0 ∷ []) same in
    then (with_commas (take queue row)) (decimal number ++ (10 ∷ [])) (numbers_text newer ++ (10 ∷ [])) like.front there
    (sym (ap (λ (t : List ℕ). t ++ (10 ∷ [])) (ap numbers_text all ∙ text_last (take queue row) number) ∙ append_assoc (with_commas (take queue row)) (decimal number) (10 ∷ [])))

-- the end of a line that tells one state
one_text : (row : List ℕ) → spaced_words (region_words (in_set (row ∷ []))) ++ (10 ∷ []) ≡ codes " set " ++ (numbers_text row ++ (10 ∷ []))
unfolding spaced_words
one_text row = ap (λ (t : List ℕ). codes " set " ++ (t ++ (10 ∷ []))) (append-nil (numbers_text row))

pub like_word : (queues : ℕ) (line row : List ℕ) → TellsSet queues line (row ∷ []) → drop 5 line ≡ numbers_text row ++ (10 ∷ [])
like_word queues line row tells = ap (drop 5) (tells.words ∙ one_text row)

one_set : (queues : ℕ) (row : List ℕ) → IsState queues row → IsSet queues (row ∷ [])
one_set queues row state = record {
  some = omega arith;
  few = omega arith;
  each = λ x there. elim there [ inl e ↦ subst (λ (y : List ℕ). IsState queues y) (sym e) state | inr t ↦ absurd t ];
  rising = rising_found (row ∷ []) refl;
}

-- the state that was read
pub like_set : (queues : ℕ) (text row : List ℕ) (at end : ℕ) → at ≤ length text → length row ≡ queues → ((i : ℕ) → slice_index row i < 2 ^ 16) → Stands text at (at + 5) (codes " set ")
    → Stands text (at + 5) end (numbers_text row ++ (10 ∷ []))
    → TellsSet queues (take (end - at) (drop at text)) (row ∷ []) × Stands text at (at + length (take (end - at) (drop at text))) (take (end - at) (drop at text))
like_set queues text row at end small count range name there =
    let whole = codes " set " ++ (numbers_text row ++ (10 ∷ [])) in
    let line : Stands text at end whole = then (codes " set ") (numbers_text row ++ (10 ∷ [])) whole name there refl in
    let part : take (end - at) (drop at text) ≡ whole = part_is text whole at end small line in
    let place = line.place in
    let size : end ≡ at + length (take (end - at) (drop at text)) = place ∙ ap (λ (t : List ℕ). at + length t) (sym part) in (
      record { set = one_set queues row (is_state queues row count range); words = part ∙ sym (one_text row) },
      subst (λ (w : List ℕ). Stands text at (at + length w) w) (sym part) (subst (λ (e : ℕ). Stands text at e whole) place line),
    )
