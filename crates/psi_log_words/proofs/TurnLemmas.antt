-- Reading the members of a list one after another, as a loop does.
use Rattle.std.specs.Prelude.{◌≡◌, ℕ, suc, ◌+◌, ◌<◌, ◌≤◌, List, [], ◌∷◌, ◌++◌, length, map, take, drop, true, false, Result, Ok, Err, refl}
use Rattle.std.specs.List.{list_all}
use Rattle.std.proofs.Common.{get_or, ap, sym, ◌∙◌, append_assoc, arith}
use Rattle.std.proofs.lemmas.List.{drop_more, append-nil, drop-append-le, take_all, length-drop}
use Rattle.psi_log_words.proofs.WordLemmas.{bind_ok, ok_same}
use Rattle.std.proofs.lemmas.Bool.{and_parts}
use Rattle.std.proofs.Math.ListN.{drop_of_length-le}
use Rattle.psi_log_words.specs.Refusal.{Refusal, ◌>>=◌, each, IsLogError}
use Rattle.psi_log_words.specs.Words.{has_pieces}
use Rattle.psi_log_words.specs.declared.refusals.LogError.{LogError}
use Rattle.psi_log_words.specs.declared.refusals.LogError.TheVariants.{Refused, OutOfMemory}

-- a test of words: one that passes it takes the loop one step on, another ends it, and after the last word none fails
pub shaped_turn : {V : Type 0} (view : V → List ℕ) (count i : ℕ) (vs : List V) (v : V) → i < length vs → v ≡ get_or vs i v → has_pieces count (view v) ≡ true
    → list_all (has_pieces count) (map view (drop i vs)) ≡ list_all (has_pieces count) (map view (drop (i + 1) vs))
shaped_turn view count i vs v small is passes = rw (drop_more vs i v small, ← is, passes) refl

pub shaped_fails : {V : Type 0} (view : V → List ℕ) (count i : ℕ) (vs : List V) (v : V) → i < length vs → v ≡ get_or vs i v → has_pieces count (view v) ≡ false
    → list_all (has_pieces count) (map view (drop i vs)) ≡ false
shaped_fails view count i vs v small is fails = rw (drop_more vs i v small, ← is, fails) refl

pub shaped_ends : {V : Type 0} (view : V → List ℕ) (count i : ℕ) (vs : List V) → length vs ≤ i → list_all (has_pieces count) (map view (drop i vs)) ≡ true
shaped_ends view count i vs past = rw (drop_of_length-le vs past) refl

-- what is read of the rest, after what was read before it
abbrev pub onto : {B : Type 0} → List B → Result (List B) Refusal → Result (List B) Refusal
onto front (Ok rest) = Ok (front ++ rest)
onto front (Err refusal) = Err refusal

pub onto_none : {B : Type 0} (r : Result (List B) Refusal) → onto [] r ≡ r
onto_none (Ok rest) = refl
onto_none (Err refusal) = refl

pub onto_more : {B : Type 0} (front : List B) (b : B) (r : Result (List B) Refusal) → onto front (r >>= (λ (bs : List B). Ok (b ∷ bs))) ≡ onto (front ++ b ∷ []) r
onto_more front b (Ok rest) = ap (λ (xs : List _). Ok xs) (sym (append_assoc front (b ∷ []) rest))
onto_more front b (Err refusal) = refl

-- a member that is read takes the loop one step on
pub turn : {V A B : Type 0} (view : V → A) (reading : A → Result B Refusal) (front : List B) (i : ℕ) (vs : List V) (d : V) (b : B)
    → i < length vs → reading (view (get_or vs i d)) ≡ Ok b
    → onto front (each reading (map view (drop i vs))) ≡ onto (front ++ b ∷ []) (each reading (map view (drop (i + 1) vs)))
unfolding each
turn view reading front i vs d b small read = rw (drop_more vs i d small, read) (onto_more front b (each reading (map view (drop (i + 1) vs))))

-- a member that is refused is what the whole is refused for
pub turn_refused : {V A B : Type 0} (view : V → A) (reading : A → Result B Refusal) (front : List B) (i : ℕ) (vs : List V) (d : V) (error : LogError) (whole : Result (List B) Refusal)
    → i < length vs → onto front (each reading (map view (drop i vs))) ≡ whole → IsLogError error (reading (view (get_or vs i d))) → IsLogError error whole
unfolding each
turn_refused view reading front i vs d (Refused line cause) whole small same fails = sym same ∙ rw (drop_more vs i d small, fails) refl
turn_refused view reading front i vs d OutOfMemory whole small same fails = tt

-- after the last member all is read
pub turn_ends : {V A B : Type 0} (view : V → A) (reading : A → Result B Refusal) (front : List B) (i : ℕ) (vs : List V) → length vs ≤ i
    → onto front (each reading (map view (drop i vs))) ≡ Ok front
unfolding each
turn_ends view reading front i vs past = rw (drop_of_length-le vs past) (ap (λ (xs : List _). Ok xs) (append-nil front))

-- a loop that puts what it has read after a list
pub turn_push : {V A B : Type 0} (view : V → A) (reading : A → Result B Refusal) (old new : List B) (n i : ℕ) (vs : List V) (d : V) (b : B) (whole : Result (List B) Refusal)
    → new ≡ old ++ b ∷ [] → n ≤ length old → i < length vs → onto (drop n old) (each reading (map view (drop i vs))) ≡ whole → reading (view (get_or vs i d)) ≡ Ok b
    → onto (drop n new) (each reading (map view (drop (i + 1) vs))) ≡ whole
turn_push {B = B} view reading old new n i vs d b whole is room small same read =
    ap (λ (front : List B). onto front (each reading (map view (drop (i + 1) vs)))) (ap (drop n) is ∙ drop-append-le n old (b ∷ []) room)
    ∙ sym (turn view reading (drop n old) i vs d b small read) ∙ same

pub shaped_rest : {V : Type 0} (view : V → List ℕ) (count i : ℕ) (vs : List V) → i < length vs → list_all (has_pieces count) (map view (drop i vs)) ≡ true
    → list_all (has_pieces count) (map view (drop (i + 1) vs)) ≡ true
shaped_rest view count i [] small all = absurd (omega arith)
shaped_rest view count i (v ∷ vs) small all = (and_parts _ _ (rw (drop_more (v ∷ vs) i v small) at all)).1

-- as many values are read as there are members
pub each_length : {A B : Type 0} (reading : A → Result B Refusal) (members : List A) (bs : List B) → each reading members ≡ Ok bs → length bs ≡ length members
unfolding each
each_length reading [] bs h = sym (ap length (ok_same [] bs h))
each_length {B = B} reading (a ∷ rest) bs h =
    let first = bind_ok (reading a) (λ (b : B). each reading rest >>= (λ (cs : List B). Ok (b ∷ cs))) bs h in
    let others = bind_ok (each reading rest) (λ (cs : List B). Ok (first.0 ∷ cs)) bs first.2 in
    sym (ap length (ok_same (first.0 ∷ others.0) bs others.2)) ∙ ap suc (each_length reading rest others.0 others.1)

-- the rest of a list, when its length is known
pub rest_whole : {X : Type 0} (xs : List X) (first count : ℕ) → length (drop first xs) ≡ count → take count (drop first xs) ≡ drop first xs
rest_whole xs first count is = take_all count (drop first xs) (omega arith)

pub rest_there : {X : Type 0} (xs : List X) (first count : ℕ) → first ≤ length xs → length (drop first xs) ≡ count → first + count ≤ length xs
rest_there xs first count small is = omega (arith, length-drop first xs)
