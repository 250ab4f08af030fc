-- The box as the changes so far have it, as a loop makes it of the box before.
use Rattle.std.specs.Prelude.{◌≡◌, ◌⊎◌, ℕ, suc, ◌+◌, ◌<◌, ◌≤◌, List, [], ◌∷◌, ◌++◌, length, map, drop, slice_set, Bool, true, false, ◌&&◌, nat_le, nat_lt, Result, Ok, Err, refl}
use Rattle.std.specs.List.{list_all}
use Rattle.std.proofs.Common.{get_or, ap, sym, ◌∙◌, arith, inl, inr}
use Rattle.std.proofs.Math.Bool.{and_assoc, and-true}
use Rattle.std.proofs.lemmas.Bool.{and_parts, and_from, le-leb, lt-leb}
use Rattle.std.proofs.lemmas.List.Folds.{list_all-append}
use Rattle.psi_state.specs.State.{Corners}
use Rattle.psi_log_format.specs.Log.{in_box}
use Rattle.psi_log_format.specs.Text.{Change}
use Rattle.psi_log_words.specs.Refusal.{Refusal, refused, each, IsLogError}
use Rattle.psi_log_words.specs.Words.{pieces_of}
use Rattle.psi_log_words.specs.declared.refusals.LogError.{LogError}
use Rattle.psi_log_words.specs.declared.refusals.LogCause.TheVariants.{Shape}
use Rattle.psi_log_words.specs.Regions.{read_change, queues_ascend, is_change, changed, read_given, given_move}
use Rattle.psi_log_words.proofs.TurnLemmas.{onto, onto_none, turn, turn_ends}
use Rattle.psi_log_words.proofs.PieceTurnsLemmas.{bind_refused}

-- the queue after the last change's
abbrev pub behind_last : List Change → ℕ
behind_last [] = 0
behind_last (c ∷ []) = c.queue + 1
behind_last (c ∷ d ∷ ds) = behind_last (d ∷ ds)

-- the box as these changes have it, where they are as they have to be
pub record IsMoved (from : Corners) (cs : List Change) (to : Corners) (next : ℕ) (ordered : Bool) : Type 0 where
  pub test : ordered ≡ (queues_ascend cs && list_all (is_change from) cs)
  pub least : ordered ≡ true → next ≡ behind_last cs
  pub value : ordered ≡ true → to ≡ changed from cs

pub moved_none : (from : Corners) → IsMoved from [] from 0 true
moved_none from = record { test = refl; least = λ is. refl; value = λ is. refl }

behind_push : (cs : List Change) (c : Change) → behind_last (cs ++ c ∷ []) ≡ c.queue + 1
behind_push [] c = refl
behind_push (d ∷ []) c = refl
behind_push (d ∷ e ∷ ds) c = behind_push (e ∷ ds) c

below_next : (a b : ℕ) → nat_lt a b ≡ nat_le (a + 1) b
below_next a b = (let e : suc a ≡ a + 1 = omega arith in ap (λ (k : ℕ). nat_le k b) e)

ascend_push : (cs : List Change) (c : Change) → queues_ascend (cs ++ c ∷ []) ≡ (queues_ascend cs && nat_le (behind_last cs) c.queue)
ascend_push [] c = sym (le-leb 0 c.queue (omega arith))
ascend_push (d ∷ []) c = and-true (nat_lt d.queue c.queue) ∙ below_next d.queue c.queue
ascend_push (d ∷ e ∷ ds) c =
    ap (λ (t : Bool). nat_lt d.queue e.queue && t) (ascend_push (e ∷ ds) c) ∙ sym (and_assoc (nat_lt d.queue e.queue) (queues_ascend (e ∷ ds)) (nat_le (behind_last (e ∷ ds)) c.queue))

changed_push : (from : Corners) (cs : List Change) (c : Change)
    → changed from (cs ++ c ∷ []) ≡ record { lo = slice_set (changed from cs).lo c.queue c.least; hi = slice_set (changed from cs).hi c.queue c.greatest }
changed_push from [] c = refl
changed_push from (d ∷ ds) c = changed_push (record { lo = slice_set from.lo d.queue d.least; hi = slice_set from.hi d.queue d.greatest }) ds c

test_push : (from : Corners) (cs : List Change) (c : Change)
    → (queues_ascend (cs ++ c ∷ []) && list_all (is_change from) (cs ++ c ∷ [])) ≡ ((queues_ascend cs && nat_le (behind_last cs) c.queue) && (list_all (is_change from) cs && is_change from c))
test_push from cs c = cc (ascend_push cs c, list_all-append (is_change from) cs (c ∷ []) ∙ ap (λ (t : Bool). list_all (is_change from) cs && t) (and-true (is_change from c)))

-- one change more, where it is as it has to be
pub moved_more : (from : Corners) (cs : List Change) (to : Corners) (next : ℕ) (c : Change) (after : Corners) (then : ℕ) → IsMoved from cs to next true
    → next ≤ c.queue → is_change from c ≡ true → after ≡ record { lo = slice_set to.lo c.queue c.least; hi = slice_set to.hi c.queue c.greatest } → then ≡ c.queue + 1
    → IsMoved from (cs ++ c ∷ []) after then true
moved_more from cs to next c after then is above change made least =
    let parts = and_parts (queues_ascend cs) (list_all (is_change from) cs) (sym is.test) in
    let next_is = is.least refl in
    let place : nat_le (behind_last cs) c.queue ≡ true = le-leb (behind_last cs) c.queue (omega arith) in
    let all : (queues_ascend (cs ++ c ∷ []) && list_all (is_change from) (cs ++ c ∷ [])) ≡ true =
    test_push from cs c ∙ and_from (queues_ascend cs && nat_le (behind_last cs) c.queue) (list_all (is_change from) cs && is_change from c)
    (and_from (queues_ascend cs) (nat_le (behind_last cs) c.queue) parts.0 place) (and_from (list_all (is_change from) cs) (is_change from c) parts.1 change) in
    record {
      test = sym all;
      least = λ on. least ∙ sym (behind_push cs c);
      value = λ on. made ∙ ap (λ (b : Corners). record { lo = slice_set b.lo c.queue c.least; hi = slice_set b.hi c.queue c.greatest }) (is.value refl) ∙ sym (changed_push from cs c);
    }

-- and where it isn't
pub moved_stop : (from : Corners) (cs : List Change) (to : Corners) (next : ℕ) (ordered : Bool) (c : Change) → IsMoved from cs to next ordered
    → (ordered ≡ true → (c.queue < next) ⊎ (is_change from c ≡ false)) → IsMoved from (cs ++ c ∷ []) to next false
moved_stop from cs to next ordered c is fails = record {
  test = sym (test_push from cs c ∙ go ordered is.test is.least fails);
  least = λ on. absurd cc;
  value = λ on. absurd cc;
}
  where
    stops : (a b x y : Bool) → ((a && b) ≡ false) ⊎ ((x ≡ false) ⊎ (y ≡ false)) → ((a && x) && (b && y)) ≡ false
    stops false b x y off = refl
    stops true b false y off = refl
    stops true false true y off = refl
    stops true true true false off = refl
    stops true true true true off = elim off [ inl e ↦ absurd cc | inr o ↦ elim o [ inl e ↦ absurd cc | inr e ↦ absurd cc ] ]

    go : (t : Bool) → t ≡ (queues_ascend cs && list_all (is_change from) cs) → (t ≡ true → next ≡ behind_last cs) → (t ≡ true → (c.queue < next) ⊎ (is_change from c ≡ false))
        → ((queues_ascend cs && nat_le (behind_last cs) c.queue) && (list_all (is_change from) cs && is_change from c)) ≡ false
    go false test least off = stops (queues_ascend cs) (list_all (is_change from) cs) (nat_le (behind_last cs) c.queue) (is_change from c) (inl (sym test))
    go true test least off =
        stops (queues_ascend cs) (list_all (is_change from) cs) (nat_le (behind_last cs) c.queue) (is_change from c)
        (inr (elim (off refl) [ inl less ↦ inl (lt-leb (behind_last cs) c.queue (let next_is = least refl in omega arith)) | inr other ↦ inr other ]))

-- what is read of all changes
pub move_read : (n queues : ℕ) (from : Corners) (words : List (List ℕ)) (cs : List Change) (to : Corners) (next : ℕ) → IsMoved from cs to next true
    → each (λ word. read_change n queues (pieces_of word)) words ≡ Ok cs → read_given n queues (given_move from words) ≡ Ok (in_box to)
unfolding read_given
move_read n queues from words cs to next is read = rw (read, ← is.test, is.value refl) refl

pub move_fails : (n queues : ℕ) (from : Corners) (words : List (List ℕ)) (cs : List Change) (to : Corners) (next : ℕ) → IsMoved from cs to next false
    → each (λ word. read_change n queues (pieces_of word)) words ≡ Ok cs → read_given n queues (given_move from words) ≡ Err (refused n Shape)
unfolding read_given
move_fails n queues from words cs to next is read = rw (read, ← is.test) refl

pub move_refused : (n queues : ℕ) (from : Corners) (words : List (List ℕ)) (error : LogError) → IsLogError error (each (λ word. read_change n queues (pieces_of word)) words)
    → IsLogError error (read_given n queues (given_move from words))
unfolding read_given
move_refused n queues from words error fails = bind_refused error (each (λ word. read_change n queues (pieces_of word)) words) _ fails

-- the changes of the words so far, and the box that they make
pub record AreRead (n queues : ℕ) (from : Corners) (words left : List (List ℕ)) (to : Corners) (next : ℕ) (ordered : Bool) : Type 0 where
  pub changes : List Change
  pub moved : IsMoved from changes to next ordered
  pub rest : onto changes (each (λ word. read_change n queues (pieces_of word)) left) ≡ each (λ word. read_change n queues (pieces_of word)) words

pub read_none : (n queues : ℕ) (from : Corners) (words : List (List ℕ)) → AreRead n queues from words words from 0 true
read_none n queues from words = record { changes = []; moved = moved_none from; rest = onto_none (each (λ word. read_change n queues (pieces_of word)) words) }

-- a word that is read
pub read_turn : {V : Type 0} (view : V → List ℕ) (n queues : ℕ) (front : List Change) (i : ℕ) (vs : List V) (d : V) (c : Change) (whole : Result (List Change) Refusal)
    → i < length vs → read_change n queues (pieces_of (view (get_or vs i d))) ≡ Ok c
    → onto front (each (λ word. read_change n queues (pieces_of word)) (map view (drop i vs))) ≡ whole
    → onto (front ++ c ∷ []) (each (λ word. read_change n queues (pieces_of word)) (map view (drop (i + 1) vs))) ≡ whole
read_turn view n queues front i vs d c whole small read same = sym (turn view (λ word. read_change n queues (pieces_of word)) front i vs d c small read) ∙ same

-- after the last word
pub read_ends : {V : Type 0} (view : V → List ℕ) (n queues : ℕ) (front : List Change) (i : ℕ) (vs : List V) → length vs ≤ i
    → onto front (each (λ word. read_change n queues (pieces_of word)) (map view (drop i vs))) ≡ each (λ word. read_change n queues (pieces_of word)) (map view vs)
    → each (λ word. read_change n queues (pieces_of word)) (map view vs) ≡ Ok front
read_ends view n queues front i vs past same = sym same ∙ turn_ends view (λ word. read_change n queues (pieces_of word)) front i vs past
