-- Regions, read after their form: each is told by its words, and its words are read as it.
use Rattle.std.specs.Prelude.{◌≡◌, ℕ, ◌<◌, ◌≤◌, List, [], ◌∷◌, length, map, codes, true, ◌&&◌, nat_le, Option, Some, None, Ok, refl}
use Rattle.std.specs.List.{list_all}
use Rattle.std.specs.Cmp.Lexicographic.{pointwise}
use Rattle.std.proofs.Common.{ap, sym, ◌∙◌, subst, arith}
use Rattle.std.proofs.lemmas.Bool.{and_parts, and_from, le-leb}
use Rattle.std.proofs.lemmas.List.{length-map}
use Rattle.psi_state.specs.State.{Corners}
use Rattle.psi_state.specs.Members.{In}
use Rattle.psi_log_format.specs.Log.{LogRegion, in_box, in_set, IsBox, IsSet, IsRegion}
use Rattle.psi_log_format.specs.Text.{numbers_text, region_words, Change, changes, change_text, move_words}
use Rattle.psi_log_words.specs.Refusal.{refused, ◌>>=◌, holds_or, each}
use Rattle.psi_log_words.specs.Words.{pieces_of, has_pieces}
use Rattle.psi_log_words.specs.declared.refusals.LogCause.TheVariants.{Shape}
use Rattle.psi_log_words.proofs.WordLemmas.{bind_ok, ok_same, held, lacks}
use Rattle.psi_log_words.proofs.NumberLemmas.{each_found, each_again}
use Rattle.psi_log_words.specs.Regions.{Given, given_box, given_set, given_move, box_form, set_form, move_form, form_of, read_state, read_change, ascends, queues_ascend, is_change, changed, read_given}
use Rattle.psi_log_words.proofs.StateLemmas.{state_found, state_again, state_shaped, state_lacks, states_found, states_again, states_shaped, states_lack, below_found, below_again, rising_found, rising_again}
use Rattle.psi_log_words.proofs.MoveLemmas.{changes_found, changes_again, changes_ascend, changes_are, changes_count}
use Rattle.psi_log_words.proofs.ChangedLemmas.{changed_box, changes_ordered}
use Rattle.psi_log_words.proofs.RegionLemmas.{IsChange, change_found, change_again, changes_shaped, changes_lack, moved_are, words_after, IsBefore, form_found}

-- a box that is read is its words
box_given : (n queues : ℕ) (lo hi : List ℕ) (r : LogRegion) → has_pieces queues lo ≡ true → has_pieces queues hi ≡ true → read_given n queues (given_box lo hi) ≡ Ok r
    → (codes "box" ∷ lo ∷ hi ∷ [] ≡ region_words r) × IsRegion queues r
unfolding read_given
box_given n queues lo hi r low high h =
    let first = bind_ok (read_state n lo) (λ (l : List ℕ). read_state n hi >>= (λ (k : List ℕ). holds_or (refused n Shape) (pointwise nat_le l k) >>= (λ (u : Unit {0}). Ok (boxed l k)))) r h in
    let second = bind_ok (read_state n hi) (λ (k : List ℕ). holds_or (refused n Shape) (pointwise nat_le first.0 k) >>= (λ (u : Unit {0}). Ok (boxed first.0 k))) r first.2 in
    let rule = bind_ok (holds_or (refused n Shape) (pointwise nat_le first.0 second.0)) (λ (u : Unit {0}). Ok (boxed first.0 second.0)) r second.2 in
    let a = state_found n queues lo first.0 low first.1 in
    let b = state_found n queues hi second.0 high second.1 in
    let below = below_found first.0 second.0 (held (refused n Shape) (pointwise nat_le first.0 second.0) rule.0 rule.1) in
    subst (λ (s : LogRegion). (codes "box" ∷ lo ∷ hi ∷ [] ≡ region_words s) × IsRegion queues s) (ok_same (boxed first.0 second.0) r rule.2)
    (cc (a.0, b.0), record { lo = a.1; hi = b.1; below = below })
  where
    boxed : List ℕ → List ℕ → LogRegion
    boxed l k = in_box (record { lo = l; hi = k })

-- and so is a set
set_given : (n queues : ℕ) (words : List (List ℕ)) (r : LogRegion) → 1 ≤ length words → length words ≤ 4096 → list_all (has_pieces queues) words ≡ true
    → read_given n queues (given_set words) ≡ Ok r → (xs : List (List ℕ)) × (r ≡ in_set xs) × (codes "set" ∷ words ≡ region_words (in_set xs)) × IsSet queues xs
unfolding read_given
set_given n queues words r some few shaped h =
    let first = bind_ok (each (read_state n) words) (λ (xs : List (List ℕ)). holds_or (refused n Shape) (ascends xs) >>= (λ (u : Unit {0}). Ok (in_set xs))) r h in
    let rule = bind_ok (holds_or (refused n Shape) (ascends first.0)) (λ (u : Unit {0}). Ok (in_set first.0)) r first.2 in
    let found = states_found n queues words first.0 shaped first.1 in
    let count : length words ≡ length first.0 = ap length found.0 ∙ length-map first.0 numbers_text in (
      first.0,
      sym (ok_same (in_set first.0) r rule.2),
      ap (λ (ws : List (List ℕ)). codes "set" ∷ ws) found.0,
      record { some = omega arith; few = omega arith; each = found.1; rising = rising_found first.0 (held (refused n Shape) (ascends first.0) rule.0 rule.1) },
    )

-- and a box by what changed
move_given : (n queues : ℕ) (from : Corners) (words : List (List ℕ)) (r : LogRegion) → 1 ≤ queues → queues ≤ 32 → IsBox queues from
    → read_given n queues (given_move from words) ≡ Ok r → (to : Corners) × (r ≡ in_box to) × (codes "move" ∷ words ≡ move_words from to) × IsBox queues to
unfolding read_given
move_given n queues from words r some few before h =
    let first = bind_ok (each (λ word. read_change n queues (pieces_of word)) words)
    (λ (cs : List Change). holds_or (refused n Shape) (queues_ascend cs && list_all (is_change from) cs) >>= (λ (u : Unit {0}). Ok (in_box (changed from cs)))) r h in
    let cs = first.0 in
    let rule = bind_ok (holds_or (refused n Shape) (queues_ascend first.0 && list_all (is_change from) first.0)) (λ (u : Unit {0}). Ok (in_box (changed from first.0))) r first.2 in
    let parts = and_parts (queues_ascend first.0) (list_all (is_change from) first.0) (held (refused n Shape) (queues_ascend first.0 && list_all (is_change from) first.0) rule.0 rule.1) in
    let found = each_found (λ word. read_change n queues (pieces_of word)) change_text (IsChange queues) words first.0
    (λ a c there read. change_found n queues a c some few read) first.1 in
    let lo = before.lo.count in
    let hi = before.hi.count in
    let same : changes from (changed from first.0) ≡ first.0 =
    changes_found from first.0 (omega arith) parts.0 parts.1 (λ c there. (let small = (found.1 c there).queue in omega arith)) in (
      changed from first.0,
      sym (ok_same (in_box (changed from first.0)) r rule.2),
      ap (λ (ws : List (List ℕ)). codes "move" ∷ ws) (found.0 ∙ ap (map change_text) (sym same)),
      changed_box queues from first.0 before (changes_ordered from first.0 parts.1) found.1,
    )

-- a region that is read is told by its words
pub region_found : (n queues : ℕ) (before : Option Corners) (words : List (List ℕ)) (g : Given) (r : LogRegion) → 1 ≤ queues → queues ≤ 32 → IsBefore queues before
    → form_of n queues before words ≡ Ok g → read_given n queues g ≡ Ok r → (words ≡ words_after before r) × IsRegion queues r
region_found n queues before words (given_box lo hi) r some few is form h =
    let found = form_found n queues before words (given_box lo hi) form in
    let given = box_given n queues lo hi r found.1.1 found.1.2 h in
    (found.0 ∙ given.0 ∙ ap (λ (o : Option Corners). words_after o r) (sym found.1.0), given.1)
region_found n queues before words (given_set states) r some few is form h =
    let found = form_found n queues before words (given_set states) form in
    let given = set_given n queues states r found.1.0 found.1.1 found.1.2 h in
    subst (λ (s : LogRegion). (words ≡ words_after before s) × IsRegion queues s) (sym given.1) (found.0 ∙ given.2 ∙ whole before given.0, given.3)
  where
    whole : (o : Option Corners) (xs : List (List ℕ)) → region_words (in_set xs) ≡ words_after o (in_set xs)
    whole None xs = refl
    whole (Some from) xs = refl
region_found n queues before words (given_move from pieces) r some few is form h =
    let found = form_found n queues before words (given_move from pieces) form in
    let given = move_given n queues from pieces r some few (subst (λ (o : Option Corners). IsBefore queues o) found.1.0 is) h in
    subst (λ (s : LogRegion). (words ≡ words_after before s) × IsRegion queues s) (sym given.1)
    (found.0 ∙ given.2 ∙ ap (λ (o : Option Corners). words_after o (in_box given.0)) (sym found.1.0), given.3)

-- what is read of a region's words
pub record IsRead (n queues : ℕ) (before : Option Corners) (r : LogRegion) : Type 0 where
  pub given : Given
  pub form : form_of n queues before (words_after before r) ≡ Ok given
  pub region : read_given n queues given ≡ Ok r

box_again : (n queues : ℕ) (b : Corners) → 1 ≤ queues → IsBox queues b → IsRead n queues None (in_box b)
unfolding form_of box_form read_given
box_again n queues b some is = record {
  given = given_box (numbers_text b.lo) (numbers_text b.hi);
  form = rw (state_shaped queues b.lo some is.lo, state_shaped queues b.hi some is.hi) refl;
  region = rw (state_again n queues b.lo some is.lo, state_again n queues b.hi some is.hi, below_again b.lo b.hi is.below) refl;
}

set_shape : (queues : ℕ) (xs : List (List ℕ)) → 1 ≤ queues → IsSet queues xs
    → (nat_le 1 (length (map numbers_text xs)) && nat_le (length (map numbers_text xs)) 4096 && list_all (has_pieces queues) (map numbers_text xs)) ≡ true
set_shape queues xs some is =
    let count : length (map numbers_text xs) ≡ length xs = length-map xs numbers_text in
    let low = is.some in
    let high = is.few in
    and_from (nat_le 1 (length (map numbers_text xs)) && nat_le (length (map numbers_text xs)) 4096) (list_all (has_pieces queues) (map numbers_text xs))
    (and_from (nat_le 1 (length (map numbers_text xs))) (nat_le (length (map numbers_text xs)) 4096) (le-leb _ _ (omega arith)) (le-leb _ _ (omega arith)))
    (states_shaped queues xs some is.each)

pub set_again : (n queues : ℕ) (before : Option Corners) (xs : List (List ℕ)) → 1 ≤ queues → IsSet queues xs → IsRead n queues before (in_set xs)
unfolding form_of set_form read_given
set_again n queues None xs some is = record {
  given = given_set (map numbers_text xs);
  form = rw (set_shape queues xs some is) refl;
  region = rw (states_again n queues xs some is.each, rising_again xs is.rising) refl;
}
set_again n queues (Some from) xs some is = record {
  given = given_set (map numbers_text xs);
  form = rw (set_shape queues xs some is) refl;
  region = rw (states_again n queues xs some is.each, rising_again xs is.rising) refl;
}

-- changes in order are read as the box that they make
pub moves_read : (n queues : ℕ) (from : Corners) (cs : List Change) → length cs ≤ 32 → queues ≤ 32 → ((c : Change) → In c cs → IsChange queues c) → queues_ascend cs ≡ true
    → list_all (is_change from) cs ≡ true → (form_of n queues (Some from) (codes "move" ∷ map change_text cs) ≡ Ok (given_move from (map change_text cs)))
    × (read_given n queues (given_move from (map change_text cs)) ≡ Ok (in_box (changed from cs)))
unfolding form_of move_form read_given
moves_read n queues from cs few small all ascend differ =
    let count : nat_le (length (map change_text cs)) 32 ≡ true = le-leb (length (map change_text cs)) 32 (omega (arith, length-map cs change_text)) in
    let shaped = changes_shaped queues cs small all in
    let read : each (λ word. read_change n queues (pieces_of word)) (map change_text cs) ≡ Ok cs =
    each_again (λ word. read_change n queues (pieces_of word)) change_text (IsChange queues) (λ c is. change_again n queues c small is) cs all in
    let order : (queues_ascend cs && list_all (is_change from) cs) ≡ true = and_from (queues_ascend cs) (list_all (is_change from) cs) ascend differ in
    (rw (count, shaped) refl, rw (read, order) refl)

move_again : (n queues : ℕ) (from to : Corners) → queues ≤ 32 → IsBox queues from → IsBox queues to → IsRead n queues (Some from) (in_box to)
move_again n queues from to few before after =
    let from_lo = before.lo.count in
    let from_hi = before.hi.count in
    let to_lo = after.lo.count in
    let to_hi = after.hi.count in
    let most = changes_count from to in
    let read = moves_read n queues from (changes from to) (omega arith) few (moved_are queues from to before after) (changes_ascend from to)
    (changes_are from to (λ q less. after.below.each q (omega arith))) in
    record {
      given = given_move from (map change_text (changes from to));
      form = read.0;
      region = read.1 ∙ ap (λ (b : Corners). Ok (in_box b)) (changes_again from to (omega arith) (omega arith) (omega arith));
    }

-- the words of a region are read as it
pub region_again : (n queues : ℕ) (before : Option Corners) (r : LogRegion) → 1 ≤ queues → queues ≤ 32 → IsBefore queues before → IsRegion queues r → IsRead n queues before r
region_again n queues None (in_box b) some few is region = box_again n queues b some region
region_again n queues None (in_set xs) some few is region = set_again n queues None xs some region
region_again n queues (Some from) (in_box to) some few is region = move_again n queues from to few is region
region_again n queues (Some from) (in_set xs) some few is region = set_again n queues (Some from) xs some region

-- and have no space or line feed
pub region_lacks : (c queues : ℕ) (r : LogRegion) → c < 44 → IsRegion queues r → lacks c (codes "box") ≡ true → lacks c (codes "set") ≡ true → list_all (lacks c) (region_words r) ≡ true
region_lacks c queues (in_box b) small is box set =
    and_from (lacks c (codes "box")) (list_all (lacks c) (numbers_text b.lo ∷ numbers_text b.hi ∷ [])) box
    (and_from (lacks c (numbers_text b.lo)) (list_all (lacks c) (numbers_text b.hi ∷ [])) (state_lacks c queues b.lo small is.lo)
    (and_from (lacks c (numbers_text b.hi)) true (state_lacks c queues b.hi small is.hi) refl))
region_lacks c queues (in_set xs) small is box set =
    and_from (lacks c (codes "set")) (list_all (lacks c) (map numbers_text xs)) set (states_lack c queues xs small is.each)

pub words_lack : (c queues : ℕ) (before : Option Corners) (r : LogRegion) → c < 44 → queues ≤ 32 → IsBefore queues before → IsRegion queues r
    → lacks c (codes "box") ≡ true → lacks c (codes "set") ≡ true → lacks c (codes "move") ≡ true → list_all (lacks c) (words_after before r) ≡ true
words_lack c queues None r small few is region box set move = region_lacks c queues r small region box set
words_lack c queues (Some from) (in_box to) small few is region box set move =
    and_from (lacks c (codes "move")) (list_all (lacks c) (map change_text (changes from to))) move
    (changes_lack c queues (changes from to) small few (moved_are queues from to is region))
words_lack c queues (Some from) (in_set xs) small few is region box set move = region_lacks c queues (in_set xs) small region box set
