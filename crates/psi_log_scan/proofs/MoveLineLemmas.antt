-- The line of a step with a box that is written by what changed, read in one pass.
use Rattle.std.specs.Prelude.{◌≡◌, ℕ, ◌+◌, ◌<◌, ◌≤◌, ◌^◌, List, [], ◌∷◌, ◌++◌, length, map, take, drop, codes, true, nat_lt, slice_set, Some, Ok, refl}
use Rattle.std.specs.List.{list_all}
use Rattle.std.specs.Fmt.{decimal}
use Rattle.std.proofs.Common.{ap, sym, ◌∙◌, subst, arith, append_assoc, inl, inr}
use Rattle.std.proofs.lemmas.Bool.{and_parts, and_from, ltb-true}
use Rattle.std.proofs.lemmas.List.{take-append-drop, append-nil, map-append}
use Rattle.psi_state.specs.State.{Corners}
use Rattle.psi_state.specs.Members.{In}
use Rattle.psi_state.specs.declared.outcome.Step.{Step}
use Rattle.psi_log_format.specs.declared.header.Header.{Header}
use Rattle.psi_log_format.specs.Log.{in_box, greatest_horizon}
use Rattle.psi_log_format.specs.Text.{numbers_text, Change, change_text, step_text}
use Rattle.psi_log_format.specs.Room.{spaced_words}
use Rattle.psi_log_format.proofs.JoinedLemmas.{then, then_words, one_word, three_pieces}
use Rattle.psi_log_format.proofs.LinePiecesLemmas.{step_pieces}
use Rattle.psi_log_words.proofs.WordLemmas.{lacks}
use Rattle.psi_log_words.specs.Regions.{queues_ascend, is_change, changed}
use Rattle.psi_log_words.proofs.RegionLemmas.{IsChange, changes_lack}
use Rattle.psi_log_words.proofs.GivenLemmas.{moves_read}
use Rattle.psi_log_words.proofs.MovedLemmas.{behind_last, IsMoved, moved_none, moved_more}
use Rattle.psi_log_scan.specs.Scanned.{Stands, with_comma, AreChanged, next_step}
use Rattle.psi_log_scan.proofs.ScanLemmas.{in_push}
use Rattle.psi_log_scan.proofs.LineLemmas.{next_read}

-- a change stands in the text by its three numbers
pub change_stands : (text : List ℕ) (at comma next end q l g : ℕ) → Stands text at comma (with_comma q) → Stands text comma next (with_comma l) → Stands text next end (decimal g)
    → Stands text at end (change_text (record { queue = q; least = l; greatest = g }))
unfolding numbers_text
change_stands text at comma next end q l g first second third =
    then (with_comma q) (with_comma l ++ decimal g) _ first (then (with_comma l) (decimal g) (with_comma l ++ decimal g) second third refl)
    (append_assoc (decimal q) (44 ∷ []) (with_comma l ++ decimal g) ∙ ap (λ (t : List ℕ). decimal q ++ (44 ∷ t)) (append_assoc (decimal l) (44 ∷ []) (decimal g)))

-- queues that ascend are no more than the last one and those before it
count_below : (c : Change) (cs : List Change) → queues_ascend (c ∷ cs) ≡ true → length (c ∷ cs) + c.queue ≤ behind_last (c ∷ cs)
count_below c [] order = omega arith
count_below c (d ∷ ds) order =
    let parts = and_parts (nat_lt c.queue d.queue) (queues_ascend (d ∷ ds)) order in
    let less : c.queue < d.queue = ltb-true c.queue d.queue parts.0 in
    let rest = count_below d ds parts.1 in
    omega arith

changes_few : (cs : List Change) → queues_ascend cs ≡ true → length cs ≤ behind_last cs
changes_few [] order = omega arith
changes_few (c ∷ cs) order = (let all = count_below c cs order in omega arith)

-- the changes so far, and the box that they make
pub record AreMoved (queues : ℕ) (from : Corners) (text : List ℕ) (at end next : ℕ) (to : Corners) : Type 0 where
  pub changes : List Change
  pub moved : IsMoved from changes to next true
  pub small : next ≤ queues
  pub each : (c : Change) → In c changes → IsChange queues c
  pub words : Stands text at end (spaced_words (map change_text changes))

pub moved_so_none : (queues : ℕ) (from : Corners) (text : List ℕ) (at : ℕ) → AreMoved queues from text at at 0 from
unfolding spaced_words
moved_so_none queues from text at = record {
  changes = [];
  moved = moved_none from;
  small = omega arith;
  each = λ c there. absurd there;
  words = record { front = sym (append-nil (take at text)); place = omega arith; len = refl };
}

pub moved_so_more : (queues : ℕ) (from : Corners) (text : List ℕ) (at place end next then_next : ℕ) (to after : Corners) (c : Change) → AreMoved queues from text at place next to
    → Stands text place (place + 1) (32 ∷ []) → Stands text (place + 1) end (change_text c) → c.queue < queues → c.least < 2 ^ 16 → c.greatest < 2 ^ 16 → next ≤ c.queue
    → is_change from c ≡ true → after ≡ record { lo = slice_set to.lo c.queue c.least; hi = slice_set to.hi c.queue c.greatest } → then_next ≡ c.queue + 1
    → AreMoved queues from text at end then_next after
moved_so_more queues from text at place end next then_next to after c are space word small low high order change made is =
    let one : Stands text place end (spaced_words (change_text c ∷ [])) =
    subst (λ (w : List ℕ). Stands text place end w) (sym (one_word (change_text c))) (then (32 ∷ []) (change_text c) (32 ∷ change_text c) space word refl) in
    record {
      changes = are.changes ++ c ∷ [];
      moved = moved_more from are.changes to next c after then_next are.moved order change made is;
      small = omega arith;
      each = λ d there. elim (in_push are.changes c d there) [
        | inl t ↦ are.each d t
        | inr e ↦ subst (λ (k : Change). IsChange queues k) (sym e) (record { queue = small; least = low; greatest = high })
      ];
      words = then_words (map change_text are.changes) (change_text c ∷ []) (map change_text (are.changes ++ c ∷ [])) are.words one (map-append change_text are.changes (c ∷ []));
    }

pub moved_so_all : (queues : ℕ) (from : Corners) (text : List ℕ) (at end next : ℕ) (to : Corners) → AreMoved queues from text at end next to → AreChanged queues from text at end to
moved_so_all queues from text at end next to are =
    let parts = and_parts (queues_ascend are.changes) (list_all (is_change from) are.changes) (sym are.moved.test) in
    let few = changes_few are.changes parts.0 in
    let last : next ≡ behind_last are.changes = are.moved.least refl in
    let small = are.small in
    record {
      changes = are.changes;
      few = omega arith;
      each = λ c there. (let is = are.each c there in (is.queue, is.least, is.greatest));
      ascend = parts.0;
      differ = parts.1;
      made = are.moved.value refl;
      words = are.words;
    }

-- a line that stands at the beginning of a text is read as its step
pub move_line : (h : Header) (n : ℕ) (from to : Corners) (text : List ℕ) (at end : ℕ) (s : Step) → h.queues ≤ 32
    → 1 ≤ s.number → s.number ≤ greatest_horizon h.version → s.event ≤ 1024 → Stands text 0 at (codes "step" ++ spaced_words (decimal s.number ∷ decimal s.event ∷ []))
    → Stands text at (at + 5) (codes " move") → AreChanged h.queues from text (at + 5) end to → Stands text end (end + 1) (10 ∷ [])
    → next_step h n (Some from) text ≡ Ok (record { step = s; region = in_box to }, drop (end + 1) text)
move_line h n from to text at end s small least high kind head name are feed =
    let few = are.few in
    let all : (c : Change) → In c are.changes → IsChange h.queues c = λ c there. (let is = are.each c there in record { queue = is.0; least = is.1; greatest = is.2 }) in
    let words : Stands text at end (spaced_words (codes "move" ∷ map change_text are.changes)) =
    then_words (codes "move" ∷ []) (map change_text are.changes) (codes "move" ∷ map change_text are.changes)
    (subst (λ (w : List ℕ). Stands text at (at + 5) w) (sym (one_word (codes "move"))) name) are.words refl in
    let line : Stands text 0 (end + 1) (step_text s (codes "move" ∷ map change_text are.changes)) =
    three_pieces _ _ _ _ head words feed (step_pieces s (codes "move" ∷ map change_text are.changes)) in
    let text_is : text ≡ step_text s (codes "move" ∷ map change_text are.changes) ++ drop (end + 1) text =
    sym (take-append-drop (end + 1) text) ∙ ap (λ (t : List ℕ). t ++ drop (end + 1) text) line.front in
    let read = moves_read n h.queues from are.changes (omega arith) small all are.ascend are.differ in
    let lack : (c : ℕ) → c < 44 → lacks c (codes "move") ≡ true → list_all (lacks c) (codes "move" ∷ map change_text are.changes) ≡ true =
    λ c below name. and_from (lacks c (codes "move")) (list_all (lacks c) (map change_text are.changes)) name (changes_lack c h.queues are.changes below small all) in
    ap (next_step h n (Some from)) text_is
    ∙ next_read h n (Some from) s (in_box (changed from are.changes)) _ (codes "move" ∷ map change_text are.changes) (drop (end + 1) text) read.0 read.1 least high kind
    (lack 10 (omega arith) refl) (lack 32 (omega arith) refl)
    ∙ ap (λ (b : Corners). Ok (record { step = s; region = in_box b }, drop (end + 1) text)) (sym are.made)
