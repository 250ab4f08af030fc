-- The line of a step with a set, read in one pass.
use Rattle.std.specs.Prelude.{◌≡◌, ℕ, ◌+◌, ◌-◌, ◌<◌, ◌≤◌, List, [], ◌∷◌, ◌++◌, length, map, take, drop, codes, true, Option, Some, None, Ok, refl}
use Rattle.std.specs.Fmt.{decimal}
use Rattle.std.proofs.Common.{ap, sym, ◌∙◌, subst, arith}
use Rattle.std.proofs.lemmas.List.{take-append-drop, take_all, append-nil, length-drop, length-take-le, drop-take}
use Rattle.std.proofs.Math.Seq.{drop-append_seam}
use Rattle.psi_state.specs.State.{Corners}
use Rattle.psi_state.specs.declared.outcome.Step.{Step}
use Rattle.psi_log_format.specs.declared.header.Header.{Header}
use Rattle.psi_log_format.specs.Log.{in_set, greatest_horizon, IsSet}
use Rattle.psi_log_format.specs.Text.{numbers_text, region_words, step_text}
use Rattle.psi_log_format.specs.Room.{spaced_words}
use Rattle.psi_log_format.proofs.JoinedLemmas.{then, then_words, one_word}
use Rattle.psi_log_format.proofs.LinePiecesLemmas.{step_pieces}
use Rattle.psi_log_words.specs.Regions.{form_of, ascends}
use Rattle.psi_log_words.proofs.StateLemmas.{rising_found}
use Rattle.psi_log_words.proofs.RegionLemmas.{words_after}
use Rattle.psi_log_words.proofs.GivenLemmas.{set_again, region_lacks}
use Rattle.psi_log_scan.specs.Scanned.{Stands, AreScanned, TellsSet, next_step}
use Rattle.psi_log_scan.proofs.LineLemmas.{next_read}

-- the beginning of a step's line
pub step_stands : (text : List ℕ) (a b end number event : ℕ) → Stands text 0 5 (codes "step ") → Stands text 5 a (decimal number) → Stands text a b (32 ∷ []) → Stands text b end (decimal event)
    → Stands text 0 end (codes "step" ++ spaced_words (decimal number ∷ decimal event ∷ []))
unfolding spaced_words
step_stands text a b end number event first second space third =
    then (codes "step ") (decimal number ++ (32 ∷ decimal event)) _ first
    (then (decimal number) (32 ∷ decimal event) (decimal number ++ (32 ∷ decimal event)) second (then (32 ∷ []) (decimal event) (32 ∷ decimal event) space third refl) refl)
    (ap (λ (t : List ℕ). codes "step " ++ (decimal number ++ (32 ∷ t))) (sym (append-nil (decimal event))))

whole_words : (before : Option Corners) (xs : List (List ℕ)) → words_after before (in_set xs) ≡ region_words (in_set xs)
whole_words None xs = refl
whole_words (Some from) xs = refl

-- a line that stands at the beginning of a text is read as its step
pub set_line : (h : Header) (n : ℕ) (before : Option Corners) (text line : List ℕ) (at end : ℕ) (s : Step) (xs : List (List ℕ)) → 1 ≤ h.queues
    → 1 ≤ s.number → s.number ≤ greatest_horizon h.version → s.event ≤ 1024 → Stands text 0 at (codes "step" ++ spaced_words (decimal s.number ∷ decimal s.event ∷ []))
    → TellsSet h.queues line xs → Stands text at end line → next_step h n before text ≡ Ok (record { step = s; region = in_set xs }, drop end text)
set_line h n before text line at end s xs some least high kind head tells there =
    let words = region_words (in_set xs) in
    let front = codes "step" ++ spaced_words (decimal s.number ∷ decimal s.event ∷ []) in
    let all : front ++ line ≡ step_text s words = ap (λ (t : List ℕ). front ++ t) tells.words ∙ sym (step_pieces s words) in
    let whole : Stands text 0 end (step_text s words) = then front line (step_text s words) head there all in
    let text_is : text ≡ step_text s words ++ drop end text =
    sym (take-append-drop end text) ∙ ap (λ (t : List ℕ). t ++ drop end text) whole.front in
    let read = set_again n h.queues before xs some tells.set in
    ap (next_step h n before) text_is
    ∙ next_read h n before s (in_set xs) read.given words (drop end text) (ap (form_of n h.queues before) (sym (whole_words before xs)) ∙ read.form) read.region least high kind
    (region_lacks 10 h.queues (in_set xs) (omega arith) tells.set refl refl) (region_lacks 32 h.queues (in_set xs) (omega arith) tells.set refl refl)

-- what stands in a text is a part of it
pub part_is : (text word : List ℕ) (at end : ℕ) → at ≤ length text → Stands text at end word → take (end - at) (drop at text) ≡ word
part_is text word at end small there =
    let place = there.place in
    let size : end ≡ at + (end - at) = omega arith in
    let front : take (at + (end - at)) text ≡ take at text ++ word = ap (λ (k : ℕ). take k text) (sym size) ∙ there.front in
    let long : length (take at text) ≡ at = length-take-le at text small in
    sym (drop-take at (end - at) text) ∙ ap (drop at) front ∙ ap (λ (k : ℕ). drop k (take at text ++ word)) (sym long) ∙ drop-append_seam (take at text) word

-- the states that were read tell their line's end
pub new_set : (queues : ℕ) (text : List ℕ) (at end first count : ℕ) (old new : List (List ℕ)) → Stands text at (at + 4) (codes " set") → AreScanned queues text (at + 4) end old new
    → Stands text end (end + 1) (10 ∷ []) → first ≡ length old → length new ≡ first + count → 1 ≤ count → count ≤ 4096 → ascends (drop first new) ≡ true → end < length text
    → TellsSet queues (take (end + 1 - at) (drop at text)) (take count (drop first new)) × (length (take (end + 1 - at) (drop at text)) ≡ end + 1 - at)
    × Stands text at (end + 1) (take (end + 1 - at) (drop at text))
new_set queues text at end first count old new name are feed is long one few order room =
    let told = drop (length old) new in
    let xs : take count (drop first new) ≡ told =
    take_all count (drop first new) (omega (arith, length-drop first new)) ∙ ap (λ (k : ℕ). drop k new) is in
    let size : length told ≡ count = omega (arith, length-drop (length old) new) in
    let set : IsSet queues told =
    record { some = omega arith; few = omega arith; each = are.each; rising = rising_found told (ap (λ (k : ℕ). ascends (drop k new)) (sym is) ∙ order) } in
    let words : Stands text at end (spaced_words (region_words (in_set told))) =
    then_words (codes "set" ∷ []) (map numbers_text told) (region_words (in_set told))
    (subst (λ (w : List ℕ). Stands text at (at + 4) w) (sym (one_word (codes "set"))) name) are.words refl in
    let line : Stands text at (end + 1) (spaced_words (region_words (in_set told)) ++ (10 ∷ [])) = then _ _ _ words feed refl in
    let first_place = are.words.place in
    let part = part_is text _ at (end + 1) (omega arith) line in (
      record {
        set = subst (λ (ys : List (List ℕ)). IsSet queues ys) (sym xs) set;
        words = part ∙ ap (λ (ys : List (List ℕ)). spaced_words (region_words (in_set ys)) ++ (10 ∷ [])) (sym xs);
      },
      (let count_is = line.place in ap length part ∙ omega arith),
      subst (λ (w : List ℕ). Stands text at (end + 1) w) (sym part) line,
    )
