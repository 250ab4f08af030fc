-- The text of the log of a run, one step at a time.
use Rattle.std.proofs.Common.{◌≡◌, ℕ, zero, suc, ◌+◌, ◌-◌, ◌<◌, ◌≤◌, List, [], ◌∷◌, ◌++◌, length, Bool, map, if◌then◌else◌, refl, sym, ◌∙◌, ap, subst, append_assoc, append-nil, arith}
use Rattle.std.proofs.lemmas.Bool.{lt-ltb, le-ltb}
use Rattle.psi_state.specs.State.{numbers_from}
use Rattle.psi_rate.specs.Composition.{SystemParts, system_functions}
use Rattle.psi_region.specs.Region.{start}
use Rattle.psi_horizon.specs.Planned.{Planned}
use Rattle.psi_horizon.specs.Runs.{region_after}
use Rattle.psi_log_format.specs.declared.header.Header.{Header}
use Rattle.psi_log_format.specs.Text.{header_text, begin_text, end_text, entries_text, log_text}
use Rattle.psi_replay.specs.Verdict.{event_numbers}
use Rattle.psi_log_writer.specs.Recorded.{region_of, entry_after, recorded, log_of}
use Rattle.psi_log_writer.specs.Walking.{step_line, front_text, most_held, line_at, text_before, line_in, text_in}

module _ (split : ℕ) (f : ℕ → List ℕ → List ℕ) (caps : List ℕ) (events : ℕ → ℕ) where
  -- the lines of n steps from one on, and then of the next
  pub entries-more : (horizon k n t : ℕ) → t ≡ k + n
      → entries_text 2 (region_of (region_after split f caps horizon k)) (map (entry_after split f caps events horizon) (numbers_from k (suc n)))
      ≡ entries_text 2 (region_of (region_after split f caps horizon k)) (map (entry_after split f caps events horizon) (numbers_from k n)) ++ step_line split f caps events horizon t
  unfolding step_line
  entries-more horizon k zero t is = (let e : k ≡ t = omega arith in
      ap (λ (xs : List ℕ). xs) (append-nil (step_line split f caps events horizon k)) ∙ ap (λ n. step_line split f caps events horizon n) e)
  entries-more horizon k (suc n) t is =
      let line = step_line split f caps events horizon k in
      let rest = entries_text 2 (region_of (region_after split f caps horizon (suc k))) (map (entry_after split f caps events horizon) (numbers_from (suc k) n)) in
      ap (λ (xs : List ℕ). line ++ xs) (entries-more horizon (suc k) n t (omega arith)) ∙ sym (append_assoc line rest (step_line split f caps events horizon t))

  -- before the first step
  pub front_text-zero : (h : Header) → front_text split f caps events h 0 ≡ header_text h ++ begin_text (region_of (start caps))
  unfolding front_text
  front_text-zero h = append-nil (header_text h ++ begin_text (region_of (start caps)))

  -- with one step more
  pub front_text-more : (h : Header) (done : ℕ) → h.version ≡ 2
      → front_text split f caps events h (suc done) ≡ front_text split f caps events h done ++ step_line split f caps events h.horizon done
  unfolding front_text
  front_text-more h done version =
      let head = header_text h ++ begin_text (region_of (start caps)) in
      let lines = λ (v n : ℕ). entries_text v (region_of (start caps)) (map (entry_after split f caps events h.horizon) (numbers_from 0 n)) in
      let line = step_line split f caps events h.horizon done in
      ap (λ v. head ++ lines v (suc done)) version
      ∙ (ap (λ (xs : List ℕ). head ++ xs) (entries-more h.horizon 0 done done (omega arith))
      ∙ (sym (append_assoc head (lines 2 done) line) ∙ ap (λ v. (head ++ lines v done) ++ line) (sym version)))

  -- with all of them
  pub log_text-recorded : (h : Header) (state : List ℕ) → log_text (recorded split f caps events h state) ≡ front_text split f caps events h h.horizon ++ end_text state
  unfolding log_text recorded front_text
  log_text-recorded h state = refl

  -- what stands at the place of a step, and at that of the end
  pub line_at-step : (h : Header) (state : List ℕ) (done : ℕ) → done < h.horizon → line_at split f caps events h state (suc (suc done)) ≡ step_line split f caps events h.horizon done
  unfolding line_at
  line_at-step h state done small =
      ap (λ (b : Bool). if b then step_line split f caps events h.horizon done else end_text state) (lt-ltb done h.horizon small)

  pub line_at-end : (h : Header) (state : List ℕ) (done : ℕ) → h.horizon ≤ done → line_at split f caps events h state (suc (suc done)) ≡ end_text state
  unfolding line_at
  line_at-end h state done past =
      ap (λ (b : Bool). if b then step_line split f caps events h.horizon done else end_text state) (le-ltb done h.horizon past)

  pub line_at-header : (h : Header) (state : List ℕ) → line_at split f caps events h state 0 ≡ header_text h
  unfolding line_at
  line_at-header h state = refl

  pub line_at-begin : (h : Header) (state : List ℕ) → line_at split f caps events h state 1 ≡ begin_text (region_of (start caps))
  unfolding line_at
  line_at-begin h state = refl

  text_before-none : (h : Header) (state : List ℕ) → text_before split f caps events h state 0 ≡ []
  unfolding text_before
  text_before-none h state = refl

  text_before-more : (h : Header) (state : List ℕ) (place : ℕ)
      → text_before split f caps events h state (suc place) ≡ text_before split f caps events h state place ++ line_at split f caps events h state place
  unfolding text_before
  text_before-more h state place = refl

  -- the text up to the place of a step or of the end
  pub text_before-front : (h : Header) (state : List ℕ) (done : ℕ) → h.version ≡ 2 → done ≤ h.horizon
      → text_before split f caps events h state (suc (suc done)) ≡ front_text split f caps events h done
  unfolding text_before line_at
  text_before-front h state zero version order = sym (front_text-zero h)
  text_before-front h state (suc done) version order =
      ap (λ (xs : List ℕ). xs ++ line_at split f caps events h state (suc (suc done))) (text_before-front h state done version (omega arith))
      ∙ (ap (λ (xs : List ℕ). front_text split f caps events h done ++ xs) (line_at-step h state done (omega arith)) ∙ sym (front_text-more h done version))

  -- all of it
  text_before-whole : (h : Header) (state : List ℕ) (place : ℕ) → h.version ≡ 2 → place ≡ h.horizon + 3
      → text_before split f caps events h state place ≡ log_text (recorded split f caps events h state)
  text_before-whole h state place version last =
      let e : place ≡ suc (suc (suc h.horizon)) = omega arith in
      ap (λ n. text_before split f caps events h state n) e
      ∙ (text_before-more h state (suc (suc h.horizon))
      ∙ (ap (λ (xs : List ℕ). xs ++ line_at split f caps events h state (suc (suc h.horizon))) (text_before-front h state h.horizon version (omega arith))
      ∙ (ap (λ (xs : List ℕ). front_text split f caps events h h.horizon ++ xs) (line_at-end h state h.horizon (omega arith)) ∙ sym (log_text-recorded h state))))

  -- what follows the text up to a place
  text_before-later : (h : Header) (state : List ℕ) (place more : ℕ)
      → (rest : List ℕ) × (text_before split f caps events h state place ++ rest ≡ text_before split f caps events h state (more + place))
  text_before-later h state place zero = (let e : place ≡ 0 + place = omega arith in
      ([], append-nil (text_before split f caps events h state place) ∙ ap (λ n. text_before split f caps events h state n) e))
  text_before-later h state place (suc more) =
      let e : suc (more + place) ≡ suc more + place = omega arith in
      let line = line_at split f caps events h state (more + place) in
      let before = text_before-later h state place more in (
        before.0 ++ line,
        sym (append_assoc (text_before split f caps events h state place) before.0 line) ∙ (ap (λ (xs : List ℕ). xs ++ line) before.1
            ∙ (sym (text_before-more h state (more + place)) ∙ ap (λ n. text_before split f caps events h state n) e)),
      )

  text_before-rest : (h : Header) (state : List ℕ) (place : ℕ) → h.version ≡ 2 → place ≤ h.horizon + 3
      → (rest : List ℕ) × (text_before split f caps events h state place ++ rest ≡ log_text (recorded split f caps events h state))
  text_before-rest h state place version order =
      let later = text_before-later h state place (h.horizon + 3 - place) in
      (later.0, later.1 ∙ text_before-whole h state (h.horizon + 3 - place + place) version (omega arith))

  -- what is put after nothing stands alone
  alone : (old new text : List ℕ) → length old ≤ 0 → new ≡ text → new ≡ old ++ text
  alone [] new text none is = is
  alone (x ∷ xs) new text none is = absurd (omega arith)

  line-alone : (h : Header) (state old new text : List ℕ) (place at : ℕ) → place ≡ at → most_held h.horizon at ≡ 0 → length old ≤ most_held h.horizon place
      → line_at split f caps events h state at ≡ text → new ≡ text → new ≡ old ++ line_at split f caps events h state place
  line-alone h state old new text place at here none held line is =
      let few : length old ≤ 0 = subst (λ n. length old ≤ n) (ap (λ n. most_held h.horizon n) here ∙ none) held in
      alone old new (line_at split f caps events h state place) few (is ∙ (sym line ∙ ap (λ n. line_at split f caps events h state n) (sym here)))

  pub line-header : (h : Header) (state old new : List ℕ) (place : ℕ) → place ≡ 0 → length old ≤ most_held h.horizon place → new ≡ header_text h
      → new ≡ old ++ line_at split f caps events h state place
  line-header h state old new place here held is = line-alone h state old new (header_text h) place 0 here refl held (line_at-header h state) is

  pub line-begin : (h : Header) (state old new : List ℕ) (place : ℕ) → place ≡ 1 → length old ≤ most_held h.horizon place → new ≡ begin_text (region_of (start caps))
      → new ≡ old ++ line_at split f caps events h state place
  line-begin h state old new place here held is =
      line-alone h state old new (begin_text (region_of (start caps))) place 1 here refl held (line_at-begin h state) is

  pub line-end : (h : Header) (state old new : List ℕ) (place : ℕ) → h.horizon + 2 ≤ place → length old ≤ most_held h.horizon place → new ≡ end_text state
      → new ≡ old ++ line_at split f caps events h state place
  line-end h state old new place past held is =
      let done = place - 2 in
      line-alone h state old new (end_text state) place (suc (suc done)) (omega arith)
      (ap (λ (b : Bool). if b then 8192 else 0) (le-ltb done h.horizon (omega arith))) held (line_at-end h state done (omega arith)) is

-- what is so of a system and words is so of the same ones
pub same-both : {A B : Type 0} (P : A → B → Type 0) (s t : A) (v w : B) → s ≡ t → v ≡ w → P s v → P t w
same-both P s t v w first second is = subst (λ a. P a w) first (subst (λ b. P s b) second is)

-- the line that is held, where nothing was held before it, of a plan that has the system and the words of the first one
pub line-only : {E P : Type 0} (function : E → List ℕ → List ℕ) (words : P → ℕ → ℕ) (first before now : Planned E P) (h : Header) (state : List ℕ) (place : ℕ) (old new bytes : List ℕ)
    → now ≡ before → before.system ≡ first.system → words before.past ≡ words first.past → old ≡ [] → new ≡ old ++ line_in function now.system (words now.past) h state place → bytes ≡ new
    → bytes ≡ line_in function first.system (words first.past) h state place
line-only {E} {P} function words first before now h state place old new bytes same system past none held is =
    same-both (λ (p : SystemParts E) (x : ℕ → ℕ). bytes ≡ line_in function p x h state place) now.system first.system (words now.past) (words first.past)
    (ap (λ (p : Planned E P). p.system) same ∙ system) (ap (λ (p : Planned E P). words p.past) same ∙ past)
    (is ∙ held ∙ ap (λ (xs : List ℕ). xs ++ line_in function now.system (words now.past) h state place) none)

-- the text up to a place, of a network's run under these words
module _ {E : Type 0} (function : E → List ℕ → List ℕ) (system : SystemParts E) (words : ℕ → ℕ) (h : Header) (state : List ℕ) where
  pub text-none : text_in function system words h state 0 ≡ []
  text-none = text_before-none system.split (system_functions function system words) system.caps (event_numbers system words) h state

  pub text-more : (place : ℕ) → text_in function system words h state (suc place) ≡ text_in function system words h state place ++ line_in function system words h state place
  text-more place = text_before-more system.split (system_functions function system words) system.caps (event_numbers system words) h state place

  pub text-whole : (place : ℕ) → h.version ≡ 2 → place ≡ h.horizon + 3 → text_in function system words h state place ≡ log_text (log_of function system words h state)
  text-whole place version last = text_before-whole system.split (system_functions function system words) system.caps (event_numbers system words) h state place version last

  pub text-rest : (place : ℕ) → h.version ≡ 2 → place ≤ h.horizon + 3
      → (rest : List ℕ) × (text_in function system words h state place ++ rest ≡ log_text (log_of function system words h state))
  text-rest place version order = text_before-rest system.split (system_functions function system words) system.caps (event_numbers system words) h state place version order
