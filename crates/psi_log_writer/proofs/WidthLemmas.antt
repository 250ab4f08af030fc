-- How long the lines of a run are at most, by the digits of the capacities, the number of the queues and the split number.
use Rattle.std.proofs.Common.{◌≡◌, ◌⊎◌, ℕ, zero, suc, ◌+◌, ◌-◌, ◌*◌, ◌<◌, ◌≤◌, ◌^◌, List, [], ◌∷◌, ◌++◌, length, map, codes, Bool, false, slice_index, inl, inr, refl, sym, ◌∙◌, ap, arith, length-append, ⊎_elim}
use Rattle.std.specs.Prelude.{cond}
use Rattle.std.specs.Fmt.{decimal}
use Rattle.std.specs.List.{filter}
use Rattle.std.proofs.Math.Nat.{suc-mul, mul-le-mul_right}
use Rattle.std.proofs.lemmas.Fmt.{length-decimal-le}
use Rattle.std.proofs.lemmas.Bool.{true≢false, cases_Bool, cases_lt}
use Rattle.std.proofs.lemmas.List.{get_or_past}
use Rattle.psi_state.specs.State.{Corners, IsBelow, IsVector, AreCapacities, numbers_from}
use Rattle.psi_state.specs.Hull.{lows, highs, corners}
use Rattle.psi_state.specs.declared.outcome.Step.{Step}
use Rattle.psi_event.specs.Law.{IsClosed}
use Rattle.psi_rate.specs.Composition.{SystemParts, AreClosed, system_functions}
use Rattle.psi_rate.specs.System.{IsSystem}
use Rattle.psi_rate.proofs.FunctionsLemmas.{functions-closed}
use Rattle.psi_rate.proofs.PowersLemmas.{pow-order}
use Rattle.psi_horizon.specs.Runs.{region_after}
use Rattle.psi_log_format.specs.declared.header.Header.{Header}
use Rattle.psi_log_format.specs.Log.{LogRegion, in_box, in_set}
use Rattle.psi_log_format.specs.Text.{numbers_text, region_words, differs, change_to, change_text, move_words, next_words, step_text, log_text}
use Rattle.psi_log_format.specs.Room.{spaced_words, picked}
use Rattle.psi_log_format.proofs.JoinedLemmas.{spaced-append, one_word, picked-append, moved}
use Rattle.psi_replay.specs.Verdict.{event_numbers}
use Rattle.psi_log_writer.specs.Recorded.{region_of, recorded, log_of}
use Rattle.psi_log_writer.specs.Walking.{step_line, front_text, text_in, IsRoomy, IsAmpleAfter}
use Rattle.psi_log_writer.proofs.WalkingLemmas.{next-set}
use Rattle.psi_log_writer.proofs.TextLemmas.{text_before-front}
use Rattle.psi_log_writer.proofs.AcceptedLemmas.{events-few}
use Rattle.psi_log_writer.proofs.RegionLemmas.{corners-below, kept-after, state-below, region_of-plain}
use Rattle.psi_log_writer.proofs.BoundLemmas.{AreShort, named-set, HasFew, few-next, step-short, log-from, log-ample}

-- the numbers of a state have no more digits than its capacities
below-short : (w : ℕ) (caps x : List ℕ) → 0 < w → AreCapacities caps → ((i : ℕ) → slice_index caps i < 10 ^ w) → IsBelow x caps → AreShort w x
below-short w caps x some valid each below i =
    let own = (state-below caps x valid below).each i in
    let large = each i in
    let small : slice_index x i < 10 ^ w = elim (cases_lt i (length x)) [
      | inl less ↦ (let under = below.each i less in omega arith)
      | inr past ↦ (let none : slice_index x i ≡ 0 = get_or_past x i 0 past in omega arith)
    ] in
    length-decimal-le w (slice_index x i) some small (omega arith)

-- the word of a queue
change-within : (w q least greatest : ℕ) → q < 100 → length (decimal least) ≤ w → length (decimal greatest) ≤ w
    → length (change_text (record { queue = q; least = least; greatest = greatest })) ≤ 2 * w + 4
unfolding numbers_text
change-within w q least greatest small low high =
    let first : length (decimal q) ≤ 2 = length-decimal-le 2 q (omega arith) (omega arith) (omega arith) in
    let count : length (change_text (record { queue = q; least = least; greatest = greatest })) ≡ length (decimal q) + length (44 ∷ (decimal least ++ (44 ∷ decimal greatest))) =
    length-append (decimal q) (44 ∷ (decimal least ++ (44 ∷ decimal greatest))) in
    let rest : length (decimal least ++ (44 ∷ decimal greatest)) ≡ length (decimal least) + length (44 ∷ decimal greatest) = length-append (decimal least) (44 ∷ decimal greatest) in
    omega arith

no-words : length (spaced_words []) ≡ 0
unfolding spaced_words
no-words = refl

named-move : (ws : List (List ℕ)) → length (spaced_words (codes "move" ∷ ws)) ≡ 5 + length (spaced_words ws)
unfolding spaced_words
named-move ws = length-append (32 ∷ codes "move") (spaced_words ws)

-- one queue changed, or it didn't
filter-one : (p : ℕ → Bool) (q : ℕ) → (filter p (q ∷ []) ≡ q ∷ []) ⊎ (filter p (q ∷ []) ≡ [])
filter-one p q = elim (cases_Bool (p q)) [
  | inl is ↦ inl (ap (λ (b : Bool). cond b (q ∷ []) []) is)
  | inr not ↦ inr (ap (λ (b : Bool). cond b (q ∷ []) []) not)
]

one-within : (w q : ℕ) (from to : Corners) → q < 100 → AreShort w to.lo → AreShort w to.hi → length (spaced_words (picked from to (q ∷ []))) ≤ 2 * w + 5
one-within w q from to small low high = elim (filter-one (differs from to) q) [
  | inl there ↦ (let word : length (change_text (change_to to q)) ≤ 2 * w + 4 = change-within w q (slice_index to.lo q) (slice_index to.hi q) small (low q) (high q) in
      let is : length (spaced_words (picked from to (q ∷ []))) ≡ length (32 ∷ change_text (change_to to q)) =
      ap (λ (qs : List ℕ). length (spaced_words (map change_text (map (change_to to) qs)))) there ∙ ap (λ (t : List ℕ). length t) (one_word (change_text (change_to to q))) in
      omega arith)
  | inr none ↦ (let is : length (spaced_words (picked from to (q ∷ []))) ≡ length (spaced_words []) =
      ap (λ (qs : List ℕ). length (spaced_words (map change_text (map (change_to to) qs)))) none in
      let nothing = no-words in
      omega arith)
]

-- the words of queues
picked-within : (w s n : ℕ) (from to : Corners) → s + n ≤ 100 → AreShort w to.lo → AreShort w to.hi → length (spaced_words (picked from to (numbers_from s n))) ≤ n * (2 * w + 5)
picked-within w s zero from to small low high = (let nothing : length (spaced_words (picked from to (numbers_from s zero))) ≡ 0 = no-words in omega arith)
picked-within w s (suc n) from to small low high =
    let first = one-within w s from to (omega arith) low high in
    let rest = picked-within w (suc s) n from to (omega arith) low high in
    let both : length (spaced_words (picked from to (numbers_from s (suc n)))) ≡ length (spaced_words (picked from to (s ∷ []))) + length (spaced_words (picked from to (numbers_from (suc s) n))) =
    ap (λ (ws : List (List ℕ)). length (spaced_words ws)) (picked-append from to (s ∷ []) (numbers_from (suc s) n))
    ∙ (ap (λ (t : List ℕ). length t) (spaced-append (picked from to (s ∷ [])) (picked from to (numbers_from (suc s) n)))
    ∙ length-append (spaced_words (picked from to (s ∷ []))) (spaced_words (picked from to (numbers_from (suc s) n)))) in
    let all = suc-mul n (2 * w + 5) in
    omega arith

move-within : (w n : ℕ) (from to : Corners) → length from.lo ≡ n → n ≤ 100 → AreShort w to.lo → AreShort w to.hi → length (spaced_words (move_words from to)) ≤ 5 + n * (2 * w + 5)
move-within w n from to size small low high =
    let rest = picked-within w 0 n from to (omega arith) low high in
    let is : length (spaced_words (move_words from to)) ≡ length (spaced_words (codes "move" ∷ picked from to (numbers_from 0 n))) =
    ap (λ (ws : List (List ℕ)). length (spaced_words ws)) (moved from to) ∙ ap (λ k. length (spaced_words (codes "move" ∷ picked from to (numbers_from 0 k)))) size in
    let count = named-move (picked from to (numbers_from 0 n)) in
    omega arith

module _ (split : ℕ) (f : ℕ → List ℕ → List ℕ) (caps : List ℕ) (events : ℕ → ℕ) (horizon : ℕ) (valid : AreCapacities caps) (closed : AreClosed caps f) (most : horizon < 10 ^ 7)
    (named : (t : ℕ) → events t < 10 ^ 4) (w width : ℕ) (some : 0 < w) (each : (i : ℕ) → slice_index caps i < 10 ^ w) (boxes : 23 + length caps * (2 * w + 5) ≤ width)
    (sets : 23 + split * suc (length caps * suc w) ≤ width) where
  -- the line of a step
  line-wide : (done : ℕ) → length (step_line split f caps events horizon done) ≤ width
  unfolding step_line
  line-wide done =
      let a = region_after split f caps horizon done in
      let b = region_after split f caps horizon (suc done) in
      let kept = kept-after split caps f horizon (suc done) closed in
      let s : Step = record { number = horizon - done; event = events (horizon - done) } in
      elim (cases_Bool b.is_split) [
        | inl is ↦ (let few : length b.states ≤ split = kept.few is in
            let words = named-set (length caps) w b.states (λ x member. ((kept.area.within x member).same_length, below-short w caps x some valid each (kept.area.within x member))) in
            let text = step-short s (region_words (in_set b.states)) (omega arith) (named (horizon - done)) in
            let same : length (step_text s (next_words 2 (region_of a) (region_of b))) ≡ length (step_text s (region_words (in_set b.states))) =
            ap (λ (ws : List (List ℕ)). length (step_text s ws)) (next-set a b is) in
            let fewer : length b.states * suc (length caps * suc w) ≤ split * suc (length caps * suc w) = mul-le-mul_right (suc (length caps * suc w)) few in
            omega arith)
        | inr plain ↦ (let before : a.is_split ≡ false = elim (cases_Bool a.is_split) [
          | inl is ↦ (let few : HasFew split f caps events horizon (length a.states) a = record { set = is; few = omega arith } in
              let next = few-next split f caps events horizon (length a.states) (f (horizon - done)) a few in
              absurd (true≢false (sym next.set ∙ plain)))
          | inr not ↦ not
        ] in
            let old = kept-after split caps f horizon done closed in
            let first = corners-below split caps a old in
            let last = corners-below split caps b kept in
            let fewq = valid.few in
            let words = move-within w (length caps) (corners a.states) (corners b.states) first.0.same_length (omega arith)
            (below-short w caps (lows b.states) some valid each last.0) (below-short w caps (highs b.states) some valid each last.1) in
            let text = step-short s (move_words (corners a.states) (corners b.states)) (omega arith) (named (horizon - done)) in
            let same : length (step_text s (next_words 2 (region_of a) (region_of b))) ≡ length (step_text s (move_words (corners a.states) (corners b.states))) =
            ap (λ (r : LogRegion). length (step_text s (next_words 2 r (region_of b)))) (region_of-plain a before)
            ∙ ap (λ (r : LogRegion). length (step_text s (next_words 2 (in_box (corners a.states)) r))) (region_of-plain b plain) in
            omega arith)
      ]

-- the text of the whole log
log-wide : (split : ℕ) (f : ℕ → List ℕ → List ℕ) (caps : List ℕ) (events : ℕ → ℕ) (h : Header) (state : List ℕ) (done room : ℕ) → AreCapacities caps → AreClosed caps f
    → h.horizon < 10 ^ 7 → ((t : ℕ) → events t < 10 ^ 4) → h.version ≡ 2 → done ≤ h.horizon → IsVector state → IsRoomy caps split (h.horizon - done) room
    → length (log_text (recorded split f caps events h state)) ≤ length (front_text split f caps events h done) + room
log-wide split f caps events h state done room valid closed most named version order vector roomy =
    log-from split f caps events h version done roomy.width
    (λ more. line-wide split f caps events h.horizon valid closed most named roomy.digits roomy.width roomy.some roomy.numbers roomy.boxes roomy.sets (more + done))
    state room order vector roomy.enough

-- what both ways to know that the lines that are left fit ask of a network's run
pub record IsShort {E : Type 0} (function : E → List ℕ → List ℕ) (system : SystemParts E) (words : ℕ → ℕ) (horizon : ℕ) : Type 0 where
  pub closed : AreClosed system.caps (system_functions function system words)
  pub most : horizon < 10 ^ 7
  pub named : (t : ℕ) → event_numbers system words t < 10 ^ 4

run-short : {E : Type 0} (capacities : E → List ℕ) (function : E → List ℕ → List ℕ) (system : SystemParts E) (words : ℕ → ℕ) (horizon : ℕ)
    → ((event : E) → IsClosed (capacities event) (function event)) → IsSystem capacities system → horizon ≤ 2 ^ system.limit → IsShort function system words horizon
run-short capacities function system words horizon law fit most =
    let powered : 2 ^ system.limit ≤ 2 ^ 22 = pow-order system.limit 22 fit.most_limit in
    record {
      closed = functions-closed capacities function system words law fit.same_caps;
      most = omega arith;
      named = λ t. (let few = events-few system words t fit.rated.few in omega arith);
    }

-- what is left of the whole text from the place of a step or of the end on
whole-fits : {E : Type 0} (function : E → List ℕ → List ℕ) (system : SystemParts E) (words : ℕ → ℕ) (h : Header) (state : List ℕ) (place room : ℕ) → 2 ≤ place → place ≤ h.horizon + 2
    → h.version ≡ 2
    → length (log_text (log_of function system words h state))
    ≤ length (front_text system.split (system_functions function system words) system.caps (event_numbers system words) h (place - 2)) + room
    → length (log_text (log_of function system words h state)) ≤ length (text_in function system words h state place) + room
whole-fits function system words h state place room low high version fits =
    let e : place ≡ suc (suc (place - 2)) = omega arith in
    let front = ap (λ (t : List ℕ). length t) (ap (λ n. text_in function system words h state n) e
    ∙ text_before-front system.split (system_functions function system words) system.caps (event_numbers system words) h state (place - 2) version (omega arith)) in
    omega arith

-- the lines that are left fit by one of the two ways
pub left-fits : {E : Type 0} (capacities : E → List ℕ) (function : E → List ℕ → List ℕ) (system : SystemParts E) (words : ℕ → ℕ) (h : Header) (state : List ℕ) (place room : ℕ)
    → ((event : E) → IsClosed (capacities event) (function event)) → IsSystem capacities system → h.horizon ≤ 2 ^ system.limit → 2 ≤ place → place ≤ h.horizon + 2
    → h.version ≡ 2 → IsVector state
    → IsRoomy system.caps system.split (h.horizon - (place - 2)) room ⊎ IsAmpleAfter function system words (h.horizon - (place - 2)) room h.horizon (place - 2)
    → length (log_text (log_of function system words h state)) ≤ length (text_in function system words h state place) + room
left-fits capacities function system words h state place room law fit most low high version vector known =
    let short = run-short capacities function system words h.horizon law fit most in
    let f = system_functions function system words in
    let events = event_numbers system words in
    whole-fits function system words h state place room low high version (⊎_elim
    (log-wide system.split f system.caps events h state (place - 2) room fit.valid short.closed short.most short.named version (omega arith) vector)
    (log-ample system.split f system.caps events h state (place - 2) room fit.valid short.closed short.most short.named version (omega arith) vector)
    known)
