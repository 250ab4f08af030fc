-- How long the lines of a run are at most once its region is a set, by the number of the states and of the queues.
use Rattle.std.proofs.Common.{◌≡◌, ℕ, zero, suc, ◌+◌, ◌-◌, ◌*◌, ◌<◌, ◌≤◌, ◌^◌, List, [], ◌∷◌, length, map, codes, true, slice_index, inl, inr, refl, sym, ◌∙◌, ap, subst, arith, length-append}
use Rattle.std.specs.Fmt.{decimal}
use Rattle.std.proofs.Math.Nat.{mul-le-mul_right, suc-mul}
use Rattle.std.proofs.lemmas.Fmt.{length-decimal-le}
use Rattle.std.proofs.lemmas.Bool.{or_left}
use Rattle.psi_state.specs.State.{IsVector, AreCapacities}
use Rattle.psi_state.specs.Members.{In}
use Rattle.psi_state.specs.declared.outcome.Step.{Step}
use Rattle.psi_rate.specs.Composition.{AreClosed}
use Rattle.psi_region.specs.Region.{Area, splits, step}
use Rattle.psi_region.proofs.RegionLemmas.{step-split}
use Rattle.psi_horizon.specs.Runs.{region_after}
use Rattle.psi_log_format.specs.declared.header.Header.{Header}
use Rattle.psi_log_format.specs.Log.{in_set, IsState}
use Rattle.psi_log_format.specs.Text.{numbers_text, region_words, next_words, step_text, end_text, log_text}
use Rattle.psi_log_format.specs.Room.{spaced_words}
use Rattle.psi_log_format.proofs.LinePiecesLemmas.{step_pieces, end_pieces}
use Rattle.psi_log_writer.specs.Recorded.{region_of, recorded}
use Rattle.psi_log_writer.specs.Walking.{step_line, front_text, IsAmple}
use Rattle.psi_log_writer.proofs.WalkingLemmas.{next-set}
use Rattle.psi_log_writer.proofs.TextLemmas.{front_text-more, log_text-recorded}
use Rattle.psi_log_writer.proofs.RegionLemmas.{length-image, kept-after, state-below}

-- each number of a list has at most so many digits
abbrev pub AreShort : ℕ → List ℕ → Type 0
AreShort w x = (i : ℕ) → length (decimal (slice_index x i)) ≤ w

numbers-within : (w : ℕ) (x : List ℕ) → AreShort w x → length (numbers_text x) ≤ length x * suc w
unfolding numbers_text
numbers-within w [] each = omega arith
numbers-within w (a ∷ []) each = (let own : length (decimal a) ≤ w = each 0 in let one = suc-mul 0 (suc w) in omega arith)
numbers-within w (a ∷ b ∷ x) each =
    let own : length (decimal a) ≤ w = each 0 in
    let rest : length (numbers_text (b ∷ x)) ≤ length (b ∷ x) * suc w = numbers-within w (b ∷ x) (λ i. each (suc i)) in
    let count : length (numbers_text (a ∷ b ∷ x)) ≡ length (decimal a) + length (44 ∷ numbers_text (b ∷ x)) = length-append (decimal a) (44 ∷ numbers_text (b ∷ x)) in
    let all = suc-mul (length (b ∷ x)) (suc w) in
    omega arith

-- the words of states of so many queues
set-within : (n w : ℕ) (xs : List (List ℕ)) → ((x : List ℕ) → In x xs → (length x ≡ n) × AreShort w x) → length (spaced_words (map numbers_text xs)) ≤ length xs * suc (n * suc w)
unfolding spaced_words
set-within n w [] each = omega arith
set-within n w (x ∷ xs) each =
    let own = each x (inl refl) in
    let size : length x ≡ n = own.0 in
    let text : length (numbers_text x) ≤ n * suc w = subst (λ k. length (numbers_text x) ≤ k * suc w) size (numbers-within w x own.1) in
    let rest = set-within n w xs (λ y member. each y (inr member)) in
    let count : length (spaced_words (map numbers_text (x ∷ xs))) ≡ length (32 ∷ numbers_text x) + length (spaced_words (map numbers_text xs)) = length-append (32 ∷ numbers_text x) (spaced_words (map numbers_text xs)) in
    let all = suc-mul (length xs) (suc (n * suc w)) in
    omega arith

-- the words of a set with its name
pub named-set : (n w : ℕ) (xs : List (List ℕ)) → ((x : List ℕ) → In x xs → (length x ≡ n) × AreShort w x)
    → length (spaced_words (region_words (in_set xs))) ≤ 4 + length xs * suc (n * suc w)
unfolding spaced_words
named-set n w xs each =
    let own = set-within n w xs each in
    let count : length (spaced_words (region_words (in_set xs))) ≡ 4 + length (spaced_words (map numbers_text xs)) = length-append (32 ∷ codes "set") (spaced_words (map numbers_text xs)) in
    omega arith

-- a number of 16 bits has at most five digits
number-short : (n : ℕ) → n < 2 ^ 16 → length (decimal n) ≤ 5
number-short n small = length-decimal-le 5 n (omega arith) (omega arith) (omega arith)

pub numbers-short : (x : List ℕ) → ((i : ℕ) → slice_index x i < 2 ^ 16) → length (numbers_text x) ≤ 6 * length x
numbers-short x each = (let all = numbers-within 5 x (λ i. number-short (slice_index x i) (each i)) in omega arith)

pub end-short : (x : List ℕ) → IsVector x → length (end_text x) ≤ 200
end-short x vector =
    let text = numbers-short x vector.each in
    let few = vector.few in
    let count = simp length-append at (ap (λ (t : List ℕ). length t) (end_pieces x)) in
    omega arith

-- the line of a step
pub step-short : (s : Step) (words : List (List ℕ)) → s.number < 10 ^ 7 → s.event < 10 ^ 4 → length (step_text s words) ≤ 18 + length (spaced_words words)
unfolding spaced_words
step-short s words number event =
    let first : length (decimal s.number) ≤ 7 = length-decimal-le 7 s.number (omega arith) number (omega arith) in
    let second : length (decimal s.event) ≤ 4 = length-decimal-le 4 s.event (omega arith) event (omega arith) in
    let whole = simp length-append at (ap (λ (t : List ℕ). length t) (step_pieces s words)) in
    omega arith

named-short : (n : ℕ) (xs : List (List ℕ)) → ((x : List ℕ) → In x xs → IsState n x) → length (spaced_words (region_words (in_set xs))) ≤ 4 + length xs * (6 * n + 1)
named-short n xs each =
    let e : suc (n * 6) ≡ 6 * n + 1 = omega arith in
    subst (λ k. length (spaced_words (region_words (in_set xs))) ≤ 4 + length xs * k) e
    (named-set n 5 xs (λ x member. ((each x member).count, λ i. number-short (slice_index x i) ((each x member).each i))))

module _ (split : ℕ) (f : ℕ → List ℕ → List ℕ) (caps : List ℕ) (events : ℕ → ℕ) (horizon : ℕ) where
  -- a set of so many states at most
  pub record HasFew (k : ℕ) (a : Area) : Type 0 where
    pub set : a.is_split ≡ true
    pub few : length a.states ≤ k

  pub few-next : (k : ℕ) (g : List ℕ → List ℕ) (a : Area) → HasFew k a → HasFew k (step split g a)
  few-next k g a few =
      let is : splits split a ≡ true = or_left a.is_split _ few.set in
      let shorter = length-image g a.states in
      let own = few.few in
      subst (λ (b : Area). HasFew k b) (sym (step-split split g a is)) (record { set = refl; few = omega arith })

  -- it stays one
  few-after : (k done more : ℕ) → HasFew k (region_after split f caps horizon done) → HasFew k (region_after split f caps horizon (more + done))
  few-after k done zero few = (let e : done ≡ 0 + done = omega arith in subst (λ n. HasFew k (region_after split f caps horizon n)) e few)
  few-after k done (suc more) few =
      let e : suc (more + done) ≡ suc more + done = omega arith in
      subst (λ n. HasFew k (region_after split f caps horizon n)) e
      (few-next k (f (horizon - (more + done))) (region_after split f caps horizon (more + done)) (few-after k done more few))

  module _ (valid : AreCapacities caps) (closed : AreClosed caps f) (most : horizon < 10 ^ 7) (named : (t : ℕ) → events t < 10 ^ 4) where
    -- the line of a step after which there is such a set
    line-short : (k done : ℕ) → HasFew k (region_after split f caps horizon (suc done)) → length (step_line split f caps events horizon done) ≤ 22 + k * (6 * length caps + 1)
    unfolding step_line
    line-short k done few =
        let a = region_after split f caps horizon done in
        let b = region_after split f caps horizon (suc done) in
        let kept = kept-after split caps f horizon (suc done) closed in
        let s : Step = record { number = horizon - done; event = events (horizon - done) } in
        let words : length (spaced_words (region_words (in_set b.states))) ≤ 4 + length b.states * (6 * length caps + 1) =
        named-short (length caps) b.states (λ x member. state-below caps x valid (kept.area.within x member)) in
        let text = step-short s (region_words (in_set b.states)) (omega arith) (named (horizon - done)) in
        let same : length (step_text s (next_words 2 (region_of a) (region_of b))) ≡ length (step_text s (region_words (in_set b.states))) =
        ap (λ (ws : List (List ℕ)). length (step_text s ws)) (next-set a b few.set) in
        let own = few.few in
        let fewer : length b.states * (6 * length caps + 1) ≤ k * (6 * length caps + 1) = mul-le-mul_right (6 * length caps + 1) own in
        omega arith

-- the text up to a later step, and the whole of it, where each line from a step on has at most so many bytes
module _ (split : ℕ) (f : ℕ → List ℕ → List ℕ) (caps : List ℕ) (events : ℕ → ℕ) (h : Header) (version : h.version ≡ 2) (done width : ℕ)
    (each : (more : ℕ) → length (step_line split f caps events h.horizon (more + done)) ≤ width) where
  front-grows : (more : ℕ) → length (front_text split f caps events h (more + done)) ≤ length (front_text split f caps events h done) + more * width
  front-grows zero =
      let e : done ≡ 0 + done = omega arith in
      let same : length (front_text split f caps events h done) ≡ length (front_text split f caps events h (0 + done)) = ap (λ n. length (front_text split f caps events h n)) e in
      omega arith
  front-grows (suc more) =
      let before = front-grows more in
      let e : suc more + done ≡ suc (more + done) = omega arith in
      let line = each more in
      let last : length (front_text split f caps events h (suc more + done)) ≡ length (front_text split f caps events h (suc (more + done))) = ap (λ n. length (front_text split f caps events h n)) e in
      let count : length (front_text split f caps events h (suc (more + done))) ≡ length (front_text split f caps events h (more + done)) + length (step_line split f caps events h.horizon (more + done)) =
      ap (λ (t : List ℕ). length t) (front_text-more split f caps events h (more + done) version) ∙ length-append (front_text split f caps events h (more + done)) (step_line split f caps events h.horizon (more + done)) in
      let all = suc-mul more width in
      omega arith

  pub log-from : (state : List ℕ) (room : ℕ) → done ≤ h.horizon → IsVector state → (h.horizon - done) * width + 200 ≤ room
      → length (log_text (recorded split f caps events h state)) ≤ length (front_text split f caps events h done) + room
  log-from state room order vector enough =
      let e : (h.horizon - done) + done ≡ h.horizon = omega arith in
      let left = front-grows (h.horizon - done) in
      let all : length (front_text split f caps events h h.horizon) ≡ length (front_text split f caps events h ((h.horizon - done) + done)) =
      ap (λ n. length (front_text split f caps events h n)) (sym e) in
      let end = end-short state vector in
      let count : length (log_text (recorded split f caps events h state)) ≡ length (front_text split f caps events h h.horizon) + length (end_text state) =
      ap (λ (t : List ℕ). length t) (log_text-recorded split f caps events h state) ∙ length-append (front_text split f caps events h h.horizon) (end_text state) in
      omega arith

-- the text of the whole log, as far as a set leaves it room
pub log-ample : (split : ℕ) (f : ℕ → List ℕ → List ℕ) (caps : List ℕ) (events : ℕ → ℕ) (h : Header) (state : List ℕ) (done room : ℕ) → AreCapacities caps → AreClosed caps f
    → h.horizon < 10 ^ 7 → ((t : ℕ) → events t < 10 ^ 4) → h.version ≡ 2 → done ≤ h.horizon → IsVector state
    → IsAmple caps (region_after split f caps h.horizon done) (h.horizon - done) room
    → length (log_text (recorded split f caps events h state)) ≤ length (front_text split f caps events h done) + room
log-ample split f caps events h state done room valid closed most named version order vector ample =
    let k = length (region_after split f caps h.horizon done).states in
    log-from split f caps events h version done (22 + k * (6 * length caps + 1))
    (λ more.
    let e : suc more + done ≡ suc (more + done) = omega arith in
    line-short split f caps events h.horizon valid closed most named k (more + done)
    (subst (λ n. HasFew split f caps events h.horizon k (region_after split f caps h.horizon n)) e
    (few-after split f caps events h.horizon k done (suc more) (record { set = ample.split; few = omega arith }))))
    state room order vector ample.enough
