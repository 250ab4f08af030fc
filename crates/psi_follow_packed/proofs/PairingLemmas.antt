-- Lists of pairs, the lists of their words, and the loops over them.
use Rattle.std.specs.Prelude.{◌≡◌, ℕ, suc, ◌+◌, ◌-◌, ◌%◌, ◌^◌, ◌<◌, Bool, true, false, ◌&&◌, List, [], length, map, slice_index, slice_index_or, slice_set, nat_eq, bit_and, bit_or, if◌then◌else◌}
use Rattle.std.proofs.Common.{refl, ap, ap₂, sym, subst, ◌∙◌, arith, below_more, get_or-set_same, get_or-set_other}
use Rattle.std.proofs.Math.ListN.{get_or-map}
use Rattle.std.proofs.lemmas.List.{map-set, length-map}
use Rattle.std.specs.Int.Bits.{and_zero_l, and_zero_r}
use Rattle.std.proofs.lemmas.Nat.{and_mask}
use Rattle.psi_follow_packed.specs.Moves.{Masks, holds, same_words}
use Rattle.psi_follow_packed.specs.Views.{words_by, masks_by, low_word, high_word}
use Rattle.psi_follow_packed.specs.declared.pairs.Pair.{Pair}
use Rattle.psi_follow_packed.specs.declared.pairs.PackedPair.{PackedPair}
use Rattle.psi_follow_packed.specs.declared.moves.PackedEvent.{PackedEvent}
use Rattle.psi_follow_packed.proofs.MovingLemmas.{ones, masked_word, AreChanged, changed-more}

-- what is read past the end
abbrev pub zeros : Pair
zeros = record { lanes = [] }

pub low-at : (pairs : List Pair) (at : ℕ) → low_word (slice_index_or pairs at zeros) ≡ slice_index (map low_word pairs) at
low-at pairs at = sym (get_or-map low_word pairs at zeros)

pub high-at : (pairs : List Pair) (at : ℕ) → high_word (slice_index_or pairs at zeros) ≡ slice_index (map high_word pairs) at
high-at pairs at = sym (get_or-map high_word pairs at zeros)

-- the words up to a place and the one that is written there
pub words-set : (word : Pair → ℕ) (pairs : List Pair) (at : ℕ) (p : Pair) (v : ℕ → ℕ) → at < length pairs
    → ((w : ℕ) → w < at → slice_index (map word pairs) w ≡ v w) → word p ≡ v at
    → (w : ℕ) → w < at + 1 → slice_index (map word (slice_set pairs at p)) w ≡ v w
words-set word pairs at p v small each own =
    below_more (λ w. slice_index (map word (slice_set pairs at p)) w ≡ v w) at
    (λ w under. ap (λ (l : List ℕ). slice_index l w) (map-set word pairs at p) ∙ get_or-set_other (map word pairs) at w (word p) 0 (omega arith) ∙ each w under)
    (ap (λ (l : List ℕ). slice_index l at) (map-set word pairs at p) ∙ get_or-set_same (map word pairs) at (word p) 0 (omega (arith, length-map pairs word)) ∙ own)

-- ---- the tests

-- masks of two tests have all ones where both hold
and-ones : (a b : Bool) → bit_and (ones a) (ones b) ≡ ones (a && b)
and-ones true true = and_mask (2 ^ 64 - 1) 64 ∙ omega arith
and-ones true false = and_zero_r (2 ^ 64 - 1)
and-ones false b = and_zero_l (ones b)

-- the tests of one word more
pub ones-more : (at : ℕ) (offsets : List ℕ) (m : Masks) (x : List ℕ) (held raised test next v o : ℕ) → held ≡ ones (holds at offsets m x)
    → raised ≡ (v + o) % 2 ^ 64 → v ≡ slice_index x at → o ≡ slice_index offsets at
    → test ≡ ones (nat_eq (bit_and raised (slice_index m.guards at)) (slice_index m.wanted at)) → next ≡ bit_and held test
    → next ≡ ones (holds (at + 1) offsets m x)
ones-more at offsets m x held raised test next v o is sum first second tested both =
    let e : suc at ≡ at + 1 = omega arith in
    let here : raised ≡ (slice_index x at + slice_index offsets at) % 2 ^ 64 = sum ∙ ap₂ (λ a b. (a + b) % 2 ^ 64) first second in
    both
    ∙ ap₂ bit_and is (tested ∙ ap (λ r. ones (nat_eq (bit_and r (slice_index m.guards at)) (slice_index m.wanted at))) here)
    ∙ and-ones (holds at offsets m x) (nat_eq (bit_and ((slice_index x at + slice_index offsets at) % 2 ^ 64) (slice_index m.guards at)) (slice_index m.wanted at))
    ∙ ap (λ n. ones (holds n offsets m x)) e

-- ---- the changes

-- a word is changed by both masks, or by the first where the second changes nothing
pub changed-both : (first second v p q a b c d e f : ℕ) → p ≡ (q + b) % 2 ^ 64 → q ≡ (v + a) % 2 ^ 64 → a ≡ bit_and first e → e ≡ c → b ≡ bit_and second f → f ≡ d
    → p ≡ ((v + bit_and first c) % 2 ^ 64 + bit_and second d) % 2 ^ 64
changed-both first second v p q a b c d e f last one own change other more =
    last ∙ ap₂ (λ m n. (m + n) % 2 ^ 64) (one ∙ ap (λ n. (v + n) % 2 ^ 64) (own ∙ ap (bit_and first) change)) (other ∙ ap (bit_and second) more)

pub changed-once : (first second v p a c d e : ℕ) → p ≡ (v + a) % 2 ^ 64 → a ≡ bit_and first e → e ≡ c → d ≡ 0
    → p ≡ ((v + bit_and first c) % 2 ^ 64 + bit_and second d) % 2 ^ 64
changed-once first second v p a c d e one own change none =
    let same : p ≡ (v + bit_and first c) % 2 ^ 64 = one ∙ ap (λ n. (v + n) % 2 ^ 64) (own ∙ ap (bit_and first) change) in
    let nothing : bit_and second d ≡ 0 = ap (bit_and second) none ∙ and_zero_r second in
    omega (arith, same, nothing)

-- the words are changed up to a place by the event
abbrev pub AreChangedBy : {K : ℕ} → (Pair → ℕ) → PackedEvent K → PackedPair K → ℕ → List Pair → Type 0
AreChangedBy {K} word event x at pairs = AreChanged K at (holds K (words_by word event.offsets) (masks_by word event.first) (words_by word x))
    (holds K (words_by word event.offsets) (masks_by word event.second) (words_by word x))
    (words_by word event.first.change) (words_by word event.second.change) (words_by word x) (map word pairs)

-- one pair more is changed
pub pairs-more : {K : ℕ} (word : Pair → ℕ) (event : PackedEvent K) (x : PackedPair K) (at first second v : ℕ) (pairs : List Pair) (p : Pair) → at < K
    → first ≡ ones (holds K (words_by word event.offsets) (masks_by word event.first) (words_by word x))
    → second ≡ ones (holds K (words_by word event.offsets) (masks_by word event.second) (words_by word x))
    → v ≡ slice_index (map word pairs) at
    → word p ≡ ((v + bit_and first (slice_index (words_by word event.first.change) at)) % 2 ^ 64 + bit_and second (slice_index (words_by word event.second.change) at)) % 2 ^ 64
    → AreChangedBy word event x at pairs → AreChangedBy word event x (at + 1) (slice_set pairs at p)
pairs-more {K} word event x at first second v pairs p small one two here own changed =
    let made : word p ≡ masked_word first second (words_by word event.first.change) (words_by word event.second.change) (map word pairs) at =
    own ∙ ap (λ w. ((w + bit_and first (slice_index (words_by word event.first.change) at)) % 2 ^ 64 + bit_and second (slice_index (words_by word event.second.change) at)) % 2 ^ 64) here in
    subst
    (λ (l : List ℕ). AreChanged K (at + 1) (holds K (words_by word event.offsets) (masks_by word event.first) (words_by word x))
    (holds K (words_by word event.offsets) (masks_by word event.second) (words_by word x))
    (words_by word event.first.change) (words_by word event.second.change) (words_by word x) l)
    (sym (map-set word pairs at p ∙ ap (λ w. slice_set (map word pairs) at w) made))
    (changed-more K at _ _ first second (words_by word event.first.change) (words_by word event.second.change) (words_by word x) (map word pairs) small one two changed)

-- ones where one of two tests fails
apart-both : (a b : Bool) → bit_or (if a then 0 else 2 ^ 64 - 1) (if b then 0 else 2 ^ 64 - 1) ≡ (if a && b then 0 else 2 ^ 64 - 1)
apart-both true true = refl
apart-both true false = refl
apart-both false true = refl
apart-both false false = refl

-- whether one word more is the same
pub apart-more : (at : ℕ) (x y : List ℕ) (apart own next v w : ℕ) → apart ≡ (if same_words at x y then 0 else 2 ^ 64 - 1) → own ≡ (if nat_eq v w then 0 else 2 ^ 64 - 1)
    → v ≡ slice_index x at → w ≡ slice_index y at → next ≡ bit_or apart own → next ≡ (if same_words (at + 1) x y then 0 else 2 ^ 64 - 1)
apart-more at x y apart own next v w before one first second both =
    let e : suc at ≡ at + 1 = omega arith in
    both ∙ ap₂ bit_or before (one ∙ ap₂ (λ a b. if nat_eq a b then 0 else 2 ^ 64 - 1) first second)
    ∙ apart-both (same_words at x y) (nat_eq (slice_index x at) (slice_index y at))
    ∙ ap (λ n. if same_words n x y then 0 else 2 ^ 64 - 1) e
