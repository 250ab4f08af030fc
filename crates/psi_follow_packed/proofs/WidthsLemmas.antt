-- The widths of a box by the fields of its corners' words.
use Rattle.std.specs.Prelude.{◌≡◌, ℕ, zero, suc, ◌+◌, ◌-◌, ◌*◌, ◌/◌, ◌%◌, ◌^◌, ◌<◌, ◌≤◌, ◌↔◌, List, [], ◌∷◌, length, take, drop, slice_index, bit_and, IsTrue, EachIndex, nat_le}
use Rattle.std.proofs.Common.{inl, inr, refl, ap, ap₂, sym, subst, ◌∙◌, arith, pow_pos, pow_mono, drop-drop, get_or-drop}
use Rattle.std.proofs.lemmas.List.{length-take, get_or-take, drop_all}
use Rattle.std.proofs.Math.Nat.{mul_assoc, zero-mul, mul-pos, le-mul_of_pos_right, div-lt_self}
use Rattle.std.proofs.lemmas.Bool.{cases_lt, le-leb}
use Rattle.std.proofs.lemmas.Bool.Decides.{leb_tells}
use Rattle.std.proofs.lemmas.Nat.{mod_low, shr_high, and_mask, one_shl}
use Rattle.psi_state.specs.State.{IsBelow, box}
use Rattle.psi_state.specs.Volume.{volume}
use Rattle.psi_state.proofs.BoxesLemmas.{below-induction, below-drop}
use Rattle.psi_state.proofs.VolumeLemmas.{length-box, volume-drop-some}
use Rattle.psi_follow_packed.specs.Packed.{word_of, words_of, Packing, IsPacking, packed}
use Rattle.psi_follow_packed.specs.Boxes.{widths, IsCount, AreCorners}
use Rattle.psi_follow_packed.proofs.WordsLemmas.{below-fit, packed-lt}

-- how far the numbers of one list are above those of another
abbrev pub differences : List ℕ → List ℕ → List ℕ
differences [] y = []
differences (v ∷ x) [] = []
differences (v ∷ x) (w ∷ y) = (w - v) ∷ differences x y

differences-small : (x y : List ℕ) (q : ℕ) → slice_index (differences x y) q ≤ slice_index y q
differences-small [] y q = omega arith
differences-small (v ∷ x) [] q = omega arith
differences-small (v ∷ x) (w ∷ y) zero = omega arith
differences-small (v ∷ x) (w ∷ y) (suc q) = differences-small x y q

take-small : (n : ℕ) (x : List ℕ) (q : ℕ) → slice_index (take n x) q ≤ slice_index x q
take-small zero x q = omega arith
take-small (suc n) [] q = omega arith
take-small (suc n) (v ∷ x) zero = omega arith
take-small (suc n) (v ∷ x) (suc q) = take-small n x q

pub below-take : (n : ℕ) (x y : List ℕ) → IsBelow x y → IsBelow (take n x) (take n y)
below-take n x y below = record {
  same_length = omega (arith, length-take {A = ℕ} n x, length-take {A = ℕ} n y, below.same_length);
  each = λ i small. (let inside : i < n = omega (arith, length-take {A = ℕ} n x) in
      rw (get_or-take {A = ℕ} n x i 0 inside, get_or-take {A = ℕ} n y i 0 inside) (below.each i (omega (arith, length-take {A = ℕ} n x))));
}

-- the widths of a box are those of what its upper corner is above the lower one
widths-volume : (x y : List ℕ) → IsBelow x y → widths (differences x y) ≡ volume x y
widths-volume =
    below-induction (λ x y. widths (differences x y) ≡ volume x y) refl
    (λ v w x y first below rest. (let width : suc (w - v) ≡ suc w - v = omega arith in ap₂ ◌*◌ width rest))

widths-some : (x : List ℕ) → 1 ≤ widths x
widths-some [] = omega arith
widths-some (v ∷ x) = let some : 1 ≤ suc v = omega arith in mul-pos some (widths-some x)

-- the states of a box by the first queues and the others
pub volume-split : (n : ℕ) (x y : List ℕ) → volume x y ≡ volume (take n x) (take n y) * volume (drop n x) (drop n y)
volume-split zero x y = omega arith
volume-split (suc n) [] [] = refl
volume-split (suc n) [] (w ∷ y) = sym (zero-mul (volume [] (drop n y)))
volume-split (suc n) (v ∷ x) [] = sym (zero-mul (volume (drop n x) []))
volume-split (suc n) (v ∷ x) (w ∷ y) =
    ap (λ m. (suc w - v) * m) (volume-split n x y) ∙ sym (mul_assoc (suc w - v) (volume (take n x) (take n y)) (volume (drop n x) (drop n y)))

-- no field borrows from the next
word_of-differences : (bits : ℕ) (x y : List ℕ) → IsBelow x y → word_of bits (differences x y) + word_of bits x ≡ word_of bits y
word_of-differences bits =
    below-induction (λ x y. word_of bits (differences x y) + word_of bits x ≡ word_of bits y) refl
    (λ v w x y first below rest. (let more = ap (λ d. 2 ^ bits * d) rest in omega (arith, more)))

words_of-part : (count fields bits : ℕ) (x : List ℕ) (w : ℕ) → w < count → slice_index (words_of count fields bits x) w ≡ word_of bits (take fields (drop (w * fields) x))
words_of-part zero fields bits x w small = absurd (omega arith)
words_of-part (suc count) fields bits x zero small =
    let none : 0 ≡ 0 * fields = omega arith in
    ap (λ n. word_of bits (take fields (drop n x))) none
words_of-part (suc count) fields bits x (suc w) small =
    let next : fields + w * fields ≡ suc w * fields = omega arith in
    words_of-part count fields bits (drop fields x) w (omega arith)
    ∙ ap (λ (l : List ℕ). word_of bits (take fields l)) (drop-drop (w * fields) fields x ∙ ap (λ n. drop n x) next)

module _ (count : ℕ) (p : Packing) (x : List ℕ) where
  packed-part : (w : ℕ) → w < count → slice_index (packed count p x) w ≡ word_of p.bits (take p.fields (drop (w * p.fields) x))
  unfolding packed
  packed-part w small = words_of-part count p.fields p.bits x w small

-- ---- the fields of a word, one after another

-- what is left of a word are the fields of these numbers, and the product with their widths is that of all
pub record IsPart (bits total rest product : ℕ) : Type 0 where
  pub left : List ℕ
  pub fit : (q : ℕ) → q < length left → slice_index left q < 2 ^ bits
  pub word : rest ≡ word_of bits left
  pub all : product * widths left ≡ total

first-field : (bits v word : ℕ) → bits < 64 → v < 2 ^ bits → bit_and (v + 2 ^ bits * word) (1 * 2 ^ bits % 2 ^ 64 - 1) ≡ v
first-field bits v word high small =
    let turned : v + 2 ^ bits * word ≡ word * 2 ^ bits + v = omega arith in
    ap₂ (λ m n. bit_and m (n - 1)) turned (one_shl bits 64 high) ∙ and_mask (word * 2 ^ bits + v) bits ∙ mod_low word bits v small

later-fields : (bits v word : ℕ) → v < 2 ^ bits → (v + 2 ^ bits * word) / 2 ^ bits ≡ word
later-fields bits v word small =
    let turned : v + 2 ^ bits * word ≡ word * 2 ^ bits + v = omega arith in
    ap (λ m. m / 2 ^ bits) turned ∙ shr_high word bits v small

part-next : (bits total rest product : ℕ) (left : List ℕ) → bits < 64 → 1 ≤ rest → ((q : ℕ) → q < length left → slice_index left q < 2 ^ bits)
    → rest ≡ word_of bits left → product * widths left ≡ total
    → IsPart bits total (rest / 2 ^ bits) (product * (bit_and rest (1 * 2 ^ bits % 2 ^ 64 - 1) + 1))
part-next bits total rest product [] high some fit word all = absurd (omega arith)
part-next bits total rest product (v ∷ left) high some fit word all =
    let small : v < 2 ^ bits = fit 0 (omega arith) in
    let width : bit_and rest (1 * 2 ^ bits % 2 ^ 64 - 1) + 1 ≡ suc v =
    ap (λ m. bit_and m (1 * 2 ^ bits % 2 ^ 64 - 1) + 1) word ∙ ap (λ m. m + 1) (first-field bits v (word_of bits left) high small) ∙ omega arith in
    record {
      left = left;
      fit = λ q within. fit (suc q) (omega arith);
      word = ap (λ m. m / 2 ^ bits) word ∙ later-fields bits v (word_of bits left) small;
      all = ap (λ m. product * m * widths left) width ∙ mul_assoc product (suc v) (widths left) ∙ all;
    }

pub part-more : (bits total rest product : ℕ) → bits < 64 → 1 ≤ rest → IsPart bits total rest product
    → IsPart bits total (rest / 2 ^ bits) (product * (bit_and rest (1 * 2 ^ bits % 2 ^ 64 - 1) + 1))
part-more bits total rest product high some part = part-next bits total rest product part.left high some part.fit part.word part.all

-- where no field is left that isn't 0, all widths are 1
widths-none : (bits : ℕ) (x : List ℕ) → word_of bits x ≡ 0 → widths x ≡ 1
widths-none bits [] none = refl
widths-none bits (v ∷ x) none =
    let more : word_of bits x ≤ word_of bits x * 2 ^ bits = le-mul_of_pos_right (word_of bits x) (pow_pos bits) in
    let rest : word_of bits x ≡ 0 = omega (arith, more, none) in
    let first : suc v ≡ 1 = omega (arith, none) in
    ap₂ ◌*◌ first (widths-none bits x rest)

pub part-done : (bits total rest product most : ℕ) → rest ≡ 0 → IsPart bits total rest product → IsCount most total product
part-done bits total rest product most none part =
    let one : widths part.left ≡ 1 = widths-none bits part.left (sym part.word ∙ none) in
    let all : product * 1 ≡ total = ap (λ m. product * m) (sym one) ∙ part.all in
    record { exact = λ few. omega (arith, all); above = λ many. omega (arith, all) }

pub part-above : (bits total rest product most : ℕ) → most < product → IsPart bits total rest product → IsCount most total product
part-above bits total rest product most many part =
    let more : product ≤ product * widths part.left = le-mul_of_pos_right product (widths-some part.left) in
    record { exact = λ few. absurd (omega arith); above = λ over. omega (arith, more, part.all) }

-- a word is shifted to a smaller one
pub shifted-smaller : (bits rest : ℕ) → 1 ≤ bits → 1 ≤ rest → rest / 2 ^ bits < rest
shifted-smaller bits rest one some =
    let two : 2 ^ 1 ≤ 2 ^ bits = pow_mono one in
    div-lt_self some (omega (arith, two))

-- ---- the words, one after another

-- a count so far, times what is left, makes all, or is given up above a bound
pub record IsSoFar (most count left all : ℕ) : Type 0 where
  pub exact : count ≤ most → count * left ≡ all
  pub above : most < count → most < all

so_far-more : (most count own next rest left all : ℕ) → 1 ≤ own → 1 ≤ rest → left ≡ own * rest → IsSoFar most count left all → IsCount most (count * own) next
    → IsSoFar most next rest all
so_far-more most count own next rest left all some other split so_far counted =
    let more : count ≤ count * own = le-mul_of_pos_right count some in
    let whole : count * own * rest ≡ count * left = mul_assoc count own rest ∙ ap (λ m. count * m) (sym split) in
    let grown : count * own ≤ count * own * rest = le-mul_of_pos_right (count * own) other in
    record {
      exact = λ few. let same : next ≡ count * own = counted.exact few in
          ap (λ m. m * rest) same ∙ whole ∙ so_far.exact (omega arith);
      above = λ many. elim (cases_lt most count) [
        | inl over ↦ so_far.above over
        | inr few ↦ (let same : count * left ≡ all = so_far.exact few in omega (arith, counted.above many, whole, grown))
      ];
    }

-- the words of the corners of a box
module _ (count : ℕ) (p : Packing) (low high lo hi : List ℕ) (is : IsPacking count p) (corners : AreCorners count p low high lo hi) where
  -- the corners by the fields of a word, and what the upper one is above the lower one there
  abbrev own_of : ℕ → List ℕ → List ℕ
  own_of w x = take p.fields (drop (w * p.fields) x)

  abbrev part_at : ℕ → List ℕ
  part_at w = differences (own_of w lo) (own_of w hi)

  own-below : (w : ℕ) → IsBelow (own_of w lo) (own_of w hi)
  own-below w = below-take p.fields (drop (w * p.fields) lo) (drop (w * p.fields) hi) (below-drop lo hi (w * p.fields) corners.ordered)

  part-word : (w : ℕ) → w < count → (slice_index high w + (2 ^ 64 - slice_index low w)) % 2 ^ 64 ≡ word_of p.bits (part_at w)
  part-word w small =
      let lower : slice_index low w ≡ word_of p.bits (own_of w lo) = ap (λ (l : List ℕ). slice_index l w) corners.low ∙ packed-part count p lo w small in
      let upper : slice_index high w ≡ word_of p.bits (own_of w hi) = ap (λ (l : List ℕ). slice_index l w) corners.high ∙ packed-part count p hi w small in
      let fits : slice_index (packed count p hi) w < 2 ^ 64 = packed-lt count p hi is (below-fit count p hi is corners.within) w in
      let same : slice_index high w ≡ slice_index (packed count p hi) w = ap (λ (l : List ℕ). slice_index l w) corners.high in
      omega (arith, lower, upper, fits, same, word_of-differences p.bits (own_of w lo) (own_of w hi) (own-below w))

  part-fit : (w q : ℕ) → slice_index (part_at w) q < 2 ^ p.bits
  part-fit w q =
      omega (
        arith,
        differences-small (own_of w lo) (own_of w hi) q,
        take-small p.fields (drop (w * p.fields) hi) q,
        get_or-drop (w * p.fields) hi q 0,
        (below-fit count p hi is corners.within).each (w * p.fields + q),
      )

  -- the states of the box by the queues from a word on
  abbrev pub later : ℕ → ℕ
  later w = volume (drop (w * p.fields) lo) (drop (w * p.fields) hi)

  pub words-first : (most : ℕ) → IsSoFar most 1 (later 0) (length (box lo hi))
  words-first most =
      let none : 0 * p.fields ≡ 0 = omega arith in
      let all : later 0 ≡ length (box lo hi) = rw none (sym (length-box lo hi)) in
      record { exact = λ few. omega (arith, all); above = λ many. omega (arith, all, volume-drop-some lo hi (0 * p.fields) corners.ordered) }

  words-more : (most so_far next w : ℕ) → IsSoFar most so_far (later w) (length (box lo hi)) → IsCount most (so_far * widths (part_at w)) next
      → IsSoFar most next (later (w + 1)) (length (box lo hi))
  words-more most so_far next w before counted =
      let on : w * p.fields + p.fields ≡ (w + 1) * p.fields = omega arith in
      so_far-more most so_far (widths (part_at w)) next (later (w + 1)) (later w) (length (box lo hi))
      (widths-some (part_at w)) (volume-drop-some lo hi ((w + 1) * p.fields) corners.ordered)
      (volume-split p.fields (drop (w * p.fields) lo) (drop (w * p.fields) hi)
      ∙ ap₂ ◌*◌ (sym (widths-volume (own_of w lo) (own_of w hi) (own-below w)))
      (rw (drop-drop p.fields (w * p.fields) lo, drop-drop p.fields (w * p.fields) hi, on) refl))
      before counted

  pub words-step : (most so_far next w word bits : ℕ) → w < count → p.bits ≡ bits → word ≡ (slice_index high w + (2 ^ 64 - slice_index low w)) % 2 ^ 64
      → ((x : List ℕ) → EachIndex x (λ q. slice_index x q < 2 ^ bits) → word ≡ word_of bits x → IsCount most (so_far * widths x) next)
      → IsSoFar most so_far (later w) (length (box lo hi)) → IsSoFar most next (later (w + 1)) (length (box lo hi))
  words-step most so_far next w word bits small same own counted before =
      words-more most so_far next w before
      (counted (part_at w) (λ q within. subst (λ b. slice_index (part_at w) q < 2 ^ b) same (part-fit w q))
      (own ∙ part-word w small ∙ ap (λ b. word_of b (part_at w)) same))

  pub words-all : (most so_far w : ℕ) → w ≡ count → IsSoFar most so_far (later w) (length (box lo hi)) → IsCount most (length (box lo hi)) so_far
  words-all most so_far w end before =
      let enough : length p.caps ≤ w * p.fields = subst (λ n. length p.caps ≤ n * p.fields) (sym end) is.enough in
      let none : later w ≡ 1 =
      rw (drop_all (w * p.fields) lo (omega (arith, corners.ordered.same_length, corners.within.same_length)), drop_all (w * p.fields) hi (omega (arith, corners.within.same_length))) refl in
      record {
        exact = λ few. (let all : so_far * 1 ≡ length (box lo hi) = ap (λ n. so_far * n) (sym none) ∙ before.exact few in omega (arith, all));
        above = before.above;
      }

-- a count that isn't given up is the total
pub count-tells : (most total count : ℕ) → IsCount most total count → IsTrue (nat_le count most) ↔ total ≤ most
count-tells most total count counted = (
  λ told. (let few : count ≤ most = grind (arith, told, leb_tells) in omega (arith, counted.exact few)),
  λ small. elim (cases_lt most count) [
    | inl over ↦ absurd (omega (arith, counted.above over))
    | inr few ↦ le-leb count most few
  ],
)
