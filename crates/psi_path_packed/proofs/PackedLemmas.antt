-- States within the capacities whose words are the same are the same.
use Rattle.std.specs.Prelude.{◌≡◌, ℕ, zero, suc, ◌+◌, ◌-◌, ◌*◌, ◌^◌, ◌<◌, ◌≤◌, List, [], ◌∷◌, ◌++◌, length, take, drop, slice_index, refl}
use Rattle.std.proofs.Common.{ap, ap₂, sym, ◌∙◌, pow_mono, arith}
use Rattle.std.proofs.lemmas.Nat.{same_from_place}
use Rattle.std.proofs.lemmas.List.{length-drop, take-append-drop}
use Rattle.psi_state.specs.State.{IsBelow}
use Rattle.psi_follow_packed.specs.Packed.{word_of, words_of, Packing, IsPacking, packed}

-- each number fits a field
abbrev Fit : ℕ → List ℕ → Type 0
Fit bits x = (q : ℕ) → q < length x → slice_index x q < 2 ^ bits

fit-tail : (bits v : ℕ) (x : List ℕ) → Fit bits (v ∷ x) → Fit bits x
fit-tail bits v x fit q small = fit (suc q) (omega arith)

-- a head and a tail of the same word are the same: the first fields, and the others
word-same : (fields bits : ℕ) (x y : List ℕ) → length x ≡ length y → Fit bits x → Fit bits y → word_of bits (take fields x) ≡ word_of bits (take fields y) → take fields x ≡ take fields y
word-same zero bits x y long own other same = refl
word-same (suc fields) bits [] [] long own other same = refl
word-same (suc fields) bits [] (w ∷ y) long own other same = absurd (omega arith)
word-same (suc fields) bits (v ∷ x) [] long own other same = absurd (omega arith)
word-same (suc fields) bits (v ∷ x) (w ∷ y) long own other same =
    let a = word_of bits (take fields x) in
    let b = word_of bits (take fields y) in
    let turned : a * 2 ^ bits + v ≡ b * 2 ^ bits + w = omega (arith, same) in
    let parts = same_from_place a v b w (2 ^ bits) (own 0 (omega arith)) (other 0 (omega arith)) turned in
    ap₂ ◌∷◌ parts.1 (word-same fields bits x y (omega arith) (fit-tail bits v x own) (fit-tail bits w y other) parts.0)

fit-drop : (bits n : ℕ) (x : List ℕ) → Fit bits x → Fit bits (drop n x)
fit-drop bits zero x fit = fit
fit-drop bits (suc n) [] fit = fit
fit-drop bits (suc n) (v ∷ x) fit = fit-drop bits n x (fit-tail bits v x fit)

words-same : (count fields bits : ℕ) (x y : List ℕ) → length x ≡ length y → length x ≤ count * fields → Fit bits x → Fit bits y → words_of count fields bits x ≡ words_of count fields bits y → x ≡ y
words-same zero fields bits [] [] long room own other same = refl
words-same zero fields bits [] (w ∷ y) long room own other same = absurd (omega arith)
words-same zero fields bits (v ∷ x) y long room own other same = absurd (omega arith)
words-same (suc count) fields bits x y long room own other same =
    let first : take fields x ≡ take fields y = word-same fields bits x y long own other (ap (λ (l : List ℕ). slice_index l 0) same) in
    let rest : drop fields x ≡ drop fields y =
    words-same count fields bits (drop fields x) (drop fields y) (length-drop fields x ∙ ap (λ n. n - fields) long ∙ sym (length-drop fields y))
    (omega (arith, length-drop fields x)) (fit-drop bits fields x own) (fit-drop bits fields y other) (ap (drop 1) same) in
    sym (take-append-drop fields x) ∙ ap₂ ◌++◌ first rest ∙ take-append-drop fields y

below-fits : (count : ℕ) (p : Packing) (x : List ℕ) → IsPacking count p → IsBelow x p.caps → Fit p.bits x
below-fits count p x is below = λ q small.
    (let free = is.free q (omega (arith, below.same_length)) in
    let within = below.each q small in
    let more : 2 ^ (p.bits - 1) ≤ 2 ^ p.bits = pow_mono (omega arith) in omega arith)

pub packed-same : (count : ℕ) (p : Packing) (x y : List ℕ) → IsPacking count p → IsBelow x p.caps → IsBelow y p.caps → packed count p x ≡ packed count p y → x ≡ y
unfolding packed
packed-same count p x y is below within same =
    words-same count p.fields p.bits x y (below.same_length ∙ sym within.same_length) (omega (arith, below.same_length, is.enough)) (below-fits count p x is below) (below-fits count p y is within) same

words-long : (count fields bits : ℕ) (x : List ℕ) → length (words_of count fields bits x) ≡ count
words-long zero fields bits x = refl
words-long (suc count) fields bits x = ap suc (words-long count fields bits (drop fields x))

pub packed-long : (count : ℕ) (p : Packing) (x : List ℕ) → length (packed count p x) ≡ count
unfolding packed
packed-long count p x = words-long count p.fields p.bits x
