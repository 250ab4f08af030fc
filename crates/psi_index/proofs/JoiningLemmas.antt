-- Two stretches that overlap make a longer one.
use Rattle.std.proofs.Common.{Result, IfOk, ◌≡◌, ℕ, zero, suc, ◌+◌, ◌-◌, ◌*◌, ◌<◌, ◌≤◌, List, [], ◌∷◌, ◌^◌, length, map, min, take, drop, slice_index, slice_range, inl, inr, ap, sym, ◌∙◌, subst, arith, length-drop}
use Rattle.std.proofs.lemmas.Bool.{cases_lt}
use Rattle.std.proofs.lemmas.Nat.{pow-add}
use Rattle.std.proofs.lemmas.Result.{IfOk-weaker}
use Rattle.std.proofs.lemmas.List.{get_or-take, get_or-drop, drop-map, take-map, length-take-le}
use Rattle.psi_index.specs.Extremes.{complement, greatest_of, least_of, AreLeast, IsLeast, IsValueList}
use Rattle.psi_index.specs.Inner.LevelsKept.{IsJoined}
use Rattle.psi_index.specs.declared.level.Level.{Level}

pub least-join : (values : List ℕ) (a b c d m n : ℕ) → IsLeast values a b m → IsLeast values c d n → a ≤ c → c ≤ b → b ≤ d → IsLeast values a d (min m n)
least-join values a b c d m n left right low meet high = record {
  below = λ k over under.
      elim (cases_lt k b) [
        | inl less ↦ (let near = left.below k over less in omega arith)
        | inr more ↦ (let near = right.below k (omega arith) under in omega arith)
      ];
  reached =
      elim (cases_lt n m) [
        | inl less ↦ (let q = right.reached in (q.0, omega arith, q.2, omega arith))
        | inr more ↦ (let p = left.reached in (p.0, p.1, omega arith, omega arith))
      ];
}

-- two entries of one level make the least value of a stretch of at most twice its width
pub least-two : (values entries : List ℕ) (width first past i : ℕ) → AreLeast values width entries → past ≤ length values → first + width ≤ past
    → past ≤ first + 2 * width → i + width ≡ past → IsLeast values first past (min (slice_index entries first) (slice_index entries i))
least-two values entries width first past i are within fits covers last =
    subst (λ q. IsLeast values first q (min (slice_index entries first) (slice_index entries i))) last
    (least-join values first (first + width) i (i + width) (slice_index entries first) (slice_index entries i)
    (are.each first (omega arith)) (are.each i (omega arith)) (omega arith) (omega arith) (omega arith))

-- and two such entries each make the entries of twice its width
pub level-joined : {E : Type 0} (values halves : List ℕ) (half e : ℕ) (r : Result Level E) → AreLeast values (2 ^ e) halves → half ≡ 2 ^ e
    → 2 ^ (e + 1) ≤ length values → IfOk r (λ level. IsJoined halves half level.least.items) → IfOk r (λ level. AreLeast values (2 ^ (e + 1)) level.least.items)
level-joined values halves half e r are power room =
    let twice = pow-add 2 e 1 in
    IfOk-weaker r (λ level. IsJoined halves half level.least.items) (λ level. AreLeast values (2 ^ (e + 1)) level.least.items) (λ level join. record {
      count = omega arith;
      each = λ i within.
          subst (λ m. IsLeast values i (i + 2 ^ (e + 1)) m) (sym (join.each i (omega arith)))
          (least-two values halves (2 ^ e) i (i + 2 ^ (e + 1)) (i + half) are within (omega arith) (omega arith) (omega arith));
    })

-- what is at most each number is at most the least of them
least_of-above : (xs : List ℕ) (m : ℕ) → 0 < length xs → ((k : ℕ) → k < length xs → m ≤ slice_index xs k) → m ≤ least_of xs
least_of-above [] m some below = absurd (omega arith)
least_of-above (x ∷ []) m some below = below 0 (omega arith)
least_of-above (x ∷ y ∷ ys) m some below =
    let first = below 0 (omega arith) in let rest = least_of-above (y ∷ ys) m (omega arith) (λ k small. below (suc k) (omega arith)) in omega arith

-- which is at most each of them
least_of-below : (xs : List ℕ) (k : ℕ) → k < length xs → least_of xs ≤ slice_index xs k
least_of-below [] k small = absurd (omega arith)
least_of-below (x ∷ []) zero small = omega arith
least_of-below (x ∷ []) (suc k) small = absurd (omega arith)
least_of-below (x ∷ y ∷ ys) zero small = omega arith
least_of-below (x ∷ y ∷ ys) (suc k) small = let rest = least_of-below (y ∷ ys) k (omega arith) in omega arith

pub length-slice_range : (values : List ℕ) (first past : ℕ) → first ≤ past → past ≤ length values → length (slice_range values first past) ≡ past - first
length-slice_range values first past ordered within =
    let rest : length (drop first values) ≡ length values - first = length-drop {A = ℕ} first values in
    length-take-le {A = ℕ} (past - first) (drop first values) (omega arith)

pub slice_index-slice_range : (values : List ℕ) (first past k : ℕ) → k < past - first → slice_index (slice_range values first past) k ≡ slice_index values (first + k)
slice_index-slice_range values first past k small =
    get_or-take {A = ℕ} (past - first) (drop first values) k 0 small ∙ get_or-drop {A = ℕ} first values k 0

-- a stretch's least value is the least number of the list of its values
pub least-slice_range : (values : List ℕ) (first past m : ℕ) → IsLeast values first past m → past ≤ length values → m ≡ least_of (slice_range values first past)
least-slice_range values first past m is within =
    let xs : List ℕ = slice_range values first past in
    let found = is.reached in
    let count : length xs ≡ past - first = length-slice_range values first past (omega arith) within in
    let here = slice_index-slice_range values first past (found.0 - first) (omega arith) in
    let same = ap (λ j. slice_index values j) (let e : first + (found.0 - first) ≡ found.0 = omega arith in e) in
    let below = least_of-below xs (found.0 - first) (omega arith) in
    let above = least_of-above xs m (omega arith) (λ k small.
    (let at = slice_index-slice_range values first past k (omega arith) in let least = is.below (first + k) (omega arith) (omega arith) in omega arith)) in
    omega arith

-- the greatest number and the least complement make the greatest number of 32 bits
greatest_of-complements : (xs : List ℕ) → 0 < length xs → ((k : ℕ) → k < length xs → slice_index xs k < 2 ^ 32)
    → greatest_of xs + least_of (map complement xs) ≡ 2 ^ 32 - 1
greatest_of-complements [] some small = absurd (omega arith)
greatest_of-complements (x ∷ []) some small = (let first = small 0 (omega arith) in omega arith)
greatest_of-complements (x ∷ y ∷ ys) some small =
    let first = small 0 (omega arith) in
    let rest = greatest_of-complements (y ∷ ys) (omega arith) (λ k within. small (suc k) (omega arith)) in omega arith

-- so a stretch's greatest value is the complement of the least complement
pub greatest-complements : (values : List ℕ) (first past : ℕ) → IsValueList values → first < past → past ≤ length values
    → greatest_of (slice_range values first past) + least_of (slice_range (map complement values) first past) ≡ 2 ^ 32 - 1
greatest-complements values first past valid ordered within =
    let xs : List ℕ = slice_range values first past in
    let count : length xs ≡ past - first = length-slice_range values first past (omega arith) within in
    let turn : map complement xs ≡ slice_range (map complement values) first past =
    sym (ap (λ (ys : List ℕ). take (past - first) ys) (drop-map complement first values) ∙ take-map complement (past - first) (drop first values)) in
    subst (λ (ys : List ℕ). greatest_of xs + least_of ys ≡ 2 ^ 32 - 1) turn (greatest_of-complements xs (omega arith) (λ k small.
    (let at = slice_index-slice_range values first past k (omega arith) in let fits = valid.each (first + k) in omega arith)))
