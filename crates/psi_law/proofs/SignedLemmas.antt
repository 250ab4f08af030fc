-- Means of values that may be negative, by how far a value is above 0 and how far below.
use Rattle.std.specs.Prelude.{◌≡◌, ℕ, ◌+◌, ◌*◌, ◌^◌, ◌≤◌, ℤ, pos, negsuc, ◌+ℤ◌, ◌-ℤ◌, ◌*ℤ◌, ◌≤ℤ◌, List, refl}
use Rattle.std.proofs.Common.{ap, arith}
use Rattle.std.proofs.lemmas.Int.{ints}
use Rattle.std.proofs.lemmas.Grind.{common_steps}
use borrow.Author.Differences.{up, down}
use Rattle.psi_state.specs.declared.Outcome.{Outcome}
use Rattle.psi_law.specs.Counting.{Words, positive, negative}
use Rattle.psi_law.specs.Wheel.{word_count}
use Rattle.psi_law.specs.Chains.{Chain, whole, weighted}
use Rattle.psi_law.specs.Samples.{unmet, sum_met, HasSignedMean}
use Rattle.psi_law.proofs.ChainLemmas.{Own}
use Rattle.psi_law.proofs.LawLemmas.{MeetsAt, IsSteady, parts-mean}

positive-up : (z : ℤ) → (positive z ≡ up z) × (negative z ≡ down z)
positive-up (pos n) = (refl, refl)
positive-up (negsuc n) = (refl, refl)

parts-order : (l z : ℤ) → l ≤ℤ z → positive l + negative z ≤ negative l + positive z
parts-order l z order = (let e = positive-up l in let f = positive-up z in omega (arith, ints))

-- an inequality of products, by natural numbers whose differences the factors are
times-under : (s w p n a b : ℕ) (z y : ℤ) → up z + n ≡ down z + p → up y + b ≡ down y + a → s * p + b * w ≤ a * w + s * n → (pos s *ℤ z) ≤ℤ (y *ℤ pos w)
times-under s w p n a b z y first second under =
    let one : s * (up z + n) ≡ s * (down z + p) = ap (λ m. s * m) first in
    let two : (up y + b) * w ≡ (down y + a) * w = ap (λ m. m * w) second in
    omega (arith, ints)

times-over : (s w p n a b : ℕ) (z y : ℤ) → up z + n ≡ down z + p → up y + b ≡ down y + a → a * w + s * n ≤ s * p + b * w → (y *ℤ pos w) ≤ℤ (pos s *ℤ z)
times-over s w p n a b z y first second over =
    let one : s * (up z + n) ≡ s * (down z + p) = ap (λ m. s * m) first in
    let two : (up y + b) * w ≡ (down y + a) * w = ap (λ m. m * w) second in
    omega (arith, ints)

less-parts : (p n : ℕ) → up (pos p -ℤ pos n) + n ≡ down (pos p -ℤ pos n) + p
less-parts p n = omega (arith, ints)

more-parts : (p n u : ℕ) (l : ℤ) → up ((pos p -ℤ pos n) +ℤ (l *ℤ pos u)) + (n + negative l * u) ≡ down ((pos p -ℤ pos n) +ℤ (l *ℤ pos u)) + (p + positive l * u)
more-parts p n u l = grind (arith, common_steps)

pub signed-mean : (chain : Chain) (weight : List ℕ → ℕ) (n : ℕ) (end : Words → List ℕ → List ℕ) → IsSteady chain weight n end → (sample : Words → Outcome)
    → ((past : Words) (x : List ℕ) → Own chain x → MeetsAt (end past x) (sample past)) → (value : List ℕ → ℤ) (low high : ℤ)
    → ((x : List ℕ) → Own chain x → low ≤ℤ value x) → ((x : List ℕ) → Own chain x → value x ≤ℤ high) → HasSignedMean sample n chain weight value low high
signed-mean chain weight n end steady sample meets value low high above below =
    let ups : List ℕ → ℕ = λ x. positive (value x) in
    let downs : List ℕ → ℕ = λ x. negative (value x) in
    let s = whole chain weight in
    let w = word_count ^ n in
    let u = unmet sample n in
    let p = sum_met sample n ups in
    let d = sum_met sample n downs in
    let a = weighted chain weight ups in
    let b = weighted chain weight downs in
    let least = parts-mean chain weight n end steady sample meets ups downs (positive low) (negative low) (λ x own. parts-order low (value x) (above x own)) in
    let most = parts-mean chain weight n end steady sample meets downs ups (negative high) (positive high) (λ x own. (let order = parts-order (value x) high (below x own) in omega arith)) in
    record {
      least = times-under s w (p + positive low * u) (d + negative low * u) a b ((pos p -ℤ pos d) +ℤ (low *ℤ pos u)) (pos a -ℤ pos b) (more-parts p d u low) (less-parts a b) (omega arith);
      most = times-over s w (p + positive high * u) (d + negative high * u) a b ((pos p -ℤ pos d) +ℤ (high *ℤ pos u)) (pos a -ℤ pos b) (more-parts p d u high) (less-parts a b) (omega arith);
    }
