-- Sums of changes while they are added up.
use Rattle.std.specs.Prelude.{◌≡◌, ℕ, suc, ◌+◌, ◌*◌, ◌^◌, ◌≤◌, ℤ, pos, ◌+ℤ◌, ◌*ℤ◌, List}
use Rattle.std.specs.Int.RustNames.{unsigned_abs}
use Rattle.std.specs.Int.{w128}
use Rattle.std.proofs.Common.{ap, ap₂, ◌∙◌, SFits, to_z, of_z, arith}
use Rattle.std.proofs.lemmas.Int.{to_z-of_z, fits_signed_from_abs}
use Rattle.psi_path.proofs.IntegerLemmas.{unsigned_abs-add}
use Rattle.psi_path_packed.specs.Rises.{sum_below, total_of}
use Rattle.psi_path_packed.specs.Walker.{rise_of}

pub below-next : (g : ℕ → ℤ) (n : ℕ) (sum more : ℤ) → sum ≡ sum_below g n → more ≡ g n → sum +ℤ more ≡ sum_below g (n + 1)
below-next g n sum more is own =
    let e : suc n ≡ n + 1 = omega arith in
    ap₂ ◌+ℤ◌ is own ∙ ap (sum_below g) e

pub few-next : (n : ℕ) (sum more : ℤ) → unsigned_abs sum ≤ n * 2 ^ 104 → unsigned_abs more ≤ 2 ^ 104 → unsigned_abs (sum +ℤ more) ≤ (n + 1) * 2 ^ 104
few-next n sum more few own = (let both = unsigned_abs-add sum more in omega arith)

pub sum-fits : (a b : ℤ) → unsigned_abs a ≤ 2 ^ 121 → unsigned_abs b ≤ 2 ^ 120 → SFits w128 (a +ℤ b)
sum-fits a b first second = (let both = unsigned_abs-add a b in fits_signed_from_abs w128 (a +ℤ b) (omega arith))

-- a sum of two that fits, as the code has it
pub added-plain : (a b : ℤ) → unsigned_abs a ≤ 2 ^ 96 → unsigned_abs b ≤ 2 ^ 120 → to_z w128 (of_z w128 (to_z w128 (of_z w128 a) +ℤ to_z w128 (of_z w128 b))) ≡ a +ℤ b
added-plain a b first second =
    let a_fits : SFits w128 a = fits_signed_from_abs w128 a (omega arith) in
    let b_fits : SFits w128 b = fits_signed_from_abs w128 b (omega arith) in
    ap (λ z. to_z w128 (of_z w128 z)) (ap₂ ◌+ℤ◌ (to_z-of_z w128 a a_fits) (to_z-of_z w128 b b_fits)) ∙ to_z-of_z w128 (a +ℤ b) (sum-fits a b (omega arith) second)

-- a total as the code has it: the value at all times, and what the changes add
pub total-plain : (steps events count places place : ℕ) (rises : List ℤ) (times : ℕ → ℕ) (value own first more : ℤ)
    → first ≡ pos (steps + 1) *ℤ value → value ≡ own → unsigned_abs first ≤ 2 ^ 96
    → more ≡ sum_below (λ e. pos (times e) *ℤ rise_of rises count place e) events → count ≡ places → unsigned_abs more ≤ 2 ^ 120
    → to_z w128 (of_z w128 (to_z w128 (of_z w128 first) +ℤ to_z w128 (of_z w128 more))) ≡ total_of own steps (rise_of rises places place) times events
total-plain steps events count places place rises times value own first more first_is value_is few more_is count_is more_few =
    added-plain first more few more_few
    ∙ ap₂ ◌+ℤ◌ (first_is ∙ ap (λ z. pos (steps + 1) *ℤ z) value_is) (more_is ∙ ap (λ n. sum_below (λ e. pos (times e) *ℤ rise_of rises n place e) events) count_is)
