-- Lists of rises while they are filled.
use Rattle.std.specs.Prelude.{◌≡◌, ℕ, ◌+◌, ◌*◌, ◌^◌, ◌<◌, ◌≤◌, ℤ, pos, List, length, slice_index_or}
use Rattle.std.specs.Int.RustNames.{unsigned_abs}
use Rattle.psi_event.specs.Law.{Function}
use Rattle.psi_path.specs.Sums.{Worth}
use Rattle.psi_path_packed.specs.Rises.{IsRise}
use Rattle.psi_path_packed.specs.Walker.{rise_of}

-- after the numbers of a list stand so many more
pub record IsLonger (old : List ℤ) (count : ℕ) (more : ℕ → ℤ) (new : List ℤ) : Type 0 where
  pub long : length new ≡ length old + count
  pub kept : (i : ℕ) → i < length old → slice_index_or new i (pos 0) ≡ slice_index_or old i (pos 0)
  pub each : (i : ℕ) → i < count → slice_index_or new (length old + i) (pos 0) ≡ more i

-- there are the rises of so many quantities by the first n events
pub record AreRisesUpTo (caps : List ℕ) (functions : List Function) (count : ℕ) (worth : ℕ → Worth) (n : ℕ) (rises : List ℤ) : Type 0 where
  pub long : length rises ≡ n * count
  pub small : (e : ℕ) → e < n → (i : ℕ) → i < count → unsigned_abs (rise_of rises count i e) ≤ 2 ^ 40
  pub each : (e : ℕ) → e < n → (i : ℕ) → i < count → IsRise caps (slice_index_or functions e (λ y. y)) (worth i) (rise_of rises count i e)
