-- What a sparse table keeps.
use Rattle.std.specs.Prelude.{◌≡◌, ℕ, ◌+◌, ◌^◌, ◌<◌, ◌≤◌, ◌↔◌, Bool, false, IsTrue, List, length, map, min, slice_index, slice_index_or}
use Rattle.psi_index.specs.Extremes.{AreLeast, IsRising, IsValueList, complement}
use Rattle.psi_index.specs.declared.level.Level.{Level}

-- each number is the lesser of one of the halves and the one so many places on
pub record IsJoined (halves : List ℕ) (half : ℕ) (joined : List ℕ) : Type 0 where
  pub count : length joined + half ≡ length halves
  pub each : (i : ℕ) → i < length joined → slice_index joined i ≡ min (slice_index halves i) (slice_index halves (i + half))

-- the levels of the widths 2, 4, 8 and so on
pub record AreLevels (values : List ℕ) (levels : List Level) : Type 0 where
  pub each : (j : ℕ) (d : Level) → j < length levels → AreLeast values (2 ^ (j + 1)) (slice_index_or levels j d).least.items

-- the values, and the levels up to their number
pub record IsSparse (values : List ℕ) (levels : List Level) : Type 0 where
  pub levels_of : AreLevels values levels
  pub enough : (e : ℕ) → 2 ^ e ≤ length values → e ≤ length levels

-- the sparse tables of values that don't rise: their levels, their complements and the levels of these
pub record AreSparseTables (values : List ℕ) (low : List Level) (complements : List ℕ) (high : List Level) (rises : Bool) : Type 0 where
  pub valid : IsValueList values
  pub risen : IsTrue rises ↔ IsRising values
  pub turned : rises ≡ false → complements ≡ map complement values
  pub least : rises ≡ false → IsSparse values low
  pub most : rises ≡ false → IsSparse complements high
