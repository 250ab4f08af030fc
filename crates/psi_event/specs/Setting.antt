-- Numbers that are put at one queue after another.
use Rattle.std.specs.Prelude.{◌≡◌, ◌≢◌, ℕ, ◌<◌, List, length, slice_index}

-- the queues of the first n places have such a number, and the others have what they had
pub record AreSet (queue : ℕ → ℕ) (E : ℕ → ℕ → Type 0) (start ends : List ℕ) (n : ℕ) : Type 0 where
  pub count : length ends ≡ length start
  pub set : (i : ℕ) → i < n → E i (slice_index ends (queue i))
  pub rest : (p : ℕ) → ((i : ℕ) → i < n → queue i ≢ p) → slice_index ends p ≡ slice_index start p
