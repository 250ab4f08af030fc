-- The least horizon of any length: the first among 1, 2, 3, .. at which a run has an answer, for a run of any kind and an
-- answer of any type.
use Rattle.std.specs.Prelude.{◌≡◌, ℕ, zero, suc, ◌<◌, ◌≤◌, Option, Some, None}
use Rattle.psi_rate.specs.Doubling.{answer_or}

-- a run: the answer at each horizon, if there is one
module _ {A : Type 0} (run : ℕ → Option A) where
  -- the first of t, t + 1, t + 2, .., so many, at which the run has an answer, with that answer
  abbrev pub least_from : ℕ → ℕ → Option (ℕ × A)
  least_from zero t = None
  least_from (suc more) t = answer_or (run t) t (least_from more (suc t))

  -- the first among 1, 2, 3, .., most at which the run has an answer, with that answer
  unfoldable pub least_answer : ℕ → Option (ℕ × A)
  least_answer most = least_from most 1

  -- the run has no answer at the horizons from 1 on that are below this one
  pub record HasNoneBelow (t : ℕ) : Type 0 where
    pub each : (k : ℕ) → 1 ≤ k → k < t → run k ≡ None

  -- t is the least horizon from 1 to most at which the run has an answer, and a is that answer
  pub record IsLeast (most t : ℕ) (a : A) : Type 0 where
    pub some : 1 ≤ t
    pub within : t ≤ most
    pub answer : run t ≡ Some a
    pub earlier : HasNoneBelow t

  -- what is told of a run's least horizon: it with its answer, or that no horizon from 1 to most has one
  abbrev pub TellsLeast : ℕ → Option (ℕ × A) → Type 0
  TellsLeast most None = HasNoneBelow (suc most)
  TellsLeast most (Some found) = IsLeast most found.0 found.1
