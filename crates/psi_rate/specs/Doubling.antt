-- The doubling of horizons (Propp and Wilson 1996): the first among 1, 2, 4, .. at which a run has an answer, for a
-- run of any kind and an answer of any type.
use Rattle.std.specs.Prelude.{◌≡◌, ℕ, zero, suc, ◌*◌, ◌^◌, ◌<◌, ◌≤◌, Option, Some, None}

-- the answer at t, if there is one, and otherwise the rest
abbrev pub answer_or : {A : Type 0} → Option A → ℕ → Option (ℕ × A) → Option (ℕ × A)
answer_or None t rest = rest
answer_or (Some a) t rest = Some (t, a)

-- a run: the answer at each horizon, if there is one
module _ {A : Type 0} (run : ℕ → Option A) where
  -- the first of t, 2t, 4t, .., with so many doublings, at which the run has an answer, with that answer
  abbrev pub first_from : ℕ → ℕ → Option (ℕ × A)
  first_from zero t = answer_or (run t) t None
  first_from (suc more) t = answer_or (run t) t (first_from more (2 * t))

  -- the first among 1, 2, 4, .., 2^limit at which the run has an answer, with that answer
  unfoldable pub first_answer : ℕ → Option (ℕ × A)
  first_answer limit = first_from limit 1

  -- the run has no answer at the powers of two below this exponent
  pub record HasNone (exponent : ℕ) : Type 0 where
    pub each : (k : ℕ) → k < exponent → run (2 ^ k) ≡ None

  -- t is the least among 1, 2, 4, .., 2^limit at which the run has an answer, and a is that answer
  pub record IsFirst (limit t : ℕ) (a : A) : Type 0 where
    pub exponent : ℕ
    pub within : exponent ≤ limit
    pub power : t ≡ 2 ^ exponent
    pub answer : run t ≡ Some a
    pub earlier : HasNone exponent

  -- answers last: where a horizon has one, each later horizon has the same one
  pub record IsLasting : Type 0 where
    pub each : (t later : ℕ) (a : A) → t ≤ later → run t ≡ Some a → run later ≡ Some a

  -- what is told of a run's first answer: the answer at the least of 1, 2, 4, .., 2^limit that has one, or that none has
  abbrev pub TellsFirst : ℕ → Option (ℕ × A) → Type 0
  TellsFirst limit None = HasNone (suc limit)
  TellsFirst limit (Some found) = IsFirst limit found.0 found.1
