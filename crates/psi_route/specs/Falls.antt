-- Falls of a key past another one, and the least of them that are found so far.
use Rattle.std.specs.Prelude.{◌≡◌, ℕ, ◌+◌, ◌<◌, slice_index, Option, MatchOption, true, false}
use Rattle.psi_route.specs.Routing.{Shape, routing, crosses}

-- the keys of the places a and b of a route of this shape
module _ (s : Shape) (a b : ℕ) where
  -- none of the first numbers of customers at place a lets its key fall past that of place b with w customers
  pub record NoFall (w past : ℕ) : Type 0 where
    pub each : (v : ℕ) → v + 1 < past → crosses (routing s) a b v w ≡ false

  -- how many numbers of customers at place a there are to look at: up to those of the fall that is found, or all
  abbrev pub IsPast : Option (ℕ × ℕ) → ℕ → Type 0
  IsPast found past = MatchOption found (past ≡ slice_index s.caps (slice_index s.targets a)) (λ p. past ≡ p.0 + 1)

  -- v is the least number that does
  pub record IsFall (w v : ℕ) : Type 0 where
    pub here : crosses (routing s) a b v w ≡ true
    pub before : (u : ℕ) → u < v → crosses (routing s) a b u w ≡ false

  -- no key falls past that of place b with fewer than n customers
  pub record NoFalls (n : ℕ) : Type 0 where
    pub each : (v w : ℕ) → w < n → crosses (routing s) a b v w ≡ false

  -- p.0 is the least number at place a, and p.1 the least at place b with it, among the falls past fewer than n customers
  pub record IsLeastFall (n : ℕ) (p : ℕ × ℕ) : Type 0 where
    pub few : p.1 < n
    pub here : crosses (routing s) a b p.0 p.1 ≡ true
    pub before : (v w : ℕ) → w < n → v < p.0 → crosses (routing s) a b v w ≡ false
    pub at : (w : ℕ) → w < p.1 → crosses (routing s) a b p.0 w ≡ false

  -- what is found so far
  abbrev pub AreFalls : ℕ → Option (ℕ × ℕ) → Type 0
  AreFalls n found = MatchOption found (NoFalls n) (λ p. IsLeastFall n p)
