-- How far two tables were compared.
use Rattle.std.proofs.Common.{ℕ, ◌+◌, ◌<◌, ◌≤◌, List, length, slice_index}

-- the first values are below each of the others from a place on, with more added
pub record Passed (values others : List ℕ) (more near place : ℕ) : Type 0 where
  pub each : (k w : ℕ) → k < near → place ≤ w → w < length others → slice_index values k < slice_index others w + more
