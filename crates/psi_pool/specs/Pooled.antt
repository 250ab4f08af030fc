-- What a pool is seen as.
use Rattle.std.specs.Prelude.{ℕ, List}
use Rattle.psi_pool.specs.Paced.{Paced}

-- a set of states, as the ascending list of them, and how many there is room for; and after how many steps the nodes of repeats are given
-- back, and how many of these are left: where all are, no state stands in two nodes
pub record Pooled : Type 0 where
  pub most : ℕ
  pub states : List (List ℕ)
  pub pace : Paced
