-- What the nodes of a set and their buckets keep, and what a pool keeps.
use Rattle.std.specs.Prelude.{◌≡◌, ℕ, ◌+◌, ◌*◌, ◌≤◌, List, IsTrue, length}
use Rattle.psi_pool.specs.declared.state_table.StateTable.{StateTable}
use Rattle.psi_state.specs.Sets.{ascending}
use Rattle.psi_pool.specs.Inner.NodesKept.{states, AreLinked}
use Rattle.psi_pool.specs.Paced.{Paced, IsPace}

-- the states of the nodes in use, in the order of these
abbrev pub held : StateTable → List (List ℕ)
held t = states t.nodes.items t.len

-- the nodes in use are the first ones, and where they are linked, these are the links and no state stands twice
pub record IsStateTable (t : StateTable) : Type 0 where
  pub small : length t.nodes.items ≤ 4096
  pub buckets : length t.heads.items ≡ 4 * length t.nodes.items + 1
  pub some : 1 ≤ t.used
  pub few : t.used ≤ length t.heads.items
  pub fits : t.len ≤ length t.nodes.items
  pub links : IsTrue t.is_linked → AreLinked t.used t.nodes.items t.heads.items t.len

-- what a pool keeps: a table for as many states as it has room for, and room to list them all; and where all steps of the pace are left, as many nodes are
-- in use as there are states
pub record IsPool (t : StateTable) (most room : ℕ) (pace : Paced) : Type 0 where
  pub table : IsStateTable t
  pub count : length t.nodes.items ≡ most
  pub listed : most ≤ room
  pub paced : IsPace pace
  pub once : pace.left ≡ pace.every → t.len ≡ length (ascending (held t))
