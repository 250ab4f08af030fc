-- The ways to walk the paths of a network.
use Rattle.std.specs.Prelude.{ℕ, List}
use Rattle.psi_event.specs.Law.{Function}
use Rattle.psi_path.specs.Sums.{Worth}
use Rattle.psi_path_table.specs.Table.{IsTableOf}
use Rattle.psi_path_packed.specs.ByWords.{IsWalkOf}
use Rattle.psi_table.specs.Paths.{worths_of}
use Rattle.psi_net_model.specs.Network.{Network, caps_of, functions_of}
use Rattle.psi_streams.specs.declared.walking.Way.{Way}
use Rattle.psi_streams.specs.declared.walking.Way.TheVariants.{Plain, Table, Packed}

-- a table is that of these capacities and functions, and so is a walk on packed states, also of these rewards
abbrev pub Walks : (caps : List ℕ) → List Function → List Worth → Way → Type 0
Walks caps functions worths Plain = Unit {0}
Walks caps functions worths (Table table) = IsTableOf caps functions table
Walks caps functions worths (Packed packed) = IsWalkOf caps functions worths packed

-- it walks the paths of a network
abbrev pub IsWayOf : Network → Way → Type 0
IsWayOf net way = Walks (caps_of net) (functions_of net) (worths_of net) way
