-- A table of the ranks of what each event of a network makes of each state.
use Rattle.std.specs.Prelude.{◌≡◌, ℕ, ◌+◌, ◌*◌, ◌<◌, ◌≤◌, List, length, slice_index, slice_index_or}
use Rattle.psi_state.specs.State.{all_states}
use Rattle.psi_exact.specs.Ranks.{rank_of, state_at}

-- the ranks of what each of the first `count` functions makes of each state: function after function, each in the order of the states; after the last function come the states themselves
pub record AreRows (caps : List ℕ) (functions : List (List ℕ → List ℕ)) (count : ℕ) (ranks : List ℕ) : Type 0 where
  pub whole : length ranks ≡ count * length (all_states caps)
  pub each : (e r : ℕ) → e < count → r < length (all_states caps)
      → slice_index ranks (e * length (all_states caps) + r) ≡ rank_of caps (slice_index_or functions e (λ x. x) (state_at caps r))

-- a table: the capacities, and the ranks
pub record Table : Type 0 where
  pub caps : List ℕ
  pub ranks : List ℕ

-- it is that of these capacities and functions, with a row more for idle steps
pub record IsTableOf (caps : List ℕ) (functions : List (List ℕ → List ℕ)) (table : Table) : Type 0 where
  pub same : table.caps ≡ caps
  pub few : length table.ranks ≤ 65536
  pub rows : AreRows caps functions (length functions + 1) table.ranks
