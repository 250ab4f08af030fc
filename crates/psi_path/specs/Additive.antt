-- Rewards that are sums over the queues of weight times number held, but for a constant.
use Rattle.std.specs.Prelude.{◌≡◌, ℕ, ◌+◌, ◌<◌, ◌+ℤ◌, List, length, slice_index}
use Rattle.psi_state.specs.State.{IsBelow}
use Rattle.psi_path.specs.Sums.{Worth}

-- the worth rises by as much from x to y as from u to v, where the customers of each queue do
pub record IsAdditive (caps : List ℕ) (worth : Worth) : Type 0 where
  pub each : (x y u v : List ℕ) → IsBelow x caps → IsBelow y caps → IsBelow u caps → IsBelow v caps
      → ((q : ℕ) → q < length caps → slice_index y q + slice_index u q ≡ slice_index x q + slice_index v q)
      → worth y +ℤ worth u ≡ worth x +ℤ worth v
