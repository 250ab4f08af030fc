-- The bucket of a state in a table of so many.
use Rattle.std.specs.Prelude.{ℕ, ◌*◌, ◌/◌, ◌^◌, List}
use Rattle.psi_state.specs.Hashing.{hash}

-- the bucket of a state where so many buckets are in use
unfoldable pub bucket : ℕ → List ℕ → ℕ
bucket used x = hash x * used / 2 ^ 32
