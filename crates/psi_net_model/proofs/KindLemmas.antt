-- When a kind is accepted.
use Rattle.std.specs.Prelude.{◌≡◌, ℕ, ◌<◌, List, length, false, None, refl}
use Rattle.std.proofs.Common.{arith}
use Rattle.psi_state.specs.State.{AreCapacities}
use Rattle.psi_route.specs.Accepted.{IsSource}
use Rattle.psi_kinds.specs.Refusals.{lacks_queues, repeats_queue, targets_itself, lacks_tables, is_out_of_size, refusal_of_parts, refusal_of}
use Rattle.psi_kinds.specs.declared.Kind.{Kind}
use Rattle.psi_net_model.specs.Expansion.{first_server}

-- where no cause is there, nothing is refused
pub accepted : (caps : List ℕ) (kind : Kind) → lacks_queues kind ≡ false → repeats_queue kind ≡ false → targets_itself kind ≡ false → lacks_tables caps kind ≡ false
    → is_out_of_size caps kind ≡ false → refusal_of_parts caps kind ≡ None → refusal_of caps kind ≡ None
unfolding refusal_of
accepted caps kind queues once away tables size parts = rw (queues, once, away, tables, size, parts) refl

-- a queue as a source, with its first server
pub first_source : (caps : List ℕ) → AreCapacities caps → (q : ℕ) → q < length caps → IsSource caps (first_server q)
first_source caps valid q small = record { queue = small; least = omega arith; most = valid.least q small }
