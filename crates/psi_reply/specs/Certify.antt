-- The log of a sample.
use Rattle.std.specs.Prelude.{ℕ, List}
use Rattle.psi_log_format.specs.Log.{Certificate}
use Rattle.psi_log_writer.specs.Recorded.{recorded, header_of}
use Rattle.psi_net_model.specs.Network.{Network, caps_of}
use Rattle.psi_reply.specs.Sample.{functions_by_time}
use Rattle.psi_reply.specs.Replay.{events_by_time}

-- the log of the region run of a horizon that ends with this state, under the words of a seed and a stream
unfoldable pub certificate : Network → (seed stream horizon : ℕ) (state : List ℕ) → Certificate
certificate net seed stream horizon state =
    recorded net.split (functions_by_time net seed stream) (caps_of net) (events_by_time net seed stream)
    (header_of (caps_of net) seed stream horizon) state
