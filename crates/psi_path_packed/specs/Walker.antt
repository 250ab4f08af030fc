-- What a walk on packed states holds of its network.
use Rattle.std.specs.Prelude.{◌≡◌, ℕ, ◌+◌, ◌*◌, ◌^◌, ◌<◌, ◌≤◌, ℤ, pos, List, [], ◌∷◌, ◌++◌, length, slice_index, slice_index_or}
use Rattle.std.specs.Int.RustNames.{unsigned_abs}
use Rattle.psi_event.specs.Law.{Function}
use Rattle.psi_event.specs.Idle.{unchanged}
use Rattle.psi_follow_packed.specs.Programs.{Prepared, Prepares}
use Rattle.psi_path.specs.Sums.{Worth, worth_at}
use Rattle.psi_path_packed.specs.Rises.{AreRises}

-- the events on packed states, and by how much they change the numbers of customers and the rewards: those of event 0 first
pub record Walker : Type 0 where
  pub prepared : Prepared
  pub queues : List ℤ
  pub rewards : List ℤ

-- the rise of quantity i by event e, where there are so many quantities
abbrev pub rise_of : List ℤ → (count i e : ℕ) → ℤ
rise_of rises count i e = slice_index_or rises (e * count + i) (pos 0)

-- there is a small rise of each of so many quantities by each of so many events
pub record AreSmallRises (events count : ℕ) (rises : List ℤ) : Type 0 where
  pub long : length rises ≡ events * count
  pub small : (e : ℕ) → e < events → (i : ℕ) → i < count → unsigned_abs (rise_of rises count i e) ≤ 2 ^ 40

-- it walks paths of the network of these functions, with these rewards: its last event is idle
pub record IsWalkerOf (words : ℕ) (caps : List ℕ) (functions : List Function) (worths : List Worth) (walker : Walker) : Type 0 where
  pub prepared : Prepares words caps (functions ++ unchanged ∷ []) walker.prepared
  pub queue_rises : AreSmallRises (length functions) (length caps) walker.queues
  pub queues : (q : ℕ) → q < length caps → AreRises caps functions (λ x. pos (slice_index x q)) (rise_of walker.queues (length caps) q)
  pub reward_rises : AreSmallRises (length functions) (length worths) walker.rewards
  pub rewards : (r : ℕ) → r < length worths → AreRises caps functions (worth_at worths r) (rise_of walker.rewards (length worths) r)
