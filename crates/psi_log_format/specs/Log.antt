-- What a log holds, and the counts, ranges and orders that each log meets.
use Rattle.std.specs.Prelude.{◌≡◌, ◌⊎◌, ℕ, ◌<◌, ◌≤◌, ◌^◌, ◌==◌, List, length, slice_index, if◌then◌else◌}
use Rattle.psi_state.specs.State.{Corners, IsBelow}
use Rattle.psi_state.specs.Members.{In}
use Rattle.psi_state.specs.Ascending.{IsRising}
use Rattle.psi_state.specs.declared.outcome.Step.{Step}
use Rattle.psi_log_format.specs.declared.header.Header.{Header}

-- a region of states
pub data LogRegion : Type 0 where
  -- the states between two corners
  in_box : (bounds : Corners) → LogRegion
  -- the states of a list
  in_set : (states : List (List ℕ)) → LogRegion

-- a step, and the region after it
pub record Entry : Type 0 where
  pub step : Step
  pub region : LogRegion

-- a log: its header, the region at which the run begins, the steps from the oldest on, and the state at time zero
pub record Certificate : Type 0 where
  pub header : Header
  pub begin : LogRegion
  pub entries : List Entry
  pub final : List ℕ

-- the greatest horizon of a version, which is also the greatest number of a step
abbrev pub greatest_horizon : ℕ → ℕ
greatest_horizon version = if version == 1 then 1048576 else 4194304

-- a header in its ranges
pub record IsHeader (h : Header) : Type 0 where
  pub version : (h.version ≡ 1) ⊎ (h.version ≡ 2)
  pub some : 1 ≤ h.queues
  pub few : h.queues ≤ 32
  pub seed : h.seed < 2 ^ 64
  pub stream : h.stream < 2 ^ 64
  pub least : 1 ≤ h.horizon
  pub most : h.horizon ≤ greatest_horizon h.version

-- states of so many queues
module _ (queues : ℕ) where
  -- a state of so many queues: one number of 16 bits for each
  pub record IsState (x : List ℕ) : Type 0 where
    pub count : length x ≡ queues
    pub each : (i : ℕ) → slice_index x i < 2 ^ 16

  -- a box of states of so many queues
  pub record IsBox (b : Corners) : Type 0 where
    pub lo : IsState b.lo
    pub hi : IsState b.hi
    pub below : IsBelow b.lo b.hi

  -- 1 to 4,096 states of so many queues, in ascending lexicographic order
  pub record IsSet (xs : List (List ℕ)) : Type 0 where
    pub some : 1 ≤ length xs
    pub few : length xs ≤ 4096
    pub each : (x : List ℕ) → In x xs → IsState x
    pub rising : IsRising xs

  -- a region of states of so many queues
  abbrev pub IsRegion : LogRegion → Type 0
  IsRegion (in_box bounds) = IsBox bounds
  IsRegion (in_set states) = IsSet states

-- a step and the region after it, under a header
pub record IsEntry (h : Header) (e : Entry) : Type 0 where
  pub least : 1 ≤ e.step.number
  pub most : e.step.number ≤ greatest_horizon h.version
  pub event : e.step.event ≤ 1024
  pub region : IsRegion h.queues e.region

-- what each log meets: its header, regions and state are in their ranges, and it has as many steps as its horizon
pub record IsLog (c : Certificate) : Type 0 where
  pub header : IsHeader c.header
  pub begin : IsRegion c.header.queues c.begin
  pub count : length c.entries ≡ c.header.horizon
  pub entries : (e : Entry) → In e c.entries → IsEntry c.header e
  pub final : IsState c.header.queues c.final
