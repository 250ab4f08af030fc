-- What the fields of a reader of logs are seen as.
use Rattle.std.specs.Prelude.{◌≡◌, ℕ, ◌≤◌, ◌++◌, ◌∷◌, [], List, length, codes, drop, Ok, Option, IfSome, Bool, true, false}
use Rattle.std.specs.Fmt.{decimal}
use Rattle.psi_state.specs.State.{Corners}
use Rattle.psi_state.specs.declared.outcome.Step.{Step}
use Rattle.psi_log_format.specs.declared.header.Header.{Header}
use Rattle.psi_log_format.specs.Log.{LogRegion, Entry, greatest_horizon}
use Rattle.psi_log_format.specs.Room.{spaced_words}
use Rattle.psi_log_format.specs.Listed.{region_of, IsThere}
use Rattle.psi_log_scan.specs.LinesViews.{IsLast}
use Rattle.psi_log_scan.specs.Scanned.{Stands, AreChanged, next_step}
use Rattle.psi_log.specs.declared.slot.RegionSlot.{RegionSlot}
use Rattle.psi_log.specs.declared.steps.Line.{Line}
use Rattle.psi_log_format.specs.declared.listed_region.ListedRegion.{ListedRegion}
use Rattle.psi_log_format.specs.declared.listed_region.ListedRegion.TheVariants.{Box, Set}

-- the region that stands in a slot
abbrev pub region_in : RegionSlot → LogRegion
region_in s = region_of s.states.states s.region

-- a step and the region after it
abbrev pub entry_of : List (List ℕ) → Line → Entry
entry_of states line = record { step = line.step; region = region_of states line.region }

-- the region after it is there
abbrev pub HasRegion : ℕ → List (List ℕ) → Line → Type 0
HasRegion queues states line = IsThere queues states line.region

-- of two slots, the one that is meant
abbrev pub either : {A : Type 0} → Bool → A → A → A
either true first second = first
either false first second = second

-- states of so many queues can be put into a slot
abbrev pub HasQueues : ℕ → RegionSlot → Type 0
HasQueues queues s = s.states.queues ≡ queues

-- a region of so many queues stands in a slot; where the end of a set's line is kept, that set is the region
pub record IsFilled (queues : ℕ) (s : RegionSlot) : Type 0 where
  pub states : HasQueues queues s
  pub there : IsThere queues s.states.states s.region
  pub last : IfSome s.last (λ set. (s.region ≡ Set set.first set.count) × IsLast queues s.states.states set)

-- a region is the box that changes make of another which stand in the text from one place to another
abbrev pub IsChangedBox : ℕ → Corners → List ℕ → ℕ → ℕ → ListedRegion → Type 0
IsChangedBox queues from text at end (Box to) = (length to.lo ≡ queues) × AreChanged queues from text at end to
IsChangedBox queues from text at end (Set first count) = ⊥

-- the words of a step begin a text, up to a place
pub record BeginsWith (version : ℕ) (text : List ℕ) (at : ℕ) (s : Step) : Type 0 where
  pub least : 1 ≤ s.number
  pub most : s.number ≤ greatest_horizon version
  pub event : s.event ≤ 1024
  pub there : Stands text 0 at (codes "step" ++ spaced_words (decimal s.number ∷ decimal s.event ∷ []))

-- after the words of a step, which end at a place, its line goes on up to another with this region
abbrev pub GoesOn : ℕ → Option Corners → List ℕ → ℕ → ℕ → LogRegion → Type 0
GoesOn queues before text at end region =
    (h : Header) (n : ℕ) (s : Step) → h.queues ≡ queues → BeginsWith h.version text at s → next_step h n before text ≡ Ok (record { step = s; region = region }, drop end text)
