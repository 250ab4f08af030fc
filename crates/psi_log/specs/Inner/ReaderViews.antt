-- What a reader of logs is seen as, of its fields: the region stands in a slot, and the one before it in a spare one, unless it stayed.
use Rattle.std.specs.Prelude.{◌≡◌, ℕ, List, [], Bool}
use Rattle.psi_log_format.specs.declared.header.Header.{Header}
use Rattle.psi_log.specs.Cursor.{Cursor, IsCursor}
use Rattle.psi_log.specs.Inner.SlotsViews.{region_in, either, HasQueues, IsFilled}
use Rattle.psi_log.specs.declared.slot.RegionSlot.{RegionSlot}
use Rattle.psi_log_format.specs.Listed.{region_of, IsThere}
use Rattle.psi_log_format.specs.Rows.{States}
use Rattle.psi_log_format.specs.declared.listed_region.ListedRegion.{ListedRegion}

-- how far a log is read
abbrev pub cursor_of : Header → ℕ → RegionSlot → RegionSlot → Bool → List ℕ → Cursor
cursor_of header done slot spare stays rest = record {
  header = header;
  done = done;
  before = region_in (either stays slot spare);
  region = region_in slot;
  rest = rest;
}

-- the two regions stand in their slots
pub record IsKept (header : Header) (done : ℕ) (slot spare : RegionSlot) (stays : Bool) (rest : List ℕ) : Type 0 where
  pub cursor : IsCursor (cursor_of header done slot spare stays rest)
  pub queues : HasQueues header.queues spare
  pub region : IsFilled header.queues slot
  pub before : IsFilled header.queues (either stays slot spare)

-- how far a log is read whose reader has left its text
abbrev pub textless_of : Header → ℕ → ListedRegion → States → Cursor
textless_of header done region states = record {
  header = header;
  done = done;
  before = region_of states.states region;
  region = region_of states.states region;
  rest = [];
}

-- its region stands in the list of states
pub record IsTextless (header : Header) (done : ℕ) (region : ListedRegion) (states spare : States) : Type 0 where
  pub cursor : IsCursor (textless_of header done region states)
  pub queues : states.queues ≡ header.queues
  pub there : IsThere header.queues states.states region
  pub room : spare.queues ≡ header.queues
