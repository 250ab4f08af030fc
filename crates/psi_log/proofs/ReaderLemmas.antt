-- A reader of logs that goes on by a step, and the regions that it reads.
use Rattle.std.specs.Prelude.{◌≡◌, ℕ, ◌+◌, ◌<◌, List, Bool, true, false, Ok, refl}
use Rattle.std.proofs.Common.{ap, sym, ◌∙◌, subst, arith}
use Rattle.psi_state.specs.declared.outcome.Step.{Step}
use Rattle.psi_log_format.specs.declared.header.Header.{Header}
use Rattle.psi_log_words.specs.Regions.{box_before}
use Rattle.psi_log_scan.specs.Scanned.{next_step}
use Rattle.psi_log.specs.Cursor.{Cursor, begun, IsCursor}
use Rattle.psi_log.specs.Inner.SlotsViews.{region_in, either, HasQueues, IsFilled}
use Rattle.psi_log.specs.Inner.ReaderViews.{cursor_of, IsKept}
use Rattle.psi_log.specs.declared.slot.RegionSlot.{RegionSlot}
use Rattle.psi_log.proofs.HeaderLemmas.{header_found, begin_line_found}
use Rattle.psi_log.proofs.PassLemmas.{begun_parts}
use Rattle.psi_log_scan.proofs.LineLemmas.{next_found}

-- what a reader holds after a step that leaves the region in its place
module _ (h : Header) (done : ℕ) (rest rest' : List ℕ) (slot spare : RegionSlot) (old : Bool) (kept : IsKept h done slot spare old rest) (small : done < h.horizon) where
  pub stays_kept : (to : RegionSlot) (stays : Bool) → stays ≡ true → HasQueues h.queues to → IsKept h (done + 1) slot to stays rest'
  stays_kept to false is queues = absurd cc
  stays_kept to true is queues = record {
    cursor = record { header = kept.cursor.header; before = kept.cursor.region; region = kept.cursor.region; done = omega arith };
    queues = queues;
    region = kept.region;
    before = kept.region;
  }

  behind : (step : Step) (to : RegionSlot) → IsFilled h.queues to
      → next_step h (7 + done) (box_before h.version (region_in slot)) rest ≡ Ok (record { step = step; region = region_in to }, rest')
      → IsKept h (done + 1) to slot false rest'
  behind step to filled next = record {
    cursor = record {
      header = kept.cursor.header;
      before = kept.cursor.region;
      region = (next_found h (7 + done) (region_in slot) rest (record { step = step; region = region_in to }, rest') kept.cursor.header kept.cursor.region next).1.region;
      done = omega arith;
    };
    queues = kept.region.states;
    region = filled;
    before = kept.region;
  }

  -- and after one that puts it into the spare slot
  pub moves_kept : (step : Step) (from to slot' spare' : RegionSlot) (stays : Bool) → from ≡ slot → slot' ≡ to → spare' ≡ slot → stays ≡ false → (stays ≡ false → IsFilled h.queues to)
      → next_step h (7 + done) (box_before h.version (region_in from)) rest ≡ Ok (record { step = step; region = either stays (region_in from) (region_in to) }, rest')
      → IsKept h (done + 1) slot' spare' stays rest'
  moves_kept step from to slot' spare' true first one two is filled next = absurd cc
  moves_kept step from to slot' spare' false first one two is filled next =
      subst (λ (s : RegionSlot). IsKept h (done + 1) s spare' false rest') (sym one)
      (subst (λ (s : RegionSlot). IsKept h (done + 1) to s false rest') (sym two) (behind step to (filled refl)
      (ap (λ (s : RegionSlot). next_step h (7 + done) (box_before h.version (region_in s)) rest) (sym first) ∙ next)))

-- what is read before the steps is in its ranges
pub begun_found : (text : List ℕ) (c : Cursor) → begun text ≡ Ok c → IsCursor c × (c.done ≡ 0)
begun_found text c r =
    let parts = begun_parts text c r in
    let is = (header_found text parts.0 parts.2).1 in
    let region = (begin_line_found parts.0.0.queues parts.0.1 parts.1 is.some is.few parts.3).1 in
    subst (λ (k : Cursor). IsCursor k × (k.done ≡ 0)) parts.4 (record { header = is; before = region; region = region; done = omega arith }, refl)

-- a reader keeps what it begins with
pub begins_kept : (h : Header) (slot spare : RegionSlot) (rest : List ℕ) → IsCursor (cursor_of h 0 slot spare true rest) → IsFilled h.queues slot → HasQueues h.queues spare
    → IsKept h 0 slot spare true rest
begins_kept h slot spare rest cursor filled queues = record { cursor = cursor; queues = queues; region = filled; before = filled }

pub opens_kept : (h : Header) (begin slot empty spare : RegionSlot) (text rest : List ℕ) → begun text ≡ Ok (record { header = h; done = 0; before = region_in begin; region = region_in begin; rest = rest })
    → IsFilled h.queues begin → HasQueues h.queues empty → slot ≡ begin → spare ≡ empty → IsKept h 0 slot spare true rest
opens_kept h begin slot empty spare text rest is filled queues one two =
    subst (λ (s : RegionSlot). IsKept h 0 s spare true rest) (sym one)
    (subst (λ (s : RegionSlot). IsKept h 0 begin s true rest) (sym two) (begins_kept h begin empty rest (begun_found text _ is).0 filled queues))
