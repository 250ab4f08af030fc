-- Spans of ends.
use Rattle.std.specs.Prelude.{◌≡◌, ℕ, ◌+◌, ◌<◌, ◌≤◌, List, length, get_or}
use Rattle.psi_closed_arcs.specs.declared.ends.Arc.{Arc}
use Rattle.psi_closed_arcs.specs.declared.spans.Span.{Span}
use Rattle.psi_closed_arcs.specs.declared.spans.Stretch.{Stretch}
use Rattle.psi_closed_arcs.specs.Held.{ArcList, Listed, IsSized}

-- the span at a place of a list
abbrev pub span_at : List Span → ℕ → Span
span_at spans l = get_or spans l (record { first = 0; end = 0 })

-- the ends of the queue that arcs of the list leave are in the span, which goes to the customers in all at most
pub record IsSpan (arcs : List Arc) (total l : ℕ) (span : Span) : Type 0 where
  pub inside : span.end ≤ total + 1
  pub each : (s v : ℕ) → Listed arcs l s v → (span.first ≤ s) × (s < span.end)

-- so are those of the queues from `low` to `high` in their spans
pub record AreSpans (arcs : List Arc) (total low high : ℕ) (spans : List Span) : Type 0 where
  pub each : (l : ℕ) → low ≤ l → l ≤ high → IsSpan arcs total l (span_at spans l)

-- the spans of the queues of a stretch, two of which are its `start` and its `stop`
pub record IsStretch (of : ArcList) (spans : List Span) (s : Stretch) : Type 0 where
  pub room : length spans ≡ 32
  pub told : AreSpans of.arcs of.total s.low s.high spans
  pub low_start : s.low ≤ s.start
  pub low_stop : s.low ≤ s.stop
  pub start_high : s.start ≤ s.high
  pub stop_high : s.stop ≤ s.high
  pub inside : s.high < of.levels
  pub sized : IsSized of
