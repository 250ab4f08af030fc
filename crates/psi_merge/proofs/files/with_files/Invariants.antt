-- The files before it have a report together, whatever files hold that agrees with the answers.
use Rattle.std.proofs.Common.{◌≡◌, ◌≤◌, ◌++◌, ℕ, List, Option, map, take}
use Rattle.std.specs.Prelude.{string_bytes}
use Rattle.psi_io.specs.Shelf.{AgreesSince}
use Rattle.psi_merge.specs.Reply.{with_files}
use Rattle.psi_merge.specs.Seen.{read_of}
use Rattle.psi_merge.specs.Spared.{AreNextGiven}
use Rattle.psi_merge.proofs.FindingLemmas.{HasReport}
use Rattle.psi_merge.proofs.files.with_files.Given as goal

abbrev pub invariant-loop-name : goal.invariant-loop-name
invariant-loop-name g l = record {
  same : g.F.Shelf.told l.shelf ≡ g.F.Shelf.told l.fn.shelf;
  counts : (other : List ℕ) → g.F.Shelf.faults l.fn.shelf other ≤ g.F.Shelf.faults l.shelf other;
  asked : g.F.Shelf.asked l.shelf ≡ g.F.Shelf.asked l.fn.shelf ++ map read_of (map string_bytes (take l.name-index l.names));
  gives : (other : List ℕ) → g.F.Shelf.gives l.fn.shelf other → g.F.Shelf.gives l.shelf other;
  spared : AreNextGiven (g.F.Shelf.gives l.fn.shelf) (with_files (g.F.Shelf.told l.fn.shelf) l.fn.first) (map string_bytes l.names)
      → g.F.Shelf.faults l.shelf ≡ g.F.Shelf.faults l.fn.shelf;
  agrees : AgreesSince (g.F.Shelf.told l.fn.shelf) (g.F.Shelf.gave l.fn.shelf) (g.F.Shelf.gave l.shelf);
  has : (told : List ℕ → Option (List ℕ)) → AgreesSince told (g.F.Shelf.gave l.fn.shelf) (g.F.Shelf.gave l.shelf)
      → HasReport (with_files told l.fn.first) (map string_bytes (take l.name-index l.names)) l.whole;
}
