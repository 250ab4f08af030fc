-- Lines that go on after the words of their step, with the region after it.
use Rattle.std.specs.Prelude.{◌≡◌, ℕ, ◌+◌, ◌≤◌, List, [], ◌∷◌, ◌++◌, length, take, drop, codes, Option, Some, IfSome}
use Rattle.std.specs.List.{slice_get}
use Rattle.std.proofs.Common.{ap, sym, ◌∙◌, subst, arith}
use Rattle.std.proofs.lemmas.Option.{slice_get_within, get_or_from_slice_get}
use Rattle.std.proofs.lemmas.List.{drop_more}
use Rattle.psi_state.specs.State.{Corners}
use Rattle.psi_log_format.specs.Log.{LogRegion, in_box, in_set}
use Rattle.psi_log_format.specs.Listed.{region_of}
use Rattle.psi_log_scan.specs.LinesViews.{IsLast}
use Rattle.psi_log_scan.specs.Scanned.{Stands, TellsSet, AreChanged}
use Rattle.psi_log.specs.Inner.SlotsViews.{region_in, IsFilled, IsChangedBox, GoesOn}
use Rattle.psi_log_scan.specs.declared.set_line.LastSet.{LastSet}
use Rattle.psi_log.specs.declared.slot.RegionSlot.{RegionSlot}
use Rattle.psi_log_format.specs.declared.listed_region.ListedRegion.{ListedRegion}
use Rattle.psi_log_format.specs.declared.listed_region.ListedRegion.TheVariants.{Box, Set}
use Rattle.psi_log_format.specs.Rows.{States}
use Rattle.psi_log_scan.proofs.SetLineLemmas.{set_line}
use Rattle.psi_log_scan.proofs.MoveLineLemmas.{move_line, moved_so_none, moved_so_all}

-- with a box that is written by what changed
pub move_goes_on : (queues : ℕ) (from to : Corners) (text : List ℕ) (at end : ℕ) → queues ≤ 32 → Stands text at (at + 5) (codes " move") → AreChanged queues from text (at + 5) end to
    → Stands text end (end + 1) (10 ∷ []) → GoesOn queues (Some from) text at (end + 1) (in_box to)
move_goes_on queues from to text at end few name are feed =
    λ h n s same begins. move_line h n from to text at end s (omega arith) begins.least begins.most begins.event begins.there name
    (subst (λ (q : ℕ). AreChanged q from text (at + 5) end to) (sym same) are) feed

pub changed_goes_on : (queues : ℕ) (from : Corners) (text : List ℕ) (at end : ℕ) (states : List (List ℕ)) (region : ListedRegion) → queues ≤ 32 → Stands text at (at + 5) (codes " move")
    → IsChangedBox queues from text (at + 5) end region → Stands text end (end + 1) (10 ∷ []) → GoesOn queues (Some from) text at (end + 1) (region_of states region)
changed_goes_on queues from text at end states (Box to) few name is feed = move_goes_on queues from to text at end few name is.1 feed
changed_goes_on queues from text at end states (Set first count) few name is feed = absurd is

-- with the box before, of which nothing changed
pub same_box_goes_on : (queues : ℕ) (from : Corners) (text : List ℕ) (at : ℕ) → queues ≤ 32 → Stands text at (at + 5) (codes " move") → Stands text (at + 5) (at + 5 + 1) (10 ∷ [])
    → GoesOn queues (Some from) text at (at + 6) (in_box from)
same_box_goes_on queues from text at few name feed =
    let end : at + 5 + 1 ≡ at + 6 = omega arith in
    subst (λ (e : ℕ). GoesOn queues (Some from) text at e (in_box from)) end
    (move_goes_on queues from from text at (at + 5) few name (moved_so_all queues from text (at + 5) (at + 5) 0 from (moved_so_none queues from text (at + 5))) feed)

-- with a set
pub set_goes_on : (queues : ℕ) (before : Option Corners) (text line : List ℕ) (at end : ℕ) (xs : List (List ℕ)) → 1 ≤ queues → TellsSet queues line xs → Stands text at end line
    → GoesOn queues before text at end (in_set xs)
set_goes_on queues before text line at end xs some tells there =
    λ h n s same begins. set_line h n before text line at end s xs (omega arith) begins.least begins.most begins.event begins.there
    (subst (λ (q : ℕ). TellsSet q line xs) (sym same) tells) there

-- with the set of a slot, as its line ends alike
pub same_set_goes_on : (queues : ℕ) (before : Option Corners) (slot : RegionSlot) (set : LastSet) (text : List ℕ) (at : ℕ) → 1 ≤ queues → IsFilled queues slot → slot.last ≡ Some set
    → Stands text at (at + length set.text.now) set.text.now → GoesOn queues before text at (at + length set.text.now) (region_in slot)
same_set_goes_on queues before slot set text at some filled is there =
    let last = subst (λ (o : Option LastSet). IfSome o (λ (l : LastSet). (slot.region ≡ Set l.first l.count) × IsLast queues slot.states.states l)) is filled.last in
    let xs = take set.count (drop set.first slot.states.states) in
    let region : region_in slot ≡ in_set (take set.count (drop set.first slot.states.states)) = ap (λ (r : ListedRegion). region_of slot.states.states r) last.0 in
    subst (λ (r : LogRegion). GoesOn queues before text at (at + length set.text.now) r) (sym region)
    (set_goes_on queues before text set.text.now at (at + length set.text.now) xs some last.1.told there)

-- the set of a slot, where it has one state
pub one_told : (queues : ℕ) (slot : RegionSlot) (set : LastSet) (rows : States) (state row : List ℕ) → IsFilled queues slot → slot.last ≡ Some set → set.count ≡ 1 → rows ≡ slot.states
    → slice_get rows.states set.first ≡ Some state → length state ≡ rows.queues → row ≡ state → TellsSet (length row) set.text.now (row ∷ [])
one_told queues slot set rows state row filled is one all here count same =
    let last = subst (λ (o : Option LastSet). IfSome o (λ (l : LastSet). (slot.region ≡ Set l.first l.count) × IsLast queues slot.states.states l)) is filled.last in
    let there : slice_get slot.states.states set.first ≡ Some state = ap (λ (r : States). slice_get r.states set.first) (sym all) ∙ here in
    let size : length row ≡ queues = ap length same ∙ count ∙ ap (λ (r : States). r.queues) all ∙ filled.states in
    let whole : take set.count (drop set.first slot.states.states) ≡ row ∷ [] =
    ap (λ (k : ℕ). take k (drop set.first slot.states.states)) one
    ∙ ap (take 1) (drop_more slot.states.states set.first [] (slice_get_within slot.states.states set.first state there))
    ∙ ap (λ (x : List ℕ). x ∷ []) (get_or_from_slice_get slot.states.states set.first state [] there ∙ sym same) in
    subst (λ (q : ℕ). TellsSet q set.text.now (row ∷ [])) (sym size) (subst (λ (xs : List (List ℕ)). TellsSet queues set.text.now xs) whole last.1.told)

-- with the state that was put alone into the list of a slot
pub one_goes_on : (queues : ℕ) (before : Option Corners) (text line row : List ℕ) (at : ℕ) (cleared states : List (List ℕ)) → 1 ≤ queues → TellsSet queues line (row ∷ [])
    → Stands text at (at + length line) line → cleared ≡ [] → states ≡ cleared ++ row ∷ [] → GoesOn queues before text at (at + length line) (in_set (take 1 states))
one_goes_on queues before text line row at cleared states some tells there none pushed =
    let whole : take 1 states ≡ row ∷ [] = ap (take 1) (pushed ∙ ap (λ (xs : List (List ℕ)). xs ++ row ∷ []) none) in
    subst (λ (xs : List (List ℕ)). GoesOn queues before text at (at + length line) (in_set xs)) (sym whole)
    (set_goes_on queues before text line at (at + length line) (row ∷ []) some tells there)
