-- What is seen of a shelf and of a sink over a call, by their models before and after it.
use Rattle.std.specs.Prelude.{ℕ, List, Option}
use Rattle.psi_io.specs.Shelf.{Read, Given}
use Rattle.psi_program.specs.Seen.{ShelfSeen, ShelfCall, SinkSeen}
use Rattle.psi_program.specs.Call.{Call}

-- of a shelf: by its files, the reads that it was asked for, and its counts of faults
abbrev pub shelf_seen : {F : Type 0} → (told : F → List ℕ → Option (List ℕ)) (asked : F → List Read) (faults : F → List ℕ → ℕ) (before after : F) → ShelfSeen
shelf_seen told asked faults before after =
    record { told = told before; asked_before = asked before; asked_after = asked after; faults_before = faults before; faults_after = faults after }

-- of a shelf: by the answers that it gave, the reads that it was asked for, and its counts of faults
abbrev pub shelf_call : {F : Type 0} → (gave : F → List Given) (asked : F → List Read) (faults : F → List ℕ → ℕ) (before after : F) → ShelfCall
shelf_call gave asked faults before after =
    record { gave_before = gave before; gave_after = gave after; asked_before = asked before; asked_after = asked after; faults_before = faults before; faults_after = faults after }

-- of a sink: by what it holds, what it accepted, and its count of faults
abbrev pub sink_seen : {S : Type 0} → (held : S → Option (List ℕ)) (took : S → List ℕ) (faults : S → ℕ) (before after : S) → SinkSeen
sink_seen held took faults before after =
    record { before = held before; after = held after; took_before = took before; took_after = took after; faults_before = faults before; faults_after = faults after }

-- of a call: by its words, and what is seen of its shelf and of its sinks
abbrev pub call_seen : (words : List (List ℕ)) (shelf : ShelfSeen) (out err : SinkSeen) → Call
call_seen words shelf out err = record { words = words; shelf = shelf; out = out; err = err }
