-- Answers in the proof of `MemoryShelfShelf::feed`.
use Rattle.std.proofs.Common.{◌≡◌, ◌^◌, ◌<◌, ◌≤◌, None, Err, refl, sym, ◌∙◌, ap, subst, inr, arith}
use Rattle.std.specs.Prelude.{position}
use Rattle.psi_io.specs.Counts.{counted}
use Rattle.psi_io.proofs.CountsLemmas.{counted-still, rose-counted}
use Rattle.psi_io.specs.MemoryShelf.{ShelfContents, has_name, told_of, faults_of}
use Rattle.psi_io.proofs.FilesLemmas.{fail-place, fail-absent, raised-after_failed, told-after_failed, counts-after_failed, faults-at, told-at, told-none, reads-at, read-place, no-fault, ok-no_fault}
use Rattle.psi_io.proofs.memory_shelf.MemoryShelfShelf.feed.Goals as goal

pub returns-in-Some-clause-after_failed : goal.returns-in-Some-clause-after_failed
returns-in-Some-clause-after_failed g c = λ _.
    rw (← c.self.view_is, c.count_fault.ensures.after, c.ask-self-inside.ensures, c.as_bytes.ensures.value)
    (fail-place _ c.args.name.now c.args.most c.in-Some.place c.index_mut.result.now
    (rw c.as_slice.ensures.value at (sym c.in-Some.ensures)) c.index_mut.ensures.value)

pub returns-in-Some-clause-raised : goal.returns-in-Some-clause-raised
returns-in-Some-clause-raised g c = λ is. raised-after_failed c.args.self.now c.args.name.now c.args.most (returns-in-Some-clause-after_failed g c is)

pub returns-in-Some-clause-failed : goal.returns-in-Some-clause-failed
returns-in-Some-clause-failed g c = λ is. rose-counted _ _ (returns-in-Some-clause-raised g c is)

pub returns-in-Some-clause-counts : goal.returns-in-Some-clause-counts
returns-in-Some-clause-counts g c = λ other.
    let own = faults-at c.self.view_is c.args.name.now c.in-Some.place c.index_mut.result.now (rw c.as_slice.ensures.value at (sym c.in-Some.ensures)) c.index_mut.ensures.value in
    let small : faults_of c.args.self.now c.args.name.now < 2 ^ 64 = omega (arith, c.count_fault.ensures.bounded, own) in
    subst (λ (shelf : ShelfContents). faults_of c.args.self.now other ≤ faults_of shelf other)
    (sym (returns-in-Some-clause-after_failed g c refl)) (counts-after_failed c.args.self.now c.args.name.now other c.args.most small)

pub returns-in-Some-clause-same : goal.returns-in-Some-clause-same
returns-in-Some-clause-same g c =
    ap told_of (returns-in-Some-clause-after_failed g c refl) ∙ told-after_failed c.args.self.now c.args.name.now c.args.most

pub returns-in-Ok-clause-fails : goal.returns-in-Ok-clause-fails
returns-in-Ok-clause-fails g c =
    let number = c.saturating_add-self-inside.ensures ∙ ap counted c.self.invariant ∙ counted-still _ in (
      λ is. absurd (ok-no_fault {T = Unit {0}} tt is),
      λ fails. absurd (reads-at c.self.view_is c.args.name.now c.in-Some.place _ c.index.result.now (rw c.as_slice.ensures.value at (sym c.in-Some.ensures)) c.index.ensures
          number (rw c.deref.ensures.value at (sym c.if-fails.ensures.value)) fails),
    )

pub returns-in-Ok-clause-after : goal.returns-in-Ok-clause-after
returns-in-Ok-clause-after g c =
    let shelf : ShelfContents = record { files = c.self.inside.files.items; absent = c.self.inside.absent; asked = c.self.inside.history.asked; gave = c.self.inside.history.gave; fails = c.self.inside.fails.items } in
    rw (← c.self.view_is, c.give-self-inside.ensures, c.ask-self-inside.ensures, c.as_bytes.ensures.value, c.as_bytes-in-Ok.ensures.value, c.in-Ok.ensures.noted)
    (read-place shelf c.args.name.now c.args.most c.index.result.now.bytes
    (told-at {shelf = shelf} refl c.args.name.now c.in-Some.place c.index.result.now (rw c.as_slice.ensures.value at (sym c.in-Some.ensures)) c.index.ensures))

pub returns-in-Ok-clause-bytes : goal.returns-in-Ok-clause-bytes
returns-in-Ok-clause-bytes g c =
    rw (told-at c.self.view_is c.args.name.now c.in-Some.place c.index.result.now (rw c.as_slice.ensures.value at (sym c.in-Some.ensures)) c.index.ensures)
    c.in-Ok.ensures.bytes

pub returns-in-Err-clause-fails : goal.returns-in-Err-clause-fails
returns-in-Err-clause-fails g c =
    let number = c.saturating_add-self-inside.ensures ∙ ap counted c.self.invariant ∙ counted-still _ in (
      λ is. absurd (no-fault {T = Unit {0}} (Err c.in-Err.fault) c.in-Err.ensures.memory is),
      λ fails. absurd (reads-at c.self.view_is c.args.name.now c.in-Some.place _ c.index.result.now (rw c.as_slice.ensures.value at (sym c.in-Some.ensures)) c.index.ensures
          number (rw c.deref.ensures.value at (sym c.if-fails.ensures.value)) fails),
    )

pub returns-in-None-clause-after_failed : goal.returns-in-None-clause-after_failed
returns-in-None-clause-after_failed g c = λ _.
    rw (← c.self.view_is, c.saturating_add-self-inside-in-None.ensures, c.ask-self-inside.ensures, c.as_bytes.ensures.value)
    (fail-absent _ c.args.name.now c.args.most (rw c.as_slice.ensures.value at (sym c.in-None.ensures)))

pub returns-in-None-clause-fails : goal.returns-in-None-clause-fails
returns-in-None-clause-fails g c =
    let none : position (has_name c.args.name.now) c.args.self.now.files ≡ None =
    rw (← c.self.view_is, ← c.as_slice.ensures.value) (sym c.in-None.ensures) in
    (λ _. inr (told-none c.args.self.now c.args.name.now none), λ _. refl)

pub returns-in-None-clause-raised : goal.returns-in-None-clause-raised
returns-in-None-clause-raised g c = λ is. raised-after_failed c.args.self.now c.args.name.now c.args.most (returns-in-None-clause-after_failed g c is)

pub returns-in-None-clause-failed : goal.returns-in-None-clause-failed
returns-in-None-clause-failed g c = λ is. rose-counted _ _ (returns-in-None-clause-raised g c is)
