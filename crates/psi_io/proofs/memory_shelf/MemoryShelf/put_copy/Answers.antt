-- Answers in the proof of `MemoryShelf::put_copy`.
use Rattle.std.proofs.Common.{sym, ◌∙◌}
use Rattle.psi_io.proofs.FilesLemmas.{put-place, put-new}
use Rattle.psi_io.proofs.memory_shelf.MemoryShelf.put_copy.Goals as goal

pub returns-in-Some-clause-after : goal.returns-in-Some-clause-after
returns-in-Some-clause-after c =
    rw (← c.self.view_is, c.replace.ensures)
    (put-place _ c.args.name.now c.args.bytes.items c.in-Some.place c.index_mut.result.now
    (rw c.as_slice.ensures.value at (sym c.in-Some.ensures)) c.index_mut.ensures.value)

pub returns-in_ok-push-in-None-clause-after : goal.returns-in_ok-push-in-None-clause-after
returns-in_ok-push-in-None-clause-after c =
    rw (← c.self.view_is, c.in_ok-push-in-None.ensures.items)
    (put-new _ c.args.name.now c.args.bytes.items c.new.result
    (rw c.as_slice.ensures.value at (sym c.in-None.ensures))
    (c.new.ensures.name ∙ c.in_ok-name-in-None.ensures.ok) c.new.ensures.bytes c.new.ensures.count)
