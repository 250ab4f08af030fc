-- Answers in the proof of `whole_of`.
use Rattle.std.specs.Prelude.{string_bytes, map}
use Rattle.std.proofs.Common.{◌∙◌, refl}
use Rattle.psi_io.proofs.AgreeingLemmas.{agrees_both, agrees_first, agrees_second}
use Rattle.psi_merge.proofs.FindingLemmas.{found-all, missed-all, given-behind, next-first}
use Rattle.psi_merge.proofs.files.whole_of.Goals as goal

pub returns-in-Ok-clause-found : goal.returns-in-Ok-clause-found
returns-in-Ok-clause-found g c told agrees =
    let early = c.in-Ok.ensures.once.agrees in
    let late = c.with_files.ensures.agrees in
    found-all told told c.args.first.now (map string_bytes c.args.rest.now) c.in-Ok.report refl
    (c.in-Ok.ensures.found told (agrees_first told _ _ _ _ _ early late agrees)).answer (g.F.Shelf.asked c.args.shelf.now) (g.F.Shelf.asked c.report_at.new.shelf) (g.F.Shelf.asked c.with_files.new.shelf)
    (g.F.Shelf.faults c.args.shelf.now) (g.F.Shelf.faults c.report_at.new.shelf) (g.F.Shelf.faults c.with_files.new.shelf) c.with_files.result
    c.in-Ok.ensures.once.asked c.in-Ok.ensures.once.counts (c.with_files.ensures.found told (agrees_second told _ _ _ _ _ early late agrees))

pub returns-in-Ok-clause-agrees : goal.returns-in-Ok-clause-agrees
returns-in-Ok-clause-agrees g c = agrees_both (g.F.Shelf.told c.args.shelf.now) _ _ _ c.in-Ok.ensures.once.agrees (rw c.in-Ok.ensures.once.same at c.with_files.ensures.agrees)

pub returns-in-Ok-clause-read : goal.returns-in-Ok-clause-read
returns-in-Ok-clause-read g c given =
    c.with_files.ensures.read (given-behind (g.F.Shelf.told c.args.shelf.now) (g.F.Shelf.told c.report_at.new.shelf) c.args.first.now (map string_bytes c.args.rest.now) c.in-Ok.report
    c.in-Ok.ensures.once.same (c.in-Ok.ensures.found (g.F.Shelf.told c.args.shelf.now) c.in-Ok.ensures.once.agrees).answer (g.F.Shelf.gives c.args.shelf.now) (g.F.Shelf.gives c.report_at.new.shelf) c.in-Ok.ensures.once.gives given)

pub returns-in-Ok-clause-spared : goal.returns-in-Ok-clause-spared
returns-in-Ok-clause-spared g c given =
    c.with_files.ensures.spared (given-behind (g.F.Shelf.told c.args.shelf.now) (g.F.Shelf.told c.report_at.new.shelf) c.args.first.now (map string_bytes c.args.rest.now) c.in-Ok.report
    c.in-Ok.ensures.once.same (c.in-Ok.ensures.found (g.F.Shelf.told c.args.shelf.now) c.in-Ok.ensures.once.agrees).answer (g.F.Shelf.gives c.args.shelf.now) (g.F.Shelf.gives c.report_at.new.shelf) c.in-Ok.ensures.once.gives given)
    ∙ c.in-Ok.ensures.once.spared (given c.args.first.now (next-first (g.F.Shelf.told c.args.shelf.now) c.args.first.now (map string_bytes c.args.rest.now)))

pub returns-in-Err-clause-found : goal.returns-in-Err-clause-found
returns-in-Err-clause-found g c told agrees =
    missed-all _ c.args.first.now (map string_bytes c.args.rest.now) c.in-Err.ending (c.in-Err.ensures.found told agrees) c.in-Err.ensures.once.asked

pub returns-in-Err-clause-read : goal.returns-in-Err-clause-read
returns-in-Err-clause-read g c given = c.in-Err.ensures.once.read (given c.args.first.now (next-first (g.F.Shelf.told c.args.shelf.now) c.args.first.now (map string_bytes c.args.rest.now)))

pub returns-in-Err-clause-spared : goal.returns-in-Err-clause-spared
returns-in-Err-clause-spared g c given = c.in-Err.ensures.once.spared (given c.args.first.now (next-first (g.F.Shelf.told c.args.shelf.now) c.args.first.now (map string_bytes c.args.rest.now)))
