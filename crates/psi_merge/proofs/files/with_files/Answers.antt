-- Answers in the proof of `with_files`.
use Rattle.std.specs.Prelude.{string_bytes}
use Rattle.std.proofs.Common.{◌∙◌, refl, sym, arith}
use Rattle.std.proofs.lemmas.List.{append-nil}
use Rattle.psi_io.proofs.AgreeingLemmas.{agrees_unmoved, agrees_both, agrees_first, agrees_second}
use Rattle.psi_merge.proofs.FindingLemmas.{has-none, has-more, all-missed, given-at, has-all, asked-next, asked-all, missed-at}
use Rattle.psi_merge.proofs.files.with_files.Goals as goal

pub loop-name-init : goal.loop-name-init
loop-name-init g c = record {
  same = refl;
  counts = λ other. omega arith;
  asked = sym (append-nil (g.F.Shelf.asked c.args.shelf.now));
  gives = λ other given. given;
  spared = λ given. refl;
  agrees = agrees_unmoved (g.F.Shelf.told c.args.shelf.now) (g.F.Shelf.gave c.args.shelf.now);
  has = λ told agrees. has-none told c.args.first;
}

pub loop-name-preserved : goal.loop-name-preserved
loop-name-preserved g c =
    let told = g.F.Shelf.told c.args.shelf.now in
    let found = rw c.as_str.ensures.value at c.in-Ok.ensures.found in
    let early = c.loop-name.invariant.agrees in
    let late = c.in-Ok.ensures.once.agrees in
    let spared = rw c.as_str.ensures.value at c.in-Ok.ensures.once.spared in
    let asked = rw c.as_str.ensures.value at c.in-Ok.ensures.once.asked in
    record {
      same = c.in-Ok.ensures.once.same ∙ c.loop-name.invariant.same;
      counts = λ other. (let earlier = c.loop-name.invariant.counts other in let later = c.in-Ok.ensures.once.counts other in omega arith);
      asked = asked-next string_bytes c.args.names.now c.loop-name.name-index c.name-item.result c.loop-name-test.true c.name-item.is (g.F.Shelf.asked c.args.shelf.now)
          (g.F.Shelf.asked c.loop-name.shelf) (g.F.Shelf.asked c.with_file.new.shelf) c.loop-name.invariant.asked asked;
      gives = λ other given. c.in-Ok.ensures.once.gives other (c.loop-name.invariant.gives other given);
      spared = λ given. spared (given-at string_bytes told c.args.first c.args.names.now c.loop-name.whole c.loop-name.name-index c.name-item.result c.loop-name-test.true c.name-item.is
          (c.loop-name.invariant.has told early) (g.F.Shelf.gives c.args.shelf.now) (g.F.Shelf.gives c.loop-name.shelf) c.loop-name.invariant.gives given)
          ∙ c.loop-name.invariant.spared given;
      agrees = agrees_both told _ _ _ early (rw c.loop-name.invariant.same at late);
      has = λ other agrees.
          has-more string_bytes other c.args.first c.args.names.now c.loop-name.whole c.loop-name.name-index c.name-item.result c.loop-name-test.true c.name-item.is
          (c.loop-name.invariant.has other (agrees_first other _ _ _ _ _ early late agrees)) c.in-Ok.both (found other (agrees_second other _ _ _ _ _ early late agrees)).answer;
    }

pub returns-in-Err-clause-found : goal.returns-in-Err-clause-found
returns-in-Err-clause-found g c told agrees =
    let early = c.loop-name.invariant.agrees in
    let late = c.in-Err.ensures.once.agrees in
    let anyhow = rw c.as_str.ensures.value at c.in-Err.ensures.found in
    let found = anyhow told (agrees_second told _ _ _ _ _ early late agrees) in
    let has = c.loop-name.invariant.has told (agrees_first told _ _ _ _ _ early late agrees) in
    let asked = rw c.as_str.ensures.value at c.in-Err.ensures.once.asked in
    record {
      answer = all-missed string_bytes told c.args.first c.args.names.now c.loop-name.whole c.loop-name.name-index c.name-item.result c.loop-name-test.true c.name-item.is
          has c.in-Err.ending found.answer;
      asked = tt;
      cause = missed-at string_bytes told told c.args.first c.args.names.now c.loop-name.whole c.loop-name.name-index c.name-item.result
          c.loop-name-test.true c.name-item.is has (g.F.Shelf.asked c.args.shelf.now) (g.F.Shelf.asked c.loop-name.shelf) (g.F.Shelf.asked c.with_file.new.shelf)
          (g.F.Shelf.faults c.args.shelf.now) (g.F.Shelf.faults c.loop-name.shelf) (g.F.Shelf.faults c.with_file.new.shelf) c.loop-name.invariant.counts
          c.loop-name.invariant.asked asked c.in-Err.ending found.cause;
    }

pub returns-in-Err-clause-agrees : goal.returns-in-Err-clause-agrees
returns-in-Err-clause-agrees g c =
    agrees_both (g.F.Shelf.told c.args.shelf.now) _ _ _ c.loop-name.invariant.agrees (rw c.loop-name.invariant.same at c.in-Err.ensures.once.agrees)

pub returns-in-Err-clause-read : goal.returns-in-Err-clause-read
returns-in-Err-clause-read g c given =
    let read = rw c.as_str.ensures.value at c.in-Err.ensures.once.read in
    read (given-at string_bytes (g.F.Shelf.told c.args.shelf.now) c.args.first c.args.names.now c.loop-name.whole c.loop-name.name-index c.name-item.result c.loop-name-test.true c.name-item.is
    (c.loop-name.invariant.has (g.F.Shelf.told c.args.shelf.now) c.loop-name.invariant.agrees) (g.F.Shelf.gives c.args.shelf.now) (g.F.Shelf.gives c.loop-name.shelf) c.loop-name.invariant.gives given)

pub returns-in-Err-clause-spared : goal.returns-in-Err-clause-spared
returns-in-Err-clause-spared g c given =
    let spared = rw c.as_str.ensures.value at c.in-Err.ensures.once.spared in
    spared (given-at string_bytes (g.F.Shelf.told c.args.shelf.now) c.args.first c.args.names.now c.loop-name.whole c.loop-name.name-index c.name-item.result c.loop-name-test.true c.name-item.is
    (c.loop-name.invariant.has (g.F.Shelf.told c.args.shelf.now) c.loop-name.invariant.agrees) (g.F.Shelf.gives c.args.shelf.now) (g.F.Shelf.gives c.loop-name.shelf) c.loop-name.invariant.gives given)
    ∙ c.loop-name.invariant.spared given

pub returns-clause-found : goal.returns-clause-found
returns-clause-found g c told agrees =
    record {
      answer = has-all string_bytes told c.args.first c.args.names.now c.loop-name.whole c.loop-name.name-index c.loop-name-test.false (c.loop-name.invariant.has told agrees);
      asked = asked-all string_bytes c.args.names.now c.loop-name.name-index c.loop-name-test.false (g.F.Shelf.asked c.args.shelf.now) (g.F.Shelf.asked c.loop-name.shelf)
          c.loop-name.invariant.asked;
      cause = tt;
    }

pub returns-clause-spared : goal.returns-clause-spared
returns-clause-spared g c given = c.loop-name.invariant.spared given
