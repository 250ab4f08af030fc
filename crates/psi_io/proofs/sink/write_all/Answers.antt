-- Answers in the proof of `write_all`.
use Rattle.std.proofs.Common.{◌≡◌, ◌-◌, length, ◌∙◌, subst, arith}
use Rattle.psi_io.proofs.GrowingLemmas.{grown_front, grown_more, took_front, took_more, length-rest, sub-sub}
use Rattle.psi_io.proofs.sink.write_all.Goals as goal

pub loop-at-preserved : goal.loop-at-preserved
loop-at-preserved g c = record {
  within = omega (arith, c.in-Ok.ensures.within);
  grown = grown_more _ _ _ c.args.piece.now c.loop-at.at c.in-Ok.count c.loop-at.invariant.grown c.in-Ok.ensures.grew;
  took = took_more _ _ _ c.args.piece.now c.loop-at.at c.in-Ok.count c.loop-at.invariant.took c.in-Ok.ensures.took;
  counts = omega (arith, c.in-Ok.ensures.counts);
  spared = λ n takes long.
      c.in-Ok.ensures.spared (n - c.loop-at.at) (c.loop-at.invariant.takes_on n takes) (length-rest c.args.piece.now c.loop-at.at n long)
      ∙ c.loop-at.invariant.spared n takes long;
  takes_on = λ n takes.
      subst (λ left. g.K.Sink.takes c.write.new.self left) (sub-sub n c.loop-at.at c.in-Ok.count)
      (c.in-Ok.ensures.takes_on (n - c.loop-at.at) (c.loop-at.invariant.takes_on n takes));
}

pub returns-in-Err-clause-prefix : goal.returns-in-Err-clause-prefix
returns-in-Err-clause-prefix g c = grown_front _ _ _ c.args.piece.now c.loop-at.at c.loop-at.invariant.grown c.in-Err.ensures.kept

pub returns-in-Err-clause-took_part : goal.returns-in-Err-clause-took_part
returns-in-Err-clause-took_part g c = took_front _ _ _ c.args.piece.now c.loop-at.at c.loop-at.invariant.took c.in-Err.ensures.took_part

pub returns-in-Err-clause-taken : goal.returns-in-Err-clause-taken
returns-in-Err-clause-taken g c = λ n takes long.
    c.in-Err.ensures.taken (n - c.loop-at.at) (c.loop-at.invariant.takes_on n takes) (length-rest c.args.piece.now c.loop-at.at n long)

pub returns-in-Err-clause-spared : goal.returns-in-Err-clause-spared
returns-in-Err-clause-spared g c = λ n takes long.
    c.in-Err.ensures.spared (n - c.loop-at.at) (c.loop-at.invariant.takes_on n takes) (length-rest c.args.piece.now c.loop-at.at n long)
    ∙ c.loop-at.invariant.spared n takes long

pub returns-clause-spared : goal.returns-clause-spared
returns-clause-spared g c = c.loop-at.invariant.spared

pub returns-clause-takes_on : goal.returns-clause-takes_on
returns-clause-takes_on g c = λ n takes.
    let within = c.loop-at.invariant.within in
    let past = c.loop-at-test.false in
    let all : c.loop-at.at ≡ length c.args.piece.now = omega arith in
    subst (λ at. g.K.Sink.takes c.loop-at.sink (n - at)) all (c.loop-at.invariant.takes_on n takes)
