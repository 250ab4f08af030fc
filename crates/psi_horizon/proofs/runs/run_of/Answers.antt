-- Answers in the proof of `run_of`.
use Rattle.std.proofs.Common.{refl, arith}
use Rattle.psi_horizon.proofs.AreasLemmas.{keeps-as, is-run}
use Rattle.psi_horizon.proofs.runs.run_of.Goals as goal

pub below-requires : goal.below-requires
below-requires g c = record { kept = keeps-as c.requires.kept c.requires.most c.wheel.ensures refl; reached = c.requires.reached }

pub returns-clause-run : goal.returns-clause-run
returns-clause-run g c = λ network stands.
    is-run g.E.EventLaw.capacities g.E.EventLaw.function c.args.system.now (g.P.Past.words c.args.past.now) c.args.horizon c.below.result.now network g.met.E.EventLaw.closed
    c.requires.fit stands c.below.ensures.numbers c.wheel.ensures

pub returns-clause-kept : goal.returns-clause-kept
returns-clause-kept g c = keeps-as c.requires.kept (omega arith) refl c.below.ensures.words
