-- Answers in the proof of `step`.
use Rattle.std.proofs.Common.{Some, None, ap}
use Rattle.psi_rate.proofs.FunctionsLemmas.{functions-closed}
use Rattle.psi_exact.specs.Mapping.{Mapped}
use Rattle.psi_exact.proofs.SurveysLemmas.{followed-stays, followed-next}
use Rattle.psi_exact.proofs.following.step.Goals as goal

pub returns-then-is_some-clause-followed : goal.returns-then-is_some-clause-followed
returns-then-is_some-clause-followed g c =
    followed-stays (functions-closed g.E.EventLaw.capacities g.E.EventLaw.function c.args.learned.now.system.now (g.P.Past.words c.args.past.now) g.met.E.EventLaw.closed c.requires.fit.same_caps)
    c.if-is_some.ensures c.requires.followed

pub put_before-requires-clause-same_caps : goal.put_before-requires-clause-same_caps
put_before-requires-clause-same_caps g c = ap (λ (t : Mapped). t.caps) c.requires.followed.map

pub returns-in-Some-clause-followed : goal.returns-in-Some-clause-followed
returns-in-Some-clause-followed g c =
    followed-next g.E.EventLaw.function c.args.learned.now.system.now (g.P.Past.words c.args.past.now) (g.P.Past.words c.word-word.new.self) c.args.place c.word-word.result c.args.table.now
    c.put_before.new.table c.args.found (Some c.in-Some.state) (ap (λ (p : g.row.P.Denot). g.P.Past.words p) c.word-word.ensures.same) c.word-word.ensures.value c.if-is_some.ensures
    c.requires.followed c.put_before.ensures c.in-Some.ensures.value

pub returns-in-None-clause-followed : goal.returns-in-None-clause-followed
returns-in-None-clause-followed g c =
    followed-next g.E.EventLaw.function c.args.learned.now.system.now (g.P.Past.words c.args.past.now) (g.P.Past.words c.word-word.new.self) c.args.place c.word-word.result c.args.table.now
    c.put_before.new.table c.args.found None (ap (λ (p : g.row.P.Denot). g.P.Past.words p) c.word-word.ensures.same) c.word-word.ensures.value c.if-is_some.ensures
    c.requires.followed c.put_before.ensures c.in-None.ensures.value
