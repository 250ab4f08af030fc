-- Answers in the proof of `GuardedEventLaw::upset`.
use Rattle.std.proofs.Common.{rules}
use Rattle.psi_guard.specs.Guarding.{upset_of}
use Rattle.psi_guard.proofs.PairsLemmas.{upset-shows}
use Rattle.psi_guard.proofs.event.GuardedEventLaw.upset.Goals as goal

pub returns-in-Some-clause-value : goal.returns-in-Some-clause-value
unfolding upset_of
returns-in-Some-clause-value c = rw (← c.first_own_above.ensures, c.in-Some.is)

pub returns-in-Some-clause-shown : goal.returns-in-Some-clause-shown
returns-in-Some-clause-shown c = upset-shows c.args.self.now.caps c.args.self.now.parts _ c.args.self.now.guards (returns-in-Some-clause-value c)

pub returns-in-Some-first_other_above-clause-value : goal.returns-in-Some-first_other_above-clause-value
unfolding upset_of
returns-in-Some-first_other_above-clause-value c = search rules

pub returns-in-Some-first_other_above-clause-shown : goal.returns-in-Some-first_other_above-clause-shown
returns-in-Some-first_other_above-clause-shown c = search (rules, upset-shows, returns-in-Some-first_other_above-clause-value)

pub returns-in-Some-first_own_below-clause-value : goal.returns-in-Some-first_own_below-clause-value
unfolding upset_of
returns-in-Some-first_own_below-clause-value c = search rules

pub returns-in-Some-first_own_below-clause-shown : goal.returns-in-Some-first_own_below-clause-shown
returns-in-Some-first_own_below-clause-shown c = search (rules, upset-shows, returns-in-Some-first_own_below-clause-value)

pub returns-clause-value : goal.returns-clause-value
unfolding upset_of
returns-clause-value c = search rules

pub returns-clause-shown : goal.returns-clause-shown
returns-clause-shown c = upset-shows c.args.self.now.caps c.args.self.now.parts _ c.args.self.now.guards (returns-clause-value c)
