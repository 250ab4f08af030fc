-- Answers in the proof of `state::first_apart`.
use Rattle.psi_state.proofs.ApartLemmas.{place-few, same-before, apart-there}
use Rattle.psi_state.proofs.state.first_apart.Goals as goal

pub returns-clause-place : goal.returns-clause-place
returns-clause-place c = place-few c.args.own c.args.others c.requires c.ranges.own.fits c.ranges.others.fits

pub returns-clause-before : goal.returns-clause-before
returns-clause-before c = same-before c.args.own c.args.others c.requires c.ranges.own.fits c.ranges.others.fits

pub returns-clause-apart : goal.returns-clause-apart
returns-clause-apart c = apart-there c.args.own c.args.others c.requires c.ranges.own.fits c.ranges.others.fits
