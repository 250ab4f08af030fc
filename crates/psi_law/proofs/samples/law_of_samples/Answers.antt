-- Answers in the proof of `law_of_samples`.
use Rattle.std.proofs.Common.{rules}
use Rattle.psi_law.proofs.NetworkLemmas.{system-lawful, system-sampled}
use Rattle.psi_law.proofs.samples.law_of_samples.Goals as goal

pub returns : goal.returns
returns g c =
    let is = system-lawful g.E.EventLaw.capacities g.E.EventLaw.function c.args.system.now c.caps-caps.ensures.fit g.met.E.EventLaw.closed in
    let laws = is.laws in
    let sampled = system-sampled g.E.EventLaw.capacities g.E.EventLaw.function c.args.system.now c.caps-caps.ensures.fit g.met.E.EventLaw.closed in
    search rules
