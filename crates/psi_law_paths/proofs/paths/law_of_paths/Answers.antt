-- Answers in the proof of `law_of_paths`.
use Rattle.std.proofs.Common.{rules}
use Rattle.psi_law.proofs.NetworkLemmas.{system-lawful}
use Rattle.psi_law_paths.proofs.PathLemmas.{are-paths}
use Rattle.psi_law_paths.proofs.paths.law_of_paths.Goals as goal

pub returns : goal.returns
returns g c =
    let fit = c.caps-caps.ensures.fit in
    let laws = (system-lawful g.E.EventLaw.capacities g.E.EventLaw.function c.args.system.now fit g.met.E.EventLaw.closed).laws in
    let paths = are-paths c.args.system.now.limit laws fit.most_limit in
    search rules
