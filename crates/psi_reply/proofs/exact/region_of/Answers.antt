-- Answers in the proof of `exact::region_of`.
use Rattle.psi_reply.specs.Exact.{region}
use Rattle.psi_reply.proofs.CouplingLemmas.{coupled_by}
use Rattle.psi_reply.proofs.exact.region_of.Goals as goal

pub returns : goal.returns
unfolding region
returns c =
    let least = rw (c.in_ok-plan.ensures, c.new.ensures, c.with_limit-system.ensures) at c.least_horizon-coupled.ensures.least in
    let made = c.system.ensures in
    coupled_by _ c.system.result c.args.net.now c.args.seed c.args.stream c.args.h c.least_horizon-coupled.result made.kept
    (record { caps = made.caps; functions = made.functions; rates = made.rates; limit = made.limit; split = made.split }) least
