-- The way of the network's system is one of the network.
use Rattle.psi_streams.proofs.WalkingLemmas.{way_back}
use Rattle.psi_streams.proofs.walking.Walking.new.Goals as goal

pub returns-clause-way : goal.returns-clause-way
returns-clause-way c = way_back _ c.system.result c.args.net.now c.system.ensures.caps c.system.ensures.functions _ c.in_ok-way.ensures
