-- Answers in the proof of `net_of`.
use Rattle.std.proofs.Common.{sym, subst}
use Rattle.psi_net_model.specs.Network.{Network}
use Rattle.psi_net_model.specs.Valid.{IsNetwork}
use Rattle.psi_net_model.specs.Draft.{unexpanded}
use Rattle.psi_net.proofs.FrontLemmas.{network_of-take}
use Rattle.psi_net.proofs.NetworkLemmas.{network_kept}
use Rattle.psi_net.proofs.reading.net_of.Goals as goal

pub made-requires-clause-kept : goal.made-requires-clause-kept
made-requires-clause-kept c =
    subst (λ (net : Network). IsNetwork net) (sym c.in_ok-draft.ensures.network)
    (network_kept c.in-Ok.value.now (unexpanded c.in-Ok-read.field-0) c.in-Ok-read.ensures.network)

pub returns-clause-front : goal.returns-clause-front
returns-clause-front c = network_of-take c.args.bytes.now

pub returns-2-clause-front : goal.returns-2-clause-front
returns-2-clause-front c = network_of-take c.args.bytes.now

pub returns-in-Err-clause-front : goal.returns-in-Err-clause-front
returns-in-Err-clause-front c = network_of-take c.args.bytes.now

pub returns-in_err-draft-clause-front : goal.returns-in_err-draft-clause-front
returns-in_err-draft-clause-front c = network_of-take c.args.bytes.now

pub returns-in_err-made-clause-front : goal.returns-in_err-made-clause-front
returns-in_err-made-clause-front c = network_of-take c.args.bytes.now
