-- Answers in the proof of `network_at`.
use Rattle.std.proofs.Common.{refl, Ok, Err}
use Rattle.psi_net_document.specs.declared.refusals.TheConstants.{MOST_NET_BYTES}
use Rattle.psi_run.proofs.EndingsLemmas.{judged_whole}
use Rattle.psi_io.proofs.AgreeingLemmas.{agrees_one, one_agrees}
use Rattle.psi_run.proofs.files.network_at.Goals as goal

pub returns-in-Ok-net_of-clause-network : goal.returns-in-Ok-net_of-clause-network
returns-in-Ok-net_of-clause-network g c told are = let network = rw c.as_slice.ensures.value at c.in-Ok-net_of.ensures.network in
    judged_whole MOST_NET_BYTES refl (told c.args.name.now) c.in-Ok.bytes.items (Ok c.in-Ok-net_of.net) (one_agrees told _ _ _ c.in-Ok.ensures.gave are) network

pub returns-in-Ok-net_of-clause-agrees : goal.returns-in-Ok-net_of-clause-agrees
returns-in-Ok-net_of-clause-agrees g c = agrees_one _ _ _ _ c.in-Ok.ensures.gave c.in-Ok.ensures.bytes

pub returns-in-Err-Refused-clause-none : goal.returns-in-Err-Refused-clause-none
returns-in-Err-Refused-clause-none g c told are = let refused = rw (c.as_slice.ensures.value, c.in-Err-Refused.field-0-is) at c.in-Err-Refused.ensures.refused in
    judged_whole MOST_NET_BYTES refl (told c.args.name.now) c.in-Ok.bytes.items (Err c.in-Err-Refused.refusal) (one_agrees told _ _ _ c.in-Ok.ensures.gave are) refused

pub returns-in-Err-Refused-clause-agrees : goal.returns-in-Err-Refused-clause-agrees
returns-in-Err-Refused-clause-agrees g c = agrees_one _ _ _ _ c.in-Ok.ensures.gave c.in-Ok.ensures.bytes
