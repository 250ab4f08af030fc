-- Answers in the proof of `closed::next_closed`.
use Rattle.psi_reply.proofs.ClosingLemmas.{sampled_of, closed-counts, closed-within}
use Rattle.psi_reply.proofs.closed.next_closed.Goals as goal

pub returns-clause-value : goal.returns-clause-value
returns-clause-value c =
    let net = c.args.net.now in
    let network = c.args.plan.now.network in
    let outcome = rw (c.replace.ensures, c.new.ensures, c.requires.caps, c.requires.rates, c.requires.limit) at c.sample.ensures.outcome in
    sampled_of net c.args.seed c.args.stream network.total network.moves c.sample.result c.queues-queues.ensures.kept c.requires.moves outcome

pub returns-clause-sample : goal.returns-clause-sample
returns-clause-sample c =
    let sample = rw (c.replace.ensures, c.new.ensures, c.requires.caps, c.requires.rates, c.requires.limit) at c.sample.ensures.sample in
    closed-counts c.args.net.now _ _ c.sample.result c.queues-queues.ensures.kept sample

pub returns-clause-limit : goal.returns-clause-limit
returns-clause-limit c =
    let sample = rw (c.replace.ensures, c.new.ensures, c.requires.caps, c.requires.rates, c.requires.limit) at c.sample.ensures.sample in
    closed-within c.args.net.now _ _ c.sample.result c.queues-queues.ensures.kept sample
