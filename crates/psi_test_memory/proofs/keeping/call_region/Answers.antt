-- Answers in the proof of `call_region`.
use Rattle.psi_test_memory.proofs.WithinLemmas.{all_below}
use Rattle.psi_test_memory.proofs.keeping.call_region.Goals as goal

pub advance-requires : goal.advance-requires
advance-requires g c =
    all_below c.caps.result (g.E.EventLaw.capacities c.args.event.now) c.start.new.self.area c.start.ensures.area c.caps.ensures.value
