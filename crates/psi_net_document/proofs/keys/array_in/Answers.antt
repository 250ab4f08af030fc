-- Answers in the proof of `array_in`.
use Rattle.psi_net_document.proofs.ListsLemmas.{array_read}
use Rattle.psi_net_document.proofs.keys.array_in.Goals as goal

pub returns-in-Array : goal.returns-in-Array
returns-in-Array c = array_read c.args.place c.args.key.now c.args.value.now c.in-Array.values c.as_slice.result.now c.in-Array.is c.as_slice.ensures.value
