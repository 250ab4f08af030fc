-- Answers in the proof of `raise_stretch`.
use Rattle.std.proofs.Common.{arith}
use Rattle.psi_exact.proofs.spread.raise_stretch.Goals as goal

pub overflow_cast-by : goal.overflow_cast-by
overflow_cast-by c = (let within = c.requires.within in let few = c.requires.few in let some = c.requires.some in omega arith)
