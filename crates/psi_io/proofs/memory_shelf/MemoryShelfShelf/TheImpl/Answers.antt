-- Answers in the proof of `MemoryShelfShelf::TheImpl`.
use Rattle.std.proofs.Common.{ℕ, List, rules}
use Rattle.psi_io.specs.MemoryShelf.{Gives}
use Rattle.psi_io.proofs.GivingLemmas.{gives-read}
use Rattle.psi_io.proofs.memory_shelf.MemoryShelfShelf.TheImpl.Goals as goal

pub feed-tells : goal.feed-tells
feed-tells g c =
    let on : (other : List ℕ) → Gives c.args.self.now other → Gives c.new.self.now other = λ other gives.
    gives-read c.args.self.now c.new.self.now c.args.name.now other c.args.most c.result c.ensures.after c.ensures.after_failed c.ensures.after_refused c.ensures.same gives in
    search rules

pub read-tells : goal.read-tells
read-tells c =
    let on : (other : List ℕ) → Gives c.args.self.now other → Gives c.new.self.now other = λ other gives.
    gives-read c.args.self.now c.new.self.now c.args.name.now other c.args.most c.result c.ensures.after c.ensures.after_failed c.ensures.after_refused c.ensures.same gives in
    search rules
