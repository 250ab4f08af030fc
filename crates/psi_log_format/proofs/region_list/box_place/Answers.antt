-- Answers in the proof of `region_list::box_place`.
use Rattle.std.proofs.Common.{◌≡◌, ◌-◌, arith, rules}
use Rattle.psi_log_format.proofs.RegionsLemmas.{last_place}
use Rattle.psi_log_format.proofs.region_list.box_place.Goals as goal

pub returns-then-eq-clause-there : goal.returns-then-eq-clause-there
returns-then-eq-clause-there c =
    let same : c.index.result.now ≡ c.args.bounds.now = search rules in
    last_place c.args.boxes.now.items (c.len-count.result - 1) c.index.result.now c.args.bounds.now (omega arith) c.index.ensures same
