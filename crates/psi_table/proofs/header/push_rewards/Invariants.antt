-- Invariants of the loops of `header::push_rewards`.
use Rattle.std.proofs.Common.{◌≡◌, [], ◌++◌, map, take, codes}
use Rattle.csv.specs.Records.{fields_of, partial_of}
use Rattle.psi_table.proofs.header.push_rewards.Given as goal

abbrev pub invariant-loop-reward : goal.invariant-loop-reward
invariant-loop-reward l = record {
  fields : fields_of l.header ≡ fields_of l.fn.header ++ map (λ r. codes "reward." ++ r.name) (take l.reward l.net.rewards);
  whole : partial_of l.header ≡ [];
}
