-- What a state holds in the queues that a reward lists.
use Rattle.std.specs.Prelude.{ℕ, List, map, slice_index}

-- the numbers of customers that a state holds in these queues
abbrev pub held : List ℕ → List ℕ → List ℕ
held queues x = map (λ queue. slice_index x queue) queues
