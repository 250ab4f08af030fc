-- What the lists of a set of packed states keep, and what the set is seen as.
use Rattle.std.specs.Prelude.{◌≡◌, ℕ, ◌*◌, ◌<◌, ◌≤◌, List, length, take, slice_index, EachIndex}
use Rattle.psi_follow_sets.specs.declared.lists.Lists.{Lists}
use Rattle.psi_follow_sets.specs.Inner.HalvesKept.{halves}

-- the number of states that there is room for
pub record Room : Type 0 where
  pub most : ℕ

-- the words of the states of the pairs in use
abbrev pub held : {K : ℕ} → Lists K → List (List ℕ)
held l = halves (take l.used l.pairs.items)

-- a state has at most 32 words, there is room for the states of all pairs one after another, each slot names a place there, and the first pairs are in use
pub record AreLists {K : ℕ} (l : Lists K) : Type 0 where
  pub words : K ≤ 32
  pub small : length l.states.items ≤ 4096
  pub double : length l.states.items ≡ 2 * length l.pairs.items
  pub slots : 1 ≤ length l.seen.items
  pub shift : l.shift < 64
  pub places : EachIndex l.seen.items (λ i. slice_index l.seen.items i < length l.states.items)
  pub fits : l.used ≤ length l.pairs.items
