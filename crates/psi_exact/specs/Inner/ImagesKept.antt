-- What the first events of a network make of all states, kept as the ranks of the images, one event's after another's.
use Rattle.std.specs.Prelude.{◌≡◌, ℕ, ◌+◌, ◌*◌, ◌<◌, ◌≤◌, ◌++◌, List, length, slice_range, slice_index_or}
use Rattle.psi_state.specs.State.{all_states}
use Rattle.psi_exact.specs.Ranks.{AreRanksOf}
use Rattle.psi_exact.specs.declared.learned.LearnedImages.{LearnedImages}

-- the ranks of the event of this number
abbrev pub images_at : LearnedImages → ℕ → List ℕ
images_at m k = slice_range m.ranks.items (k * m.size) (k * m.size + m.size)

-- so many ranks for each event, of which there are at most 1,024
pub record AreImages (count : ℕ) (m : LearnedImages) : Type 0 where
  pub same : m.size ≡ count
  pub few : m.size ≤ 65536
  pub most : m.known ≤ 1024
  pub whole : length m.ranks.items ≡ m.known * m.size

-- those of the known events are the ranks of the images of the first of these functions
pub record AreLearned (caps : List ℕ) (functions : List (List ℕ → List ℕ)) (m : LearnedImages) : Type 0 where
  pub each : (k : ℕ) → k < m.known → AreRanksOf caps (slice_index_or functions k (λ x. x)) (images_at m k)

-- the images are the ranks of all states of these capacities under the first of these functions
pub record AreKnown (caps : List ℕ) (functions : List (List ℕ → List ℕ)) (m : LearnedImages) : Type 0 where
  pub valid : AreImages (length (all_states caps)) m
  pub learned : AreLearned caps functions m

-- the second has what the first has
pub record IsSameImages (m n : LearnedImages) : Type 0 where
  pub known : n.known ≡ m.known
  pub ranks : n.ranks.items ≡ m.ranks.items

-- the second has the ranks of the images of a function after those of the first
pub record IsOneMore (caps : List ℕ) (f : List ℕ → List ℕ) (m n : LearnedImages) : Type 0 where
  pub known : n.known ≡ m.known + 1
  pub images : List ℕ
  pub are : AreRanksOf caps f images
  pub ranks : n.ranks.items ≡ m.ranks.items ++ images
