-- Nodes that are linked by index into the buckets of a hash table.
use Rattle.std.specs.Prelude.{◌≡◌, ◌≢◌, ℕ, ◌<◌, ◌≤◌, List, [], ◌∷◌, map, take, slice_index, get_or}
use Rattle.psi_state.specs.Members.{In}
use Rattle.psi_state.specs.Ascending.{IsDistinct, HaveSame}
use Rattle.psi_pool.specs.declared.nodes.Node.{Node}
use Rattle.psi_pool.specs.Inner.BucketsKept.{bucket}

-- the node at a place, and an empty one past the last
abbrev pub node_at : List Node → ℕ → Node
node_at nodes i = get_or nodes i (record { state = []; next = 4096 })

-- the states of the first n nodes
abbrev pub states : List Node → ℕ → List (List ℕ)
states nodes n = map (λ (m : Node). m.state) (take n nodes)

-- the links lead from this one over these places, in this order, and then end: the last one leads to no node
abbrev pub LeadsOver : List Node → ℕ → List ℕ → Type 0
LeadsOver nodes link [] = link ≡ 4096
LeadsOver nodes link (place ∷ places) = (link ≡ place) × LeadsOver nodes (node_at nodes place).next places

-- nodes, where so many buckets are in use
module _ (used : ℕ) (nodes : List Node) where
  -- the bucket that the node at a place belongs to
  abbrev pub bucket_at : ℕ → ℕ
  bucket_at i = bucket used (node_at nodes i).state

  -- the link to the last of the first n nodes that belongs to the bucket: its place, or 4096 where there is none
  pub record IsLast (n b link : ℕ) : Type 0 where
    pub own : link ≢ 4096 → (link < n) × (bucket_at link ≡ b)
    pub last : (i : ℕ) → i < n → bucket_at i ≡ b → (link ≢ 4096) × (i ≤ link)

  -- the first n nodes are linked: each head leads to the last node of its bucket, and each node to the last one of its own bucket before it
  pub record IsLinked (heads : List ℕ) (n : ℕ) : Type 0 where
    pub heads_lead : (b : ℕ) → b < used → IsLast n b (slice_index heads b)
    pub nodes_lead : (i : ℕ) → i < n → IsLast i (bucket_at i) (node_at nodes i).next

  -- the state of the node at a place stands in no node before it, and this is its bucket
  pub record IsNew (place home : ℕ) : Type 0 where
    pub own : home ≡ bucket_at place
    pub small : home < used
    pub absent : In (node_at nodes place).state (states nodes place) → ⊥

  -- the first n nodes are linked, and hold the set of these states: each of them once
  pub record HoldSet (heads : List ℕ) (n : ℕ) (xs : List (List ℕ)) : Type 0 where
    pub linked : IsLinked heads n
    pub distinct : IsDistinct (states nodes n)
    pub members : HaveSame (states nodes n) xs

  -- the first n nodes stand in chains, one for each bucket: each chain ends, meets no place twice and only places in use, and each place in
  -- use stands in one chain and in no other
  pub record AreChained (heads : List ℕ) (n : ℕ) : Type 0 where
    pub chain : ℕ → List ℕ
    pub ends : (b : ℕ) → b < used → LeadsOver nodes (slice_index heads b) (chain b)
    pub once : (b : ℕ) → b < used → IsDistinct (chain b)
    pub inside : (b i : ℕ) → b < used → In i (chain b) → i < n
    pub some : (i : ℕ) → i < n → (b : ℕ) × (b < used) × In i (chain b)
    pub one : (i b c : ℕ) → b < used → c < used → In i (chain b) → In i (chain c) → b ≡ c

  -- the first n nodes are linked into chains, and no state stands twice
  pub record AreLinked (heads : List ℕ) (n : ℕ) : Type 0 where
    pub linked : IsLinked heads n
    pub chained : AreChained heads n
    pub distinct : IsDistinct (states nodes n)
