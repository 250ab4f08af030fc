-- A state is looked for along the chain of its bucket.
use Rattle.std.proofs.Common.{◌≡◌, ◌≢◌, ℕ, ◌<◌, ◌≤◌, List, length, get_or, nat_eq, true, ap, sym, ◌∙◌, arith}
use Rattle.std.specs.Cmp.Lexicographic.{pointwise}
use Rattle.psi_state.specs.Members.{In}
use Rattle.psi_state.proofs.StatesLemmas.{same-from_eq}
use Rattle.psi_pool.specs.declared.nodes.Node.{Node}
use Rattle.psi_pool.specs.Inner.BucketsKept.{bucket}
use Rattle.psi_pool.specs.Inner.NodesKept.{node_at, bucket_at, states}
use Rattle.psi_pool.proofs.PlacesLemmas.{place-of, In-at, node-read}

-- a link of the chain of the bucket of x has been come to, and no node past it has the state x
pub record IsSeeking (used : ℕ) (nodes : List Node) (n : ℕ) (x : List ℕ) (link : ℕ) : Type 0 where
  pub own : link ≢ 4096 → (link < n) × (bucket_at used nodes link ≡ bucket used x)
  pub past : (i : ℕ) → i < n → x ≡ (node_at nodes i).state → (link ≢ 4096) × (i ≤ link)

pub seek-found : (nodes : List Node) (i : ℕ) (x : List ℕ) (n : Node) → i < length nodes → n ≡ get_or nodes i n → pointwise nat_eq n.state x ≡ true
    → In x (states nodes (length nodes))
seek-found nodes i x n within read same =
    In-at nodes (length nodes) i x within (omega arith)
    (sym (same-from_eq n.state x same) ∙ ap (λ (m : Node). m.state) (read ∙ node-read nodes i n within))

pub seek-end : (used : ℕ) (nodes : List Node) (n : ℕ) (x : List ℕ) (link : ℕ) → n ≤ link → IsSeeking used nodes n x link → In x (states nodes n) → ⊥
seek-end used nodes n x link none seeking member =
    let found = place-of nodes n x member in
    let past = seeking.past found.0 found.2 found.3 in
    let within = (seeking.own past.0).0 in
    omega arith
