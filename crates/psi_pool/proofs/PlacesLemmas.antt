-- The states of the first nodes, by their places.
use Rattle.std.proofs.Common.{◌≡◌, ℕ, zero, suc, ◌+◌, ◌<◌, ◌≤◌, List, [], ◌∷◌, ◌++◌, length, get_or, take, map, inl, inr, ap, sym, ◌∙◌, subst, arith, map-id}
use Rattle.std.proofs.lemmas.List.{ext_get_or, get_or_default, get_or-map, get_or-take, length-map, length-take-le, map-append, take_more}
use Rattle.std.proofs.Math.Seq.{take-length}
use Rattle.psi_state.specs.Members.{In}
use Rattle.psi_state.specs.Ascending.{IsDistinct}
use Rattle.psi_state.proofs.AscendingLemmas.{distinct-last}
use Rattle.psi_pool.specs.declared.nodes.Node.{Node}
use Rattle.psi_pool.specs.Inner.NodesKept.{node_at, states}
use Rattle.psi_pool.proofs.SortingLemmas.{In-got}

-- x is the state of a node from one place on, before another
abbrev pub StandsIn : List Node → ℕ → ℕ → List ℕ → Type 0
StandsIn nodes from to x = (i : ℕ) × (from ≤ i) × (i < to) × (x ≡ (node_at nodes i).state)

-- a node that is read
pub node-read : (nodes : List Node) (i : ℕ) (d : Node) → i < length nodes → get_or nodes i d ≡ node_at nodes i
node-read nodes i d within = get_or_default nodes i d (record { state = []; next = 4096 }) within

pub place-of : (nodes : List Node) (n : ℕ) (x : List ℕ) → In x (states nodes n) → StandsIn nodes 0 n x
place-of [] zero x member = absurd member
place-of [] (suc n) x member = absurd member
place-of (m ∷ nodes) zero x member = absurd member
place-of (m ∷ nodes) (suc n) x member = elim member [
  | inl e ↦ (0, omega arith, omega arith, e)
  | inr t ↦ (let found = place-of nodes n x t in (suc found.0, omega arith, (let small = found.2 in omega arith), found.3))
]

pub length-states : (nodes : List Node) (n : ℕ) → n ≤ length nodes → length (states nodes n) ≡ n
length-states nodes n within = length-map (take n nodes) (λ (m : Node). m.state) ∙ length-take-le n nodes within

state-at : (nodes : List Node) (n i : ℕ) → i < n → n ≤ length nodes → get_or (states nodes n) i [] ≡ (node_at nodes i).state
state-at nodes n i small within =
    get_or-map (λ (m : Node). m.state) (take n nodes) i (record { state = []; next = 4096 }) [] (omega (arith, length-take-le n nodes within))
    ∙ ap (λ (m : Node). m.state) (get_or-take n nodes i (record { state = []; next = 4096 }) small)

pub In-at : (nodes : List Node) (n i : ℕ) (x : List ℕ) → i < n → n ≤ length nodes → x ≡ (node_at nodes i).state → In x (states nodes n)
In-at nodes n i x small within e =
    subst (λ (y : List ℕ). In y (states nodes n)) (state-at nodes n i small within ∙ sym e) (In-got (states nodes n) i [] (omega (arith, length-states nodes n within)))

-- what a function makes of each state
pub states-moved : (f : List ℕ → List ℕ) (old now : List Node) (n : ℕ) → n ≤ length old → n ≤ length now
    → ((i : ℕ) → i < n → (node_at now i).state ≡ f (node_at old i).state) → states now n ≡ map f (states old n)
states-moved f old now n old_within now_within each =
    let front = length-states old n old_within in
    let count = length-states now n now_within in
    ext_get_or [] (states now n) (map f (states old n)) (count ∙ sym (length-map (states old n) f ∙ front))
    (λ i small. (let less : i < n = omega arith in
    state-at now n i less now_within
    ∙ (each i less ∙ sym (get_or-map f (states old n) i [] [] (omega arith) ∙ ap f (state-at old n i less old_within)))))

-- the same states at the same places
pub states-same : (old now : List Node) (n : ℕ) → n ≤ length old → n ≤ length now
    → ((i : ℕ) → i < n → (node_at now i).state ≡ (node_at old i).state) → states now n ≡ states old n
states-same old now n old_within now_within each = states-moved (λ x. x) old now n old_within now_within each ∙ map-id (states old n)

-- one node more
pub states-next : (nodes : List Node) (n : ℕ) → n < length nodes → states nodes (n + 1) ≡ states nodes n ++ (node_at nodes n).state ∷ []
states-next nodes n within =
    ap (λ (ns : List Node). map (λ (m : Node). m.state) ns) (take_more nodes n (record { state = []; next = 4096 }) within)
    ∙ map-append (λ (m : Node). m.state) (take n nodes) (node_at nodes n ∷ [])

-- one node more, whose state is new
pub distinct-more : (nodes : List Node) (n : ℕ) → n < length nodes → IsDistinct (states nodes n) → (In (node_at nodes n).state (states nodes n) → ⊥)
    → IsDistinct (states nodes (n + 1))
distinct-more nodes n within distinct absent =
    subst (λ (xs : List (List ℕ)). IsDistinct xs) (sym (states-next nodes n within)) (distinct-last (states nodes n) (node_at nodes n).state distinct absent)

-- the first nodes, on their own
pub states-take : (nodes : List Node) (n : ℕ) → states (take n nodes) (length (take n nodes)) ≡ states nodes n
states-take nodes n = ap (λ (ns : List Node). map (λ (m : Node). m.state) ns) (take-length (take n nodes))
