-- How many different states nodes have, and which one where they have one.
use Rattle.std.proofs.Common.{◌≡◌, ◌==◌, ℕ, zero, suc, false, ◌+◌, ◌<◌, List, [], ◌∷◌, ◌++◌, Some, None, length, ap, sym, ◌∙◌, refl, arith}
use Rattle.psi_state.specs.Members.{In}
use Rattle.psi_state.proofs.SameLemmas.{same-swap}
use Rattle.psi_state.specs.Sets.{ascending, single}
use Rattle.psi_state.proofs.SetsLemmas.{In-ascending, In-of_ascending, ascending-same, single-apart}
use Rattle.psi_state.proofs.AscendingLemmas.{ascending-members, length-insert_state}
use Rattle.psi_pool.specs.declared.nodes.Node.{Node}
use Rattle.psi_pool.specs.Inner.NodesKept.{node_at, states}
use Rattle.psi_pool.proofs.PlacesLemmas.{In-at, place-of, states-next, length-states}
use Rattle.psi_pool.proofs.KeepingLemmas.{states-there}

count-new : (xs : List (List ℕ)) (x : List ℕ) → (In x xs → ⊥) → length (ascending (xs ++ x ∷ [])) ≡ length (ascending xs) + 1
count-new xs x absent =
    let grown = length-insert_state x (ascending xs) (λ member. absent (In-of_ascending x xs member)) in
    let same = ap (λ (ys : List (List ℕ)). length ys) (ascending-members (xs ++ x ∷ []) (x ∷ xs) (same-swap xs (x ∷ []))) in
    omega arith

count-there : (xs : List (List ℕ)) (x : List ℕ) → In x xs → length (ascending (xs ++ x ∷ [])) ≡ length (ascending xs)
count-there xs x member =
    ap (λ (ys : List (List ℕ)). length ys)
    (ascending-members (xs ++ x ∷ []) (x ∷ xs) (same-swap xs (x ∷ [])) ∙ states-there xs x member)

-- a node more, whose state is new
pub count-next_new : (nodes : List Node) (n count : ℕ) → n < length nodes → count ≡ length (ascending (states nodes n))
    → (In (node_at nodes n).state (states nodes n) → ⊥) → count + 1 ≡ length (ascending (states nodes (n + 1)))
count-next_new nodes n count within is absent =
    let grown = count-new (states nodes n) (node_at nodes n).state absent in
    let same = ap (λ (xs : List (List ℕ)). length (ascending xs)) (states-next nodes n within) in
    omega arith

-- a node more, whose state is there
pub count-next_there : (nodes : List Node) (n count : ℕ) → n < length nodes → count ≡ length (ascending (states nodes n))
    → In (node_at nodes n).state (states nodes n) → count ≡ length (ascending (states nodes (n + 1)))
count-next_there nodes n count within is member =
    let kept = count-there (states nodes n) (node_at nodes n).state member in
    let same = ap (λ (xs : List (List ℕ)). length (ascending xs)) (states-next nodes n within) in
    omega arith

single-all : (xs : List (List ℕ)) (s : List ℕ) → 0 < length xs → ((z : List ℕ) → In z xs → z ≡ s) → single (ascending xs) ≡ Some s
single-all [] s some each = absurd (omega arith)
single-all (x ∷ xs) s some each = ap (λ (ys : List (List ℕ)). single ys) (ascending-same s x xs each)

pub positive : (n : ℕ) → (n == 0) ≡ false → 0 < n
positive zero not = absurd cc
positive (suc n) not = omega arith

-- all nodes have one state
pub one-all : (nodes : List Node) (s : List ℕ) → (length nodes == 0) ≡ false → ((i : ℕ) → i < length nodes → (node_at nodes i).state ≡ s)
    → single (ascending (states nodes (length nodes))) ≡ Some s
one-all nodes s some each =
    let long = length-states nodes (length nodes) (omega arith) in
    let more = positive (length nodes) some in
    single-all (states nodes (length nodes)) s (omega arith)
    (λ z member. (let found = place-of nodes (length nodes) z member in found.3 ∙ each found.0 found.2))

-- two nodes have different states
pub one-apart : (nodes : List Node) (i : ℕ) (s : List ℕ) → (node_at nodes 0).state ≡ s → i < length nodes → ((node_at nodes i).state ≡ s → ⊥)
    → single (ascending (states nodes (length nodes))) ≡ None
one-apart nodes i s first within apart =
    single-apart (ascending (states nodes (length nodes))) s (node_at nodes i).state
    (In-ascending s (states nodes (length nodes)) (In-at nodes (length nodes) 0 s (omega arith) (omega arith) (sym first)))
    (In-ascending (node_at nodes i).state (states nodes (length nodes)) (In-at nodes (length nodes) i (node_at nodes i).state within (omega arith) refl))
    (λ e. apart (sym e))
