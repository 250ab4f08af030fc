-- A state is held by a set of arcs exactly where each of its arcs is one of them.
use Rattle.std.specs.Prelude.{◌≡◌, ℕ, suc, ◌+◌, ◌<◌, List, [], ◌∷◌, length, take, slice_index, refl}
use Rattle.std.proofs.Common.{arith}
use Rattle.std.proofs.lemmas.Grind.{common_steps}
use Rattle.psi_closed_arcs.proofs.WalksLemmas.{walk-at, walk-sum}
use Rattle.psi_closed_arcs.specs.Walks.{customers, Walk, Held, IsArc}

-- a set of arcs that is the same at numbers that are
pub along : (A : ℕ → ℕ → ℕ → Type 0) (i j s t v w : ℕ) → i ≡ j → s ≡ t → v ≡ w → A i s v → A j t w
along A i j s t v w first second third a = grind (arith, common_steps)

walk-of : (A : ℕ → ℕ → ℕ → Type 0) (i s : ℕ) (vs : List ℕ) (t : ℕ) → s + customers vs ≡ t → ((j : ℕ) → j < length vs → A (i + j) (s + customers (take j vs)) (slice_index vs j))
    → Walk A i s vs t
walk-of A i s [] t sum each = omega arith
walk-of A i s (v ∷ vs) t sum each = (
  along A (i + 0) i (s + 0) s v v (omega arith) (omega arith) refl (each 0 (omega arith)),
  walk-of A (suc i) (s + v) vs t (omega arith) (λ j small.
      along A (i + suc j) (suc i + j) (s + (v + customers (take j vs))) ((s + v) + customers (take j vs)) (slice_index vs j) (slice_index vs j)
      (omega arith) (omega arith) refl (each (suc j) (omega arith))),
)

-- a held state adds up to the total
pub held-total : (A : ℕ → ℕ → ℕ → Type 0) (n t : ℕ) (x : List ℕ) → Held A n t x → customers x ≡ t
held-total A n t x held = (let sum = walk-sum A 0 0 x t held.1 in omega arith)

-- its arcs are in the set
pub held-each : (A : ℕ → ℕ → ℕ → Type 0) (n t : ℕ) (x : List ℕ) (l a v : ℕ) → Held A n t x → IsArc x l a v → A l a v
held-each A n t x l a v held is = grind (arith, common_steps, along, walk-at)

-- and a state whose arcs are is held
pub held-of : (A : ℕ → ℕ → ℕ → Type 0) (n t : ℕ) (x : List ℕ) → length x ≡ n → customers x ≡ t → ((l a v : ℕ) → IsArc x l a v → A l a v) → Held A n t x
held-of A n t x long sum each = grind (arith, common_steps, walk-of, along)

-- what is held by a set is held by a set that has its arcs
pub held-map : (A B : ℕ → ℕ → ℕ → Type 0) (n t : ℕ) (x : List ℕ) → Held A n t x → ((l a v : ℕ) → IsArc x l a v → A l a v → B l a v) → Held B n t x
held-map A B n t x held each = held-of B n t x held.0 (held-total A n t x held) (λ l a v is. each l a v is (held-each A n t x l a v held is))
