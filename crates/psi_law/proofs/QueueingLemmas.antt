-- A network for examples: one queue, which customers join and leave.
use Rattle.std.specs.Prelude.{◌≡◌, ℕ, ◌-◌, ◌*◌, ◌≤◌, List, [], ◌∷◌, map, slice_index, codes}
use Rattle.std.proofs.Common.{inl, inr, ap, sym, ◌∙◌, arith}
use Rattle.std.proofs.lemmas.Grind.{common_steps}
use Rattle.psi_state.specs.Members.{In}
use Rattle.psi_route.specs.declared.Full.TheVariants.{Lost}
use Rattle.psi_kinds.specs.declared.kinds.Kind.{Kind}
use Rattle.psi_kinds.specs.declared.kinds.Kind.TheVariants.{Arrival, Service}
use Rattle.psi_kinds.specs.Refusals.{refusal_of}
use Rattle.psi_rate.specs.Rates.{total}
use Rattle.psi_net_model.specs.Network.{Network}
use Rattle.psi_net_model.specs.Valid.{IsNetwork}
use Rattle.psi_net_model.specs.declared.entries.NamedEvent.{NamedEvent}
use Rattle.psi_law.specs.Chains.{Chain, flow_to, IsBalanced}

-- ---- weights that balance

abbrev tail : List ℕ → List ℕ
tail [] = []
tail (n ∷ ns) = ns

-- functions with the same list of values have the same value at each member
same-map : {A : Type 0} (f g : A → ℕ) (xs : List A) (y : A) → map f xs ≡ map g xs → In y xs → f y ≡ g y
same-map f g [] y same member = absurd member
same-map f g (x ∷ xs) y same member = elim member [
  | inl here ↦ ap f here ∙ (ap (λ (ns : List ℕ). slice_index ns 0) same ∙ ap g (sym here))
  | inr there ↦ same-map f g xs y (ap (λ (ns : List ℕ). tail ns) same) there
]

-- so weights balance where two lists of numbers are the same
pub balanced-by : (chain : Chain) (weight : List ℕ → ℕ) → map (flow_to chain weight) chain.states ≡ map (λ y. total chain.rates * weight y) chain.states → IsBalanced chain weight
balanced-by chain weight same = grind (arith, common_steps, same-map)

-- and a value is at most a number where what it is above it is 0 at each state
pub bounded-by : (chain : Chain) (value : List ℕ → ℕ) (high : ℕ) → map (λ x. value x - high) chain.states ≡ map (λ x. 0) chain.states → (x : List ℕ) → In x chain.states → value x ≤ high
bounded-by chain value high same x member = (let e = same-map (λ y. value y - high) (λ y. 0) chain.states x same member in omega arith)

-- ---- the network

abbrev pub event : ℕ → Kind → NamedEvent
event rate kind = record { name = codes "e"; server = 1; rate = rate; kind = kind }

-- one queue with this capacity and this limit, which customers join at the rate 1 and leave at the rate 2; `first.toml` with capacity 2
abbrev pub queueing : ℕ → ℕ → Network
queueing capacity limit = record {
  queues = record { name = codes "a"; capacity = capacity; servers = 1 } ∷ [];
  events = event 1 (Arrival (0 ∷ [])) ∷ event 2 (Service (record { queue = 0; k = 1 }) [] Lost) ∷ [];
  limit = limit;
  split = 256;
  rewards = [];
}

-- its states weigh 4, 2 and 1 with capacity 2
abbrev pub halves : List ℕ → ℕ
halves x = slice_index (4 ∷ 2 ∷ 1 ∷ []) (slice_index x 0)

-- it is a network, whatever the limit is
pub queueing-kept : (capacity limit : ℕ) → 1 ≤ capacity → capacity ≤ 2 → limit ≤ 22 → IsNetwork (queueing capacity limit)
unfolding refusal_of
queueing-kept capacity limit some two most = grind (arith, common_steps)
