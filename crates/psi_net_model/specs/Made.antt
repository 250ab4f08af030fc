-- The parts that a sample runs, and what they have to do with the network.
use Rattle.std.specs.Prelude.{◌≡◌, ℕ, List, [], ◌∷◌, map, All, Option}
use Rattle.psi_kinds.specs.Kinds.{Does}
use Rattle.psi_kinds.specs.Forms.{upset_of}
use Rattle.psi_net_model.specs.Network.{Network, caps_of, rates_of}
use Rattle.psi_net_model.specs.Valid.{IsNetwork}
use Rattle.psi_net_model.specs.declared.entries.NamedEvent.{NamedEvent}

-- one after the other, each function does to every state within the capacities what the kind of its event does
abbrev pub EachDoes : List ℕ → List (List ℕ → List ℕ) → List NamedEvent → Type 0
EachDoes caps [] [] = Unit {0}
EachDoes caps [] (event ∷ events) = ⊥
EachDoes caps (f ∷ fs) [] = ⊥
EachDoes caps (f ∷ fs) (event ∷ events) = Does caps f event.kind × EachDoes caps fs events

-- these are the network's events: their capacities, what they do and the states whose order they break
pub record AreMade {E : Type 0} (capacities : E → List ℕ) (function : E → List ℕ → List ℕ) (upset_pair : E → Option (List ℕ × List ℕ)) (caps : List ℕ) (events : List NamedEvent) (made : List E) : Type 0 where
  pub same_caps : All (λ e. capacities e ≡ caps) made
  pub functions : EachDoes caps (map function made) events
  pub marks : map upset_pair made ≡ map (λ e. upset_of caps e.kind) events

-- the parts that a sample runs are those of the network
pub record IsMadeOf {E : Type 0} (capacities : E → List ℕ) (function : E → List ℕ → List ℕ) (upset_pair : E → Option (List ℕ × List ℕ)) (net : Network) (caps : List ℕ) (made : List E) (rates : List ℕ) : Type 0 where
  pub network : IsNetwork net
  pub same_caps : caps ≡ caps_of net
  pub events : AreMade capacities function upset_pair caps net.events made
  pub same_rates : rates ≡ rates_of net
