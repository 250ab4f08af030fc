-- The states that the calls are given are within the capacities.
use Rattle.std.specs.Prelude.{◌≡◌, ℕ, List, [], refl}
use Rattle.std.proofs.Common.{subst, arith}
use Rattle.psi_state.specs.State.{IsBelow}
use Rattle.psi_state.specs.declared.Outcome.TheVariants.{Met}
use Rattle.psi_state.specs.Members.{In}
use Rattle.psi_state.specs.Sets.{insert_state}
use Rattle.psi_state.proofs.BoxesLemmas.{below-itself, In-of_all_states}
use Rattle.psi_pool.proofs.WithinLemmas.{within-inserted}
use Rattle.psi_region.specs.Region.{Area, start}
use Rattle.psi_net_model.specs.Network.{Network, caps_of}
use Rattle.psi_report.specs.Samples.{IsSampleOf}

pub same_below : (x caps : List ℕ) → x ≡ caps → IsBelow x caps
same_below x caps same = subst (λ (y : List ℕ). IsBelow x y) same (below-itself x)

pub one_below : (caps x : List ℕ) (old new : List (List ℕ)) → new ≡ insert_state x old → old ≡ [] → x ≡ caps
    → (z : List ℕ) → In z new → IsBelow z caps
one_below caps x old new is none same =
    within-inserted caps x [] new (subst (λ (xs : List (List ℕ)). new ≡ insert_state x xs) none is) (same_below x caps same) (λ z absent. absurd absent)

pub all_below : (own caps : List ℕ) (area : Area) → area ≡ start own → own ≡ caps → (z : List ℕ) → In z area.states → IsBelow z caps
all_below own caps area is same z member =
    subst (λ (y : List ℕ). IsBelow z y) same (In-of_all_states own z (subst (λ (a : Area). In z a.states) is member))

pub full_sample : (net : Network) (x : List ℕ) → x ≡ caps_of net → IsSampleOf net (Met 1 x)
full_sample net x same = (record { exponent = 0; few = omega arith; power = refl }, same_below x (caps_of net) same)
