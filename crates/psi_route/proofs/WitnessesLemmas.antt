-- A state of a box with a number of its own for each target and for the source of a route.
use Rattle.std.proofs.Common.{◌≡◌, ℕ, ◌<◌, ◌≤◌, List, length, slice_index, inl, inr, sym, ◌∙◌, subst, arith, refl}
use Rattle.std.proofs.lemmas.Bool.{cases_eq}
use Rattle.psi_state.specs.State.{IsBelow}
use Rattle.psi_state.specs.Boxes.{IsBetween}
use Rattle.psi_event.proofs.ChoiceLemmas.{choose_each}
use Rattle.psi_route.specs.Routing.{Routing, IsRouting}
use Rattle.psi_route.proofs.MonotoneLemmas.{place_of}

-- what is chosen for a queue
pub record Held (r : Routing) (l h : List ℕ) (A : ℕ → ℕ → Type 0) (S : ℕ → Type 0) (p v : ℕ) : Type 0 where
  pub low : slice_index l p ≤ v
  pub high : v ≤ slice_index h p
  pub target : (i : ℕ) → i < r.places → r.queue i ≡ p → A i v
  pub own : p ≡ r.source → S v

-- a state of the box with a number of its own for each target and for the source
pub record State (r : Routing) (l h : List ℕ) (A : ℕ → ℕ → Type 0) (S : ℕ → Type 0) : Type 0 where
  pub state : List ℕ
  pub between : IsBetween l h state
  pub targets : (i : ℕ) → i < r.places → A i (slice_index state (r.queue i))
  pub source : r.source < r.queues → S (slice_index state r.source)

pub state_with : (r : Routing) → IsRouting r → (l h : List ℕ) → IsBelow l h → length l ≡ r.queues → (A : ℕ → ℕ → Type 0) (S : ℕ → Type 0)
    → ((i : ℕ) → i < r.places → (w : ℕ) × (slice_index l (r.queue i) ≤ w) × (w ≤ slice_index h (r.queue i)) × A i w)
    → (r.source < r.queues → (w : ℕ) × (slice_index l r.source ≤ w) × (w ≤ slice_index h r.source) × S w)
    → State r l h A S
state_with r is l h below count A S target source =
    let made = choose_each (λ p v. Held r l h A S p v) r.queues (λ p small. held p small) in
    let long : length made.0 ≡ r.queues = made.1 in
    record {
      state = made.0;
      between = record {
        low = record { same_length = count ∙ sym long; each = λ p small. (made.2 p (omega arith)).low };
        high = record { same_length = long ∙ (sym count ∙ below.same_length); each = λ p small. (made.2 p (omega arith)).high };
      };
      targets = λ i small. (made.2 (r.queue i) (is.is_queue i small)).target i small refl;
      source = λ small. (made.2 r.source small).own refl;
    }
  where
    held : (p : ℕ) → p < r.queues → (v : ℕ) × Held r l h A S p v
    held p small =
        elim (place_of r p) [
          | inr found ↦ (let i = found.0 in
              let within : i < r.places = found.1 in
              let at : r.queue i ≡ p = found.2 in
              let w = target i within in (
                w.0,
                record {
                  low = subst (λ q. slice_index l q ≤ w.0) at w.1;
                  high = subst (λ q. w.0 ≤ slice_index h q) at w.2;
                  target = λ k less e. subst (λ n. A n w.0) (is.apart i k within less (at ∙ sym e)) w.3;
                  own = λ e. absurd (is.no_source i within (at ∙ e));
                },
              ))
          | inl apart ↦ elim (cases_eq p r.source) [
            | inl e ↦ (let w = source (subst (λ q. q < r.queues) e small) in (
              w.0,
              record {
                low = subst (λ q. slice_index l q ≤ w.0) (sym e) w.1;
                high = subst (λ q. w.0 ≤ slice_index h q) (sym e) w.2;
                target = λ k less at. absurd (apart k less at);
                own = λ d. w.3;
              },
            ))
            | inr ne ↦ (
              slice_index l p,
              record {
                low = omega arith;
                high = below.each p (omega arith);
                target = λ k less at. absurd (apart k less at);
                own = λ e. absurd (ne e);
              },
            )
          ]
        ]
