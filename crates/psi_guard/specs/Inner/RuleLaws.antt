-- Laws. A guarded event by its queues: each has a guard, and a function on its numbers that rises slowly.
use Rattle.std.specs.Prelude.{◌≡◌, ℕ, ◌+◌, ◌<◌, ◌≤◌, true, false, cond, ◌⊎◌, List, length, slice_index, refl}
use Rattle.std.proofs.Common.{inl, inr, ap, sym, ◌∙◌, subst, arith}
use Rattle.std.proofs.lemmas.Bool.{cases_Bool}
use Rattle.psi_state.specs.State.{IsBelow}
use Rattle.psi_event.specs.Law.{IsClosed}
use Rattle.psi_guard.specs.declared.parts.Part.{Part}
use Rattle.psi_guard.specs.Guarding.{shifted, moved, all_allow, next, map_places, guarded, part_of}
use Rattle.psi_guard.specs.Refusals.{AreGuards, at}
use Rattle.psi_guard.specs.Inner.PlacesLaws.{part_of-each, part_of-at, next-part_of, all_allow-true, all_allow-false, length-map_places, slice_index-map_places, shifted-rises, shifted-slow}
use Rattle.psi_guard.specs.Rule.{IsRule, rule, RefusesSome, Makes, FitsGuard}

pub fits_guard : (caps : List ℕ) (parts : List Part) (q : ℕ) → AreGuards caps parts → FitsGuard (slice_index caps q) (part_of caps parts q)
fits_guard caps parts q guards =
    part_of-each caps parts (λ p part. FitsGuard (slice_index caps p) part) q
    (λ i small. (let fits = guards.each i small in record { guard = fits.guard; most = fits.most; ceiling = fits.ceiling }))
    (record { guard = omega arith; most = omega arith; ceiling = omega arith })

pub moved-rises : (part : Part) (v d : ℕ) → moved part v ≤ moved part (v + d)
moved-rises part v d = (let step : shifted part.shift v ≤ shifted part.shift (v + d) = shifted-rises part.shift v d in omega arith)

pub moved-slow : (part : Part) (v d : ℕ) → moved part (v + d) ≤ moved part v + d
moved-slow part v d = (let step : shifted part.shift (v + d) ≤ shifted part.shift v + d = shifted-slow part.shift v d in omega arith)

pub is_rule : (caps : List ℕ) (parts : List Part) → AreGuards caps parts → IsRule (rule caps parts)
is_rule caps parts guards = record {
  guard = λ p place. (fits_guard caps parts p guards).guard;
  most = λ p place. (fits_guard caps parts p guards).most;
  rises = λ p v d place. moved-rises (part_of caps parts p) v d;
  slow = λ p v d place. moved-slow (part_of caps parts p) v d;
  top = λ p v place. (let top : (part_of caps parts p).ceiling ≤ slice_index caps p = (fits_guard caps parts p guards).ceiling in omega arith);
}

pub allowed_place : (caps : List ℕ) (parts : List Part) (x : List ℕ) (p : ℕ) → IsBelow x caps → all_allow parts x ≡ true → p < length caps
    → ((part_of caps parts p).least ≤ slice_index x p) × (slice_index x p ≤ (part_of caps parts p).most)
allowed_place caps parts x p below is place =
    part_of-each caps parts (λ q part. (part.least ≤ slice_index x q) × (slice_index x q ≤ part.most)) p (all_allow-true parts x is)
    (omega arith, below.each p (omega (arith, below.same_length)))

pub guarded-moves : (parts : List Part) (x : List ℕ) → all_allow parts x ≡ true → guarded parts x ≡ map_places (next parts) 0 x
unfolding guarded
guarded-moves parts x is = ap (λ b. cond b (map_places (next parts) 0 x) x) is

pub guarded-keeps : (parts : List Part) (x : List ℕ) → all_allow parts x ≡ false → guarded parts x ≡ x
unfolding guarded
guarded-keeps parts x is = ap (λ b. cond b (map_places (next parts) 0 x) x) is

-- what the parts make of a state, queue by queue
pub makes : (caps : List ℕ) (parts : List Part) (x : List ℕ) → AreGuards caps parts → IsBelow x caps → Makes (rule caps parts) x (guarded parts x)
makes caps parts x guards below =
    elim (cases_Bool (all_allow parts x)) [
      | inl is ↦ subst (λ (y : List ℕ). Makes (rule caps parts) x y) (sym (guarded-moves parts x is)) (record {
        long = length-map_places (next parts) 0 x ∙ below.same_length;
        turn = inl (
          record {
            low = λ p place. (allowed_place caps parts x p below is place).0;
            high = λ p place. (allowed_place caps parts x p below is place).1;
          },
          λ p place. (let there : p < length x = omega (arith, below.same_length) in
              let e : 0 + p ≡ p = omega arith in
              slice_index-map_places (next parts) 0 x p there
              ∙ (ap (λ q. next parts q (slice_index x p)) e ∙ next-part_of caps parts p (slice_index x p) (below.each p there))),
        );
      })
      | inr is ↦ subst (λ (y : List ℕ). Makes (rule caps parts) x y) (sym (guarded-keeps parts x is)) (record {
        long = below.same_length;
        turn = inr (refuses caps parts x guards (all_allow-false parts x is), λ p place. refl);
      })
    ]
  where
    refuses : (caps : List ℕ) (parts : List Part) (x : List ℕ) → AreGuards caps parts
        → ((i : ℕ) × (i < length parts) × ((slice_index x (at parts i).queue < (at parts i).least) ⊎ ((at parts i).most < slice_index x (at parts i).queue)))
        → RefusesSome (rule caps parts) x
    refuses caps parts x guards found = record {
      queue = (at parts found.0).queue;
      place = (guards.each found.0 found.1).queue;
      out = subst (λ (part : Part). (slice_index x (at parts found.0).queue < part.least) ⊎ (part.most < slice_index x (at parts found.0).queue))
          (sym (part_of-at caps parts found.0 guards.apart found.1)) found.2;
    }

-- so a state goes to a state
pub guarded-closed : (caps : List ℕ) (parts : List Part) → AreGuards caps parts → IsClosed caps (guarded parts)
guarded-closed caps parts guards = record {
  each = λ x below. (let made = makes caps parts x guards below in
      let lawful = is_rule caps parts guards in
      record {
        same_length = made.long;
        each = λ p small. (let place : p < length caps = omega (arith, made.long) in
            elim made.turn [
              | inl move ↦ (let is : slice_index (guarded parts x) p ≡ moved (part_of caps parts p) (slice_index x p) = move.1 p place in
                  let top : moved (part_of caps parts p) (slice_index x p) ≤ slice_index caps p = lawful.top p (slice_index x p) place in omega arith)
              | inr stay ↦ (let is : slice_index (guarded parts x) p ≡ slice_index x p = stay.1 p place in
                  let old : slice_index x p ≤ slice_index caps p = below.each p (omega (arith, below.same_length)) in omega arith)
            ]);
      });
}
