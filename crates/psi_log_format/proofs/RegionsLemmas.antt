-- Regions stay what they are while boxes and states are put after theirs.
use Rattle.std.specs.Prelude.{◌≡◌, ℕ, ◌+◌, ◌-◌, ◌<◌, ◌≤◌, List, [], ◌∷◌, ◌++◌, length, map, take, drop, Some, option_map, refl}
use Rattle.std.specs.List.{All, slice_get}
use Rattle.std.proofs.Common.{get_or, ap, sym, ◌∙◌, arith, length-append, subst}
use Rattle.std.proofs.lemmas.List.{map-append, get_or-take, get_or_at, take_all, take_at, drop_at, take-take, drop-take}
use Rattle.std.proofs.lemmas.List.Elements.{All-head, All-tail, All-get_or}
use Rattle.std.proofs.lemmas.Option.{slice_get-get_or, get_or_from_slice_get, slice_get_within, slice_get-map}
use Rattle.psi_state.specs.State.{Corners}
use Rattle.psi_log_format.specs.Log.{LogRegion, in_box, in_set}
use Rattle.psi_log_format.specs.declared.region_list.RegionPlace.{RegionPlace}
use Rattle.psi_log_format.specs.declared.region_list.RegionPlace.TheVariants as place
use Rattle.psi_log_format.specs.Listed.{nothing, placed_region, IsPlaced}

-- the box at a place, where it is the last one, and where it is put after the others
pub last_place : (boxes : List Corners) (i : ℕ) (x y : Corners) → i < length boxes → x ≡ get_or boxes i x → x ≡ y → slice_get boxes i ≡ Some y
last_place boxes i x y small is same = slice_get-get_or boxes i x small ∙ ap (λ (z : Corners). Some z) (sym is ∙ same)

pub next_place : (boxes more : List Corners) (x : Corners) (i : ℕ) → more ≡ boxes ++ x ∷ [] → i ≡ length boxes → slice_get more i ≡ Some x
next_place boxes more x i is at =
    let size : length more ≡ length boxes + 1 = ap length is ∙ length-append boxes (x ∷ []) in
    slice_get-get_or more i x (omega arith) ∙ ap (λ (z : Corners). Some z) (ap (λ (bs : List Corners). get_or bs i x) is ∙ get_or_at boxes x [] x i (sym at))

-- a box by its place
pub box_there : (boxes : List Corners) (i : ℕ) (b : Corners) → slice_get boxes i ≡ Some b → in_box (get_or boxes i nothing) ≡ in_box b
box_there boxes i b there = ap (λ (c : Corners). in_box c) (get_or_from_slice_get boxes i b nothing there)

pub box_placed : (boxes : List Corners) (i : ℕ) (b : Corners) → slice_get boxes i ≡ Some b → i < length boxes
box_placed boxes i b there = slice_get_within boxes i b there

-- states that are put after others, by their place
pub front_kept : (old new more : List (List ℕ)) → new ≡ old ++ more → take (length old) new ≡ old
front_kept old new more is = ap (take (length old)) is ∙ take_at old more (length old) refl

pub set_there : (old new more : List (List ℕ)) (first count : ℕ) → new ≡ old ++ more → first ≡ length old → count ≡ length more → in_set (take count (drop first new)) ≡ in_set more
set_there old new more first count is at size =
    ap (λ (xs : List (List ℕ)). in_set xs)
    (ap (λ (xs : List (List ℕ)). take count (drop first xs)) is ∙ ap (take count) (drop_at old more first (sym at)) ∙ take_all count more (omega arith))

pub set_placed : (old new more : List (List ℕ)) (first count : ℕ) → new ≡ old ++ more → first ≡ length old → count ≡ length more → first + count ≤ length new
set_placed old new more first count is at size =
    let long : length new ≡ length old + length more = ap length is ∙ length-append old more in
    omega arith

-- what stood in a list stands there still once more is put after
front_of : {X : Type 0} (old new : List X) (first count : ℕ) → take (length old) new ≡ old → first + count ≤ length old → take count (drop first new) ≡ take count (drop first old)
front_of old new first count kept there =
    let size : first + (length old - first) ≡ length old = omega arith in
    sym (take-take count (length old - first) (drop first new) (omega arith))
    ∙ ap (take count) (sym (drop-take first (length old - first) new) ∙ ap (λ (k : ℕ). drop first (take k new)) size ∙ ap (drop first) kept)

module _ (boxes more : List Corners) (old new : List (List ℕ)) (front : take (length boxes) more ≡ boxes) (kept : take (length old) new ≡ old) where
  region_kept : (p : RegionPlace) → IsPlaced boxes old p → placed_region more new p ≡ placed_region boxes old p
  region_kept (place.Box i) there =
      ap (λ (c : Corners). in_box c) (sym (get_or-take (length boxes) more i nothing there) ∙ ap (λ (bs : List Corners). get_or bs i nothing) front)
  region_kept (place.Set first count) there = ap (λ (xs : List (List ℕ)). in_set xs) (front_of old new first count kept there)

  pub regions_kept : (ps : List RegionPlace) → All (IsPlaced boxes old) ps → map (placed_region more new) ps ≡ map (placed_region boxes old) ps
  regions_kept [] all = refl
  regions_kept (p ∷ ps) all =
      both (region_kept p (All-head (IsPlaced boxes old) p ps all)) (regions_kept ps (All-tail (IsPlaced boxes old) p ps all))
    where
      both : {a b : LogRegion} {xs ys : List LogRegion} → a ≡ b → xs ≡ ys → a ∷ xs ≡ b ∷ ys
      both e f = cc

  -- and a region with them
  pub regions_more : (ps qs : List RegionPlace) (p : RegionPlace) (r : LogRegion) → All (IsPlaced boxes old) ps → qs ≡ ps ++ p ∷ [] → placed_region more new p ≡ r
      → map (placed_region more new) qs ≡ map (placed_region boxes old) ps ++ r ∷ []
  regions_more ps qs p r all is same =
      ap (map (placed_region more new)) is ∙ map-append (placed_region more new) ps (p ∷ []) ∙ ap (λ (rs : List LogRegion). rs ++ placed_region more new p ∷ []) (regions_kept ps all)
      ∙ ap (λ (q : LogRegion). map (placed_region boxes old) ps ++ q ∷ []) same

-- the region at a place
pub is_there : (boxes : List Corners) (states : List (List ℕ)) (ps : List RegionPlace) (i : ℕ) (p : RegionPlace) → All (IsPlaced boxes states) ps → i < length ps → p ≡ get_or ps i p → IsPlaced boxes states p
is_there boxes states ps i p all small is =
    subst (λ (q : RegionPlace). IsPlaced boxes states q) (sym is) (All-get_or (IsPlaced boxes states) ps i p small all)

pub region_there : (boxes : List Corners) (states : List (List ℕ)) (ps : List RegionPlace) (i : ℕ) (p : RegionPlace) (r : LogRegion) → i < length ps → p ≡ get_or ps i p → placed_region boxes states p ≡ r
    → slice_get (map (placed_region boxes states) ps) i ≡ Some r
region_there boxes states ps i p r small is same =
    slice_get-map (placed_region boxes states) ps i
    ∙ ap (option_map (placed_region boxes states)) (slice_get-get_or ps i p small ∙ ap (λ (q : RegionPlace). Some q) (sym is))
    ∙ ap (λ (q : LogRegion). Some q) same
