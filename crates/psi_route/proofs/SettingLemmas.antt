-- A route's ends in the box that it leaves.
use Rattle.std.proofs.Common.{◌≡◌, ℕ, ◌<◌, ◌≤◌, List, length, slice_index, sym, ◌∙◌, subst, arith}
use Rattle.psi_route.specs.Routing.{Shape, routing, routed}
use Rattle.psi_state.specs.State.{Corners, IsBelow, box}
use Rattle.psi_state.specs.Sets.{image}
use Rattle.psi_state.specs.Hull.{corners, IsTight}
use Rattle.psi_event.proofs.LawLemmas.{tight-corners}
use Rattle.psi_route.proofs.ActingLemmas.{act-routed}
use Rattle.psi_route.specs.Accepted.{IsRouteShape}
use Rattle.psi_route.proofs.AcceptedLemmas.{routing-is}
use Rattle.psi_route.proofs.TightnessLemmas.{Routes, IsBoxOf, ends-tight, ends-below}
use Rattle.psi_route.specs.Ends.{AreEnds}

-- a route's function routes each state
pub shape-routes : (s : Shape) → IsRouteShape s → Routes (routing s) (routed s)
unfolding routed
shape-routes s is = λ x long. act-routed (routing s) (routing-is s is) x long

-- at each target the lower corner is at most the upper one
pub targets-ordered : (s : Shape) → IsRouteShape s → (l h : List ℕ) → IsBelow l h → IsBelow h s.caps → (i : ℕ) → i < length s.targets
    → slice_index l (slice_index s.targets i) ≤ slice_index h (slice_index s.targets i)
targets-ordered s is l h ordered within i small =
    let place : slice_index s.targets i < length s.caps = is.named i small in
    ordered.each (slice_index s.targets i) (omega (arith, ordered.same_length, within.same_length))

pub shape-box : (s : Shape) (l h : List ℕ) → IsBelow l h → IsBelow h s.caps → IsBoxOf (routing s) l h
shape-box s l h ordered within = record { below = ordered; count = ordered.same_length ∙ within.same_length }

-- the ends are in order
pub spread-below : (s : Shape) → IsRouteShape s → (l h u w : List ℕ) → IsBelow l h → IsBelow h s.caps → AreEnds (routing s) (routed s) l h u w → IsBelow u w
spread-below s is l h u w ordered within ends =
    ends-below (routing s) (routing-is s is) (routed s) (shape-routes s is) l h u w (shape-box s l h ordered within) ends

-- and a box with these ends is the hull, and tight
pub spread-is : (s : Shape) → IsRouteShape s → (l h u w : List ℕ) (made : Corners) → IsBelow l h → IsBelow h s.caps
    → AreEnds (routing s) (routed s) l h u w → made ≡ record { lo = u; hi = w }
    → (made ≡ corners (image (routed s) (box l h))) × IsTight (image (routed s) (box l h)) made.lo made.hi
spread-is s is l h u w made ordered within ends e =
    let tight = ends-tight (routing s) (routing-is s is) (routed s) (shape-routes s is) l h u w (shape-box s l h ordered within) ends in
    (e ∙ sym (tight-corners (routed s) l h u w ordered tight), subst (λ (m : Corners). IsTight (image (routed s) (box l h)) m.lo m.hi) (sym e) tight)
