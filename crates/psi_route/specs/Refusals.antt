-- What makes no route, in the order in which it is told.
use Rattle.std.specs.Prelude.{ℕ, List, [], ◌∷◌, length, slice_index, Option, Some, None, Bool, true, false, not, ◌&&◌, ◌||◌, nat_eq, nat_le, nat_lt, is_some, if◌then◌else◌}
use Rattle.std.specs.List.{list_any}
use Rattle.psi_state.specs.Repeats.{repeats}
use Rattle.psi_route.specs.Routing.{Shape}
use Rattle.psi_route.specs.declared.parts.Source.{Source}
use Rattle.psi_route.specs.declared.parts.RouteRefusal.{RouteRefusal}
use Rattle.psi_route.specs.declared.parts.RouteRefusal.TheVariants.{SelfTarget, Repeated, TableLength, SizeRange}

-- the source is a target
abbrev pub is_self_target : Option Source → List ℕ → Bool
is_self_target None targets = false
is_self_target (Some source) targets = list_any (λ q. nat_eq q source.queue) targets

-- under these capacities
module _ (caps : List ℕ) where
  -- there are as many tables as targets, and each is as long as its target's capacity
  abbrev pub are_tables : List ℕ → List (List ℕ) → Bool
  are_tables [] [] = true
  are_tables [] (t ∷ ts) = false
  are_tables (q ∷ qs) [] = false
  are_tables (q ∷ qs) (t ∷ ts) = nat_eq (length t) (slice_index caps q) && are_tables qs ts

  -- there is no table, or they are the targets' tables
  abbrev pub fit_tables : List ℕ → List (List ℕ) → Bool
  fit_tables targets [] = true
  fit_tables targets (t ∷ ts) = are_tables targets (t ∷ ts)

  -- the size is 0, above a target's capacity, or 2 and more with a source or without a target
  abbrev pub is_size_off : Option Source → ℕ → List ℕ → Bool
  is_size_off source size targets = nat_eq size 0 || list_any (λ q. nat_lt (slice_index caps q) size) targets
      || (nat_le 2 size && (is_some source || nat_eq (length targets) 0))

-- the first reason for which a shape makes no route
unfoldable pub refusal_of : Shape → Option RouteRefusal
refusal_of s =
    if is_self_target s.source s.targets then Some SelfTarget
    else if repeats s.targets then Some Repeated
    else if not (fit_tables s.caps s.targets s.tables) then Some TableLength
    else if is_size_off s.caps s.source s.size s.targets then Some SizeRange
    else None
