-- Lemmas. What is known of a route: the facts that no refusal leaves open.
use Rattle.std.specs.Prelude.{◌≡◌, ◌≢◌, ◌⊎◌, ℕ, ◌<◌, ◌≤◌, List, [], ◌∷◌, length, get_or, slice_index, Option, Some, None, IfSome, Bool, true, false, not, is_some, is_none, if◌then◌else◌, refl}
use Rattle.std.specs.Option.{ForSome}
use Rattle.std.proofs.Common.{inl, inr, subst, arith, rules}
use Rattle.std.proofs.lemmas.Bool.{le-leb, eqb-false, ltb-false, or_parts}
use Rattle.psi_state.specs.State.{AreCapacities}
use Rattle.psi_state.proofs.RepeatsLemmas.{any-false, apart-from_repeats}
use Rattle.psi_route.specs.Routing.{Shape, routing, source_queue, source_least, IsRouting}
use Rattle.psi_route.specs.Refusals.{is_self_target, fit_tables, refusal_of}
use Rattle.psi_route.proofs.TablesLemmas.{are_tables-true}
use Rattle.psi_route.specs.declared.parts.Source.{Source}
use Rattle.psi_route.specs.declared.parts.RouteRefusal.{RouteRefusal}
use Rattle.psi_route.specs.Accepted.{IsSource, IsRouteShape}

pub fit_tables-true : (caps targets : List ℕ) (tables : List (List ℕ)) → fit_tables caps targets tables ≡ true
    → (0 < length tables → length tables ≡ length targets)
    × ((i : ℕ) → i < length tables → length (get_or tables i []) ≡ slice_index caps (slice_index targets i))
fit_tables-true caps targets [] is = (λ some. absurd (omega arith), λ i small. absurd (omega arith))
fit_tables-true caps targets (t ∷ ts) is =
    let found = are_tables-true caps targets (t ∷ ts) is in (λ some. found.0, found.1)

-- a source that is no target
away-from_test : (source : Option Source) (targets : List ℕ) (s : Source) (i : ℕ) → is_self_target source targets ≡ false → source ≡ Some s
    → i < length targets → slice_index targets i ≢ s.queue
away-from_test source targets s i is from_there small = search (rules, eqb-false, any-false)

first_none : (a b c d : Bool) (p q r s : RouteRefusal) → (if a then Some p else if b then Some q else if not c then Some r else if d then Some s else None) ≡ None
    → (a ≡ false) × (b ≡ false) × (c ≡ true) × (d ≡ false)
first_none a b c d p q r s is = search rules

some_none : (source : Option Source) → is_some source ≡ false → is_none source ≡ true
some_none source is = grind arith

-- what is so of the source, if there is one
if_some : (caps : List ℕ) (source : Option Source) → IfSome source (λ t. IsSource caps t) → ForSome source (λ t. IsSource caps t)
if_some caps None is = λ t e. absurd cc
if_some caps (Some s) is = λ t e. (let same : s ≡ t = cc in subst (λ (u : Source). IsSource caps u) same is)

-- so what isn't refused is a route
pub accepted : (s : Shape) → AreCapacities s.caps → IfSome s.source (λ t. IsSource s.caps t) → length s.targets ≤ 32
    → ((i : ℕ) → i < length s.targets → slice_index s.targets i < length s.caps) → refusal_of s ≡ None → IsRouteShape s
unfolding refusal_of
accepted s caps source few named is = search (rules, first_none, fit_tables-true, or_parts, le-leb, if_some, away-from_test, apart-from_repeats, eqb-false, ltb-false, any-false, some_none)

-- ---- the facts by places

source-facts : (caps : List ℕ) (source : Option Source) → ForSome source (λ s. s.queue < length caps) → ForSome source (λ s. 1 ≤ s.k)
    → ForSome source (λ s. s.k ≤ slice_index caps s.queue)
    → ((source_queue source (length caps) < length caps) ⊎ (source_least source ≡ 0))
    × (source_queue source (length caps) < length caps → 1 ≤ source_least source)
    × (source_least source ≤ slice_index caps (source_queue source (length caps)))
source-facts caps None queue least most = (inr refl, λ small. absurd (omega arith), omega arith)
source-facts caps (Some s) queue least most = (inl (queue s refl), λ small. least s refl, most s refl)

no_source-facts : (caps : List ℕ) (source : Option Source) (q : ℕ) → ((s : Source) → source ≡ Some s → q ≢ s.queue) → q < length caps
    → q ≢ source_queue source (length caps)
no_source-facts caps None q other small = λ e. absurd (omega arith)
no_source-facts caps (Some s) q other small = other s refl

pub routing-is : (s : Shape) → IsRouteShape s → IsRouting (routing s)
routing-is s is = search (rules, no_source-facts, source-facts)

-- a source that is full serves
pub source-most : (s : Shape) → IsRouteShape s → (routing s).least ≤ slice_index s.caps ((routing s).source)
source-most s is = (source-facts s.caps s.source is.source is.least is.most).2
