-- The form of each kind does to every state what the kind does.
use Rattle.std.specs.Prelude.{◌≡◌, ℕ, ◌<◌, ◌≤◌, List, [], ◌∷◌, length, map, true, false, cond, Option, Some, None, slice_index, slice_set, IfSome, refl}
use Rattle.std.specs.List.{list_all}
use Rattle.std.proofs.Common.{ap, ◌∙◌, arith}
use Rattle.std.proofs.lemmas.Bool.{le-leb}
use Rattle.psi_state.specs.State.{IsBelow, AreCapacities}
use Rattle.psi_state.specs.Repeats.{repeats}
use Rattle.psi_state.proofs.RepeatsLemmas.{apart-from_repeats}
use Rattle.psi_guard.specs.Guarding.{guarded}
use Rattle.psi_guard.proofs.AcceptedLemmas.{few_places, first_or-none}
use Rattle.psi_route.proofs.ActingLemmas.{false-then_some}
use Rattle.psi_route.specs.declared.Source.{Source}
use Rattle.psi_route.specs.declared.Full.{Full}
use Rattle.psi_route.specs.declared.Full.TheVariants.{Lost}
use Rattle.psi_route.specs.Routing.{routed}
use Rattle.psi_route.specs.Refusals.{is_self_target}
use Rattle.psi_kinds.specs.declared.kinds.Kind.{Kind}
use Rattle.psi_kinds.specs.declared.kinds.Kind.TheVariants.{Arrival, Service, Index, Batch, Negative, Fork, Join, Guarded}
use Rattle.psi_kinds.specs.Kinds.{has_room, is_held, first_with_room, best, gain_chosen, lose, leave, may_serve, may_join, gain_each, lose_each, do_kind, AreQueues, IsKindOf, Does}
use Rattle.psi_route.specs.Accepted.{IsSource, shape}
use Rattle.psi_kinds.specs.declared.refusals.KindRefusal.TheVariants.{SelfTarget, Repeated, TableLength, SizeRange, Empty}
use Rattle.psi_kinds.specs.Refusals.{IsUnrefused, listed_refusal, lacks_queues, repeats_queue, targets_itself, lacks_tables, is_out_of_size, has_given}
use Rattle.psi_kinds.specs.Forms.{losing_part, gaining_part, source_parts, joined_parts, negative_parts, fork_parts, join_parts, form_of, function_of}
use Rattle.psi_kinds.proofs.AcceptingLemmas.{other-away}
use Rattle.psi_kinds.proofs.RoutesLemmas.{first-choice, best-choice, routed-without, routed-with, absent}
use Rattle.psi_kinds.proofs.FittingLemmas.{negative-single, fork-single, join-single}
use Rattle.psi_kinds.proofs.GuardsLemmas.{and-true, HoldAtMost, HoldsAtMost, guarded-two, allows-losing, moved-losing, all_allow-gaining, all_allow-losing, all_allow-source, all_allow-joined, leave-less, lose_each-less, move_each-losing, move_each-gaining, move_each-source, move_each-joined, room-all}

-- ---- routes

index-does : (caps : List ℕ) (from : Option Source) (to : List ℕ) (table : List (List ℕ)) (full : Full) (size : ℕ) (x : List ℕ) → IsBelow x caps
    → length to ≤ 32 → is_self_target from to ≡ false → routed (shape caps from size to table full) x ≡ do_kind caps (Index from to table full size) x
unfolding do_kind
index-does caps None to table full size x below few away =
    routed-without caps size to table full x (best caps to table size x) below.same_length (best-choice (shape caps None size to table full) x few)
index-does caps (Some from) to table full size x below few away =
    routed-with caps from size to table full x (best caps to table size x) (absent to from.queue away) (best-choice (shape caps (Some from) size to table full) x few)

-- ---- guarded events

-- the numbers of a state are at most the capacities
at_most : (caps x : List ℕ) (q : ℕ) → IsBelow x caps → q < length caps → slice_index x q ≤ slice_index caps q
at_most caps x q below small = below.each q (omega (arith, below.same_length))

source_most : (caps : List ℕ) (from : Option Source) (x : List ℕ) → IsBelow x caps → IfSome from (λ s. IsSource caps s) → HoldsAtMost caps from x
source_most caps None x below is = tt
source_most caps (Some s) x below is = at_most caps x s.queue below is.queue

negative-does : (caps : List ℕ) (from : Option Source) (on amount : ℕ) (x : List ℕ) → IsBelow x caps → IfSome from (λ s. IsSource caps s)
    → on < length caps → is_self_target from (on ∷ []) ≡ false → guarded (negative_parts caps from on amount) x ≡ do_kind caps (Negative from on amount) x
unfolding do_kind
negative-does caps from on amount x below source place away =
    let most = source_most caps from x below source in
    let cap : slice_index x on ≤ slice_index caps on = at_most caps x on below place in
    guarded-two (length caps) (source_parts caps from) (losing_part caps 0 on amount ∷ []) x (leave from x) (lose on amount (leave from x)) (may_serve from x) true
    below.same_length (negative-single caps from on amount source place away) (all_allow-source caps from x most)
    (and-true _ ∙ (allows-losing caps 0 on amount (slice_index x on) cap ∙ le-leb 0 (slice_index x on) (omega arith))) (move_each-source caps from x most)
    (λ _. ap (λ v. slice_set (leave from x) on v) (moved-losing caps 0 on amount (slice_index (leave from x) on) (let less = leave-less from x on in omega arith)))
    ∙ ap (λ t. cond t (lose on amount (leave from x)) x) (and-true (may_serve from x))

fork-does : (caps : List ℕ) (from : Option Source) (to x : List ℕ) → AreCapacities caps → IsBelow x caps → IfSome from (λ s. IsSource caps s)
    → AreQueues caps to → repeats to ≡ false → is_self_target from to ≡ false → guarded (fork_parts caps from to) x ≡ do_kind caps (Fork from to) x
unfolding do_kind
fork-does caps from to x valid below source places once away =
    let most = source_most caps from x below source in
    guarded-two (length caps) (source_parts caps from) (map (gaining_part caps) to) x (leave from x) (gain_each to (leave from x)) (may_serve from x) (list_all (has_room caps 1 x) to)
    below.same_length (fork-single caps from to source places once away) (all_allow-source caps from x most)
    (all_allow-gaining caps to x (λ i small. valid.least (slice_index to i) (places i small))) (move_each-source caps from x most)
    (λ is. move_each-gaining caps to (leave from x) once (λ i small.
    (let less = leave-less from x (slice_index to i) in let room = room-all caps to x is i small in omega arith)))

join-does : (caps from : List ℕ) (to : Option ℕ) (x : List ℕ) → AreCapacities caps → IsBelow x caps → AreQueues caps from
    → IfSome to (λ q. q < length caps) → repeats from ≡ false → has_given from to ≡ false → guarded (join_parts caps from to) x ≡ do_kind caps (Join from to) x
unfolding do_kind
join-does caps from to x valid below places target once away =
    let most : HoldAtMost caps from x = λ i small. at_most caps x (slice_index from i) below (places i small) in
    guarded-two (length caps) (map (λ q. losing_part caps 1 q 1) from) (joined_parts caps to) x (lose_each from x) (gain_chosen to 1 (lose_each from x)) (list_all (is_held x) from) (may_join caps to x)
    below.same_length (join-single caps from to places target once away) (all_allow-losing caps from x most) (all_allow-joined caps to x (some to target)) (move_each-losing caps from x most)
    (λ is. move_each-joined caps to x (lose_each from x) (lose_each-less from x) is)
  where
    some : (to : Option ℕ) → IfSome to (λ q. q < length caps) → IfSome to (λ q. 1 ≤ slice_index caps q)
    some None target = tt
    some (Some q) target = valid.least q target

-- ---- every kind

pub unrefused : (caps : List ℕ) (kind : Kind) → listed_refusal caps kind ≡ None → IsUnrefused caps kind
unrefused caps kind is =
    let a = first_or-none _ _ is in
    let b = first_or-none _ _ a.1 in
    let d = first_or-none _ _ b.1 in
    let e = first_or-none _ _ d.1 in
    record {
      queues = false-then_some (lacks_queues kind) Empty a.0;
      once = false-then_some (repeats_queue kind) Repeated b.0;
      away = false-then_some (targets_itself kind) SelfTarget d.0;
      tables = false-then_some (lacks_tables caps kind) TableLength e.0;
      size = false-then_some (is_out_of_size caps kind) SizeRange e.1;
    }

-- a list in which no queue stands twice is no longer than there are queues
few-listed : (caps to : List ℕ) → AreCapacities caps → AreQueues caps to → repeats to ≡ false → length to ≤ 32
few-listed caps to valid listed once =
    let few : length to ≤ length caps = few_places (length caps) (length to) (λ i. slice_index to i) listed (λ i j first second same. apart-from_repeats to i j once first second same) in
    let most : length caps ≤ 32 = valid.few in
    omega arith

-- the form of a kind that isn't refused does what the kind does
pub form-does : (caps : List ℕ) (kind : Kind) → AreCapacities caps → IsKindOf caps kind → IsUnrefused caps kind
    → Does caps (function_of (form_of caps kind)) kind
unfolding do_kind
form-does caps (Arrival to) valid named free =
    record { each = λ x below. routed-without caps 1 to [] Lost x (first_with_room caps to 1 x) below.same_length (first-choice caps None 1 to Lost x) }
form-does caps (Service from to full) valid named free =
    record { each = λ x below. routed-with caps from 1 to [] full x (first_with_room caps to 1 x) (absent to from.queue free.away) (first-choice caps (Some from) 1 to full x) }
form-does caps (Index from to table full size) valid named free =
    record { each = λ x below. index-does caps from to table full size x below (few-listed caps to valid named.1 free.once) free.away }
form-does caps (Batch to size) valid named free =
    record { each = λ x below. routed-without caps size to [] Lost x (first_with_room caps to size x) below.same_length (first-choice caps None size to Lost x) }
form-does caps (Negative from on amount) valid named free = record { each = λ x below. negative-does caps from on amount x below named.0 named.1 free.away }
form-does caps (Fork from to) valid named free = record { each = λ x below. fork-does caps from to x valid below named.0 named.1 free.once free.away }
form-does caps (Join from to) valid named free = record { each = λ x below. join-does caps from to x valid below named.0 named.1 free.once (other-away from to free.away) }
form-does caps (Guarded parts) valid named free = record { each = λ x below. refl }
