-- Kinds that are moves: what they do is what the move does.
use Rattle.std.specs.Prelude.{◌≡◌, ◌≢◌, ℕ, ◌+◌, ◌-◌, List, [], ◌∷◌, length, Bool, true, false, ◌&&◌, nat_le, nat_lt, if◌then◌else◌, Option, Some, None, IfSome, slice_index, slice_set, refl}
use Rattle.std.proofs.Common.{ap, sym, subst, arith, get_or-set_other}
use Rattle.psi_route.specs.declared.Source.{Source}
use Rattle.psi_route.specs.declared.Full.{Full}
use Rattle.psi_route.specs.declared.Full.TheVariants.{Lost, Stay}
use Rattle.psi_kinds.specs.declared.kinds.Kind.{Kind}
use Rattle.psi_kinds.specs.declared.kinds.Kind.TheVariants.{Arrival, Service, Index, Batch, Negative, Fork, Join, Guarded}
use Rattle.psi_kinds.specs.declared.moves.Move.{Move}
use Rattle.psi_kinds.specs.Kinds.{lose, go_on, do_kind, IsKindOf}
use Rattle.psi_kinds.specs.Refusals.{refusal_of}
use Rattle.psi_kinds.specs.Moves.{moved, IsMove, move_of}
use Rattle.psi_kinds.proofs.AcceptingLemmas.{accepted-parts}
use Rattle.psi_kinds.proofs.DoesLemmas.{unrefused}
use Rattle.psi_kinds.proofs.RoutesLemmas.{absent}

-- ---- which services are moves

pub one_target : (from : Source) (to : List ℕ) (full : Full) → full ≡ Stay → length to ≡ 1
    → move_of (Service from to full) ≡ Some (record { from = from.queue; k = from.k; to = slice_index to 0 })
one_target from [] full stays one = absurd (omega arith)
one_target from (to ∷ []) Lost stays one = absurd cc
one_target from (to ∷ []) Stay stays one = refl
one_target from (to ∷ other ∷ rest) full stays one = absurd (omega arith)

pub other_targets : (from : Source) (to : List ℕ) (full : Full) → length to ≢ 1 → move_of (Service from to full) ≡ None
other_targets from [] Lost more = refl
other_targets from [] Stay more = refl
other_targets from (to ∷ []) full more = absurd (more refl)
other_targets from (to ∷ other ∷ rest) Lost more = refl
other_targets from (to ∷ other ∷ rest) Stay more = refl

pub lost_targets : (from : Source) (to : List ℕ) (full : Full) → full ≢ Stay → move_of (Service from to full) ≡ None
lost_targets from [] Lost other = refl
lost_targets from [] Stay other = refl
lost_targets from (to ∷ []) Lost other = refl
lost_targets from (to ∷ []) Stay other = absurd (other refl)
lost_targets from (to ∷ next ∷ rest) Lost other = refl
lost_targets from (to ∷ next ∷ rest) Stay other = refl

-- ---- what a service that is a move does

room-same : (a b : ℕ) → nat_le (a + 1) b ≡ nat_lt a b
room-same a b = grind arith

by-cases : (from : Source) (to v : ℕ) (x : List ℕ) (s r t : Bool) → r ≡ t → slice_index (lose from.queue 1 x) to ≡ v
    → (if s then go_on from (to ∷ []) Stay 1 (if r then Some to else None) x else x) ≡ (if s && t then slice_set (lose from.queue 1 x) to (v + 1) else x)
by-cases from to v x false r t same kept = refl
by-cases from to v x true false false same kept = refl
by-cases from to v x true true true same kept = ap (λ n. slice_set (lose from.queue 1 x) to (n + 1)) kept
by-cases from to v x true false true same kept = absurd cc
by-cases from to v x true true false same kept = absurd cc

pub service-moves : (caps : List ℕ) (from : Source) (to : ℕ) (x : List ℕ) → to ≢ from.queue
    → do_kind caps (Service from (to ∷ []) Stay) x ≡ moved caps (record { from = from.queue; k = from.k; to = to }) x
unfolding do_kind moved
service-moves caps from to x apart =
    by-cases from to (slice_index x to) x (nat_le from.k (slice_index x from.queue)) (nat_le (slice_index x to + 1) (slice_index caps to)) (nat_lt (slice_index x to) (slice_index caps to))
    (room-same (slice_index x to) (slice_index caps to))
    (get_or-set_other {A = ℕ} x from.queue to (slice_index x from.queue - 1) 0 apart)

-- ---- every kind

-- a move of a network, and what an event of a kind does
record IsMoveOf (caps : List ℕ) (kind : Kind) (m : Move) : Type 0 where
  pub is : IsMove caps m
  pub does : (x : List ℕ) → do_kind caps kind x ≡ moved caps m x

accepted-apart : (caps : List ℕ) (from : Source) (to : ℕ) → refusal_of caps (Service from (to ∷ []) Stay) ≡ None → to ≢ from.queue
accepted-apart caps from to accepted =
    absent (to ∷ []) from.queue (unrefused caps (Service from (to ∷ []) Stay) (accepted-parts caps (Service from (to ∷ []) Stay) accepted).0).away 0 (omega arith)

all-kinds : (caps : List ℕ) (kind : Kind) → IsKindOf caps kind → refusal_of caps kind ≡ None → IfSome (move_of kind) (λ m. IsMoveOf caps kind m)
all-kinds caps (Arrival to) named accepted = tt
all-kinds caps (Service from [] Lost) named accepted = tt
all-kinds caps (Service from [] Stay) named accepted = tt
all-kinds caps (Service from (to ∷ []) Lost) named accepted = tt
all-kinds caps (Service from (to ∷ []) Stay) named accepted =
    let apart : to ≢ from.queue = accepted-apart caps from to accepted in
    record {
      is = record { source = named.0.queue; target = named.1 0 (omega arith); apart = λ e. apart (sym e); some = named.0.least; most = named.0.most };
      does = λ x. service-moves caps from to x apart;
    }
all-kinds caps (Service from (to ∷ next ∷ rest) Lost) named accepted = tt
all-kinds caps (Service from (to ∷ next ∷ rest) Stay) named accepted = tt
all-kinds caps (Index from to table full size) named accepted = tt
all-kinds caps (Batch to size) named accepted = tt
all-kinds caps (Negative from on amount) named accepted = tt
all-kinds caps (Fork from to) named accepted = tt
all-kinds caps (Join from to) named accepted = tt
all-kinds caps (Guarded parts) named accepted = tt

of-kind : (caps : List ℕ) (kind : Kind) (m : Move) → move_of kind ≡ Some m → IsKindOf caps kind → refusal_of caps kind ≡ None → IsMoveOf caps kind m
of-kind caps kind m is named accepted = subst (λ (o : Option Move). IfSome o (λ n. IsMoveOf caps kind n)) is (all-kinds caps kind named accepted)

-- the move of an accepted kind is one of the network's
pub move-is : (caps : List ℕ) (kind : Kind) (m : Move) → move_of kind ≡ Some m → IsKindOf caps kind → refusal_of caps kind ≡ None → IsMove caps m
move-is caps kind m is named accepted = (of-kind caps kind m is named accepted).is

-- the kind does to every list of numbers what its move does
pub move-does : (caps : List ℕ) (kind : Kind) (m : Move) → move_of kind ≡ Some m → IsKindOf caps kind → refusal_of caps kind ≡ None
    → (x : List ℕ) → do_kind caps kind x ≡ moved caps m x
move-does caps kind m is named accepted x = (of-kind caps kind m is named accepted).does x
