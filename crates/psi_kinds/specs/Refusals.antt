-- Which kinds are refused, and why.
use Rattle.std.specs.Prelude.{◌≡◌, ℕ, List, [], ◌∷◌, Bool, true, false, not, ◌&&◌, ◌||◌, nat_eq, if◌then◌else◌, Option, Some, None}
use Rattle.std.specs.Bool.{then_some}
use Rattle.std.specs.List.{list_any}
use Rattle.std.specs.Option.{option_map}
use Rattle.psi_event.specs.Choice.{first_or}
use Rattle.psi_guard.specs.Refusals as guard
use Rattle.psi_guard.specs.declared.GuardRefusal.{GuardRefusal}
use Rattle.psi_guard.specs.declared.Part.{Part}
use Rattle.psi_guard.specs.declared.GuardRefusal.TheVariants as part
use Rattle.psi_state.specs.Repeats.{repeats}
use Rattle.psi_route.specs.Refusals.{is_self_target, are_tables, is_size_off}
use Rattle.psi_kinds.specs.declared.judging.KindQueues.{KindQueues}
use Rattle.psi_kinds.specs.declared.kinds.Kind.{Kind}
use Rattle.psi_kinds.specs.declared.kinds.Kind.TheVariants.{Arrival, Service, Index, Batch, Negative, Fork, Join, Guarded}
use Rattle.psi_kinds.specs.declared.refusals.KindRefusal.{KindRefusal}
use Rattle.psi_kinds.specs.declared.refusals.KindRefusal.TheVariants.{SelfTarget, Repeated, TableLength, SizeRange, Empty, PartRange, EmptyGuard, OutOfMemory}

-- the list has nothing
abbrev pub is_empty : {A : Type 0} → List A → Bool
is_empty [] = true
is_empty (a ∷ rest) = false

-- the queues that each kind names; a negative customer's queue is a list of one, and parts are judged by themselves
abbrev pub queues_of : Kind → KindQueues
queues_of (Arrival to) = record { source = None; list = to; may_be_empty = false; other = None }
queues_of (Service from to full) = record { source = Some from; list = to; may_be_empty = true; other = None }
queues_of (Index from to table full size) = record { source = from; list = to; may_be_empty = false; other = None }
queues_of (Batch to size) = record { source = None; list = to; may_be_empty = false; other = None }
queues_of (Negative from on amount) = record { source = from; list = on ∷ []; may_be_empty = false; other = None }
queues_of (Fork from to) = record { source = from; list = to; may_be_empty = false; other = None }
queues_of (Join from to) = record { source = None; list = from; may_be_empty = false; other = to }
queues_of (Guarded parts) = record { source = None; list = []; may_be_empty = true; other = None }

-- a list that may not be empty is
abbrev pub lacks_queues : Kind → Bool
lacks_queues kind = not (queues_of kind).may_be_empty && is_empty (queues_of kind).list

-- a queue stands twice in the list of the kind
abbrev pub repeats_queue : Kind → Bool
repeats_queue kind = repeats (queues_of kind).list

-- the list has this queue, if there is one
abbrev pub has_given : List ℕ → Option ℕ → Bool
has_given queues None = false
has_given queues (Some q) = list_any (λ p. nat_eq p q) queues

-- customers would leave and join one queue: the other queue or the source is in the list
abbrev pub targets_itself : Kind → Bool
targets_itself kind = has_given (queues_of kind).list (queues_of kind).other || is_self_target (queues_of kind).source (queues_of kind).list

-- the refusal of a guarded event as that of a kind
abbrev pub of_parts : GuardRefusal → KindRefusal
of_parts part.OutOfRange = PartRange
of_parts part.Repeated = Repeated
of_parts part.Empty = EmptyGuard

-- what a refusal says of the cause that there is; `OutOfMemory` says nothing
abbrev pub IsKindRefusal : KindRefusal → Option KindRefusal → Type 0
IsKindRefusal SelfTarget cause = cause ≡ Some SelfTarget
IsKindRefusal Repeated cause = cause ≡ Some Repeated
IsKindRefusal TableLength cause = cause ≡ Some TableLength
IsKindRefusal SizeRange cause = cause ≡ Some SizeRange
IsKindRefusal Empty cause = cause ≡ Some Empty
IsKindRefusal PartRange cause = cause ≡ Some PartRange
IsKindRefusal EmptyGuard cause = cause ≡ Some EmptyGuard
IsKindRefusal OutOfMemory cause = Unit {0}

-- under these capacities
module _ (caps : List ℕ) where
  -- the tables of an index event don't fit its list
  abbrev pub lacks_tables : Kind → Bool
  lacks_tables (Index from to table full size) = not (are_tables caps to table)
  lacks_tables kind = false

  -- a size or an amount is out of its range; with a source the size is 1
  abbrev pub is_out_of_size : Kind → Bool
  is_out_of_size (Index from to table full size) = is_size_off caps from size to
  is_out_of_size (Batch to size) = is_size_off caps None size to
  is_out_of_size (Negative from on amount) = nat_eq amount 0
  is_out_of_size kind = false

  -- why the parts of a guarded kind are refused: there is none, or one part after another
  abbrev pub refusal_of_guards : List Part → Option KindRefusal
  refusal_of_guards parts = if is_empty parts then Some Empty else option_map of_parts (guard.refusal_of caps parts)

  -- why the parts of a kind are refused; guarded kinds alone have such
  abbrev pub refusal_of_parts : Kind → Option KindRefusal
  refusal_of_parts (Guarded parts) = refusal_of_guards parts
  refusal_of_parts kind = None

  -- the first cause for which the lists and numbers of a kind are refused
  abbrev pub listed_refusal : Kind → Option KindRefusal
  listed_refusal kind =
      first_or (then_some (lacks_queues kind) Empty)
      (first_or (then_some (repeats_queue kind) Repeated)
      (first_or (then_some (targets_itself kind) SelfTarget)
      (first_or (then_some (lacks_tables kind) TableLength)
      (then_some (is_out_of_size kind) SizeRange))))

  -- why a kind is refused: the first of these causes, or else of those of its parts
  unfoldable pub refusal_of : Kind → Option KindRefusal
  refusal_of kind = first_or (listed_refusal kind) (refusal_of_parts kind)

  -- the lists and numbers of a kind are no cause of a refusal
  pub record IsUnrefused (kind : Kind) : Type 0 where
    pub queues : lacks_queues kind ≡ false
    pub once : repeats_queue kind ≡ false
    pub away : targets_itself kind ≡ false
    pub tables : lacks_tables kind ≡ false
    pub size : is_out_of_size kind ≡ false
