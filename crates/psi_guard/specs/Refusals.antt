-- Which parts make no guarded event.
use Rattle.std.specs.Prelude.{◌≡◌, ℕ, ◌≤◌, ◌<◌, Bool, ◌||◌, nat_eq, nat_lt, nat_le, unsigned_abs, if◌then◌else◌, List, [], ◌∷◌, ◌++◌, length, slice_index, slice_index_or, Option, Some, None}
use Rattle.std.specs.List.{list_any}
use Rattle.psi_event.specs.Choice.{first_or}
use Rattle.psi_guard.specs.Inner.PartsKept.{no_part}
use Rattle.psi_guard.specs.declared.parts.Part.{Part}
use Rattle.psi_guard.specs.declared.guarded.GuardRefusal.{GuardRefusal}
use Rattle.psi_guard.specs.declared.guarded.GuardRefusal.TheVariants.{Empty, Repeated, OutOfRange}

-- whether one of the parts names queue q
abbrev pub names : List Part → ℕ → Bool
names parts q = list_any (λ part. nat_eq part.queue q) parts

-- whether no number is from least to most, or none from floor to ceiling
abbrev pub is_empty : Part → Bool
is_empty part = nat_lt part.most part.least || nat_lt part.ceiling part.floor

-- the part at a place of a list
abbrev pub at : List Part → ℕ → Part
at parts i = slice_index_or parts i no_part

-- no two parts name one queue
pub record AreApart (parts : List Part) : Type 0 where
  pub each : (i j : ℕ) → i < length parts → j < length parts → (at parts i).queue ≡ (at parts j).queue → i ≡ j

-- under these capacities
module _ (caps : List ℕ) where
  -- whether a part's queue isn't one of the network, its most or ceiling is above the capacity, or its shift is beyond 65,535 either way
  abbrev pub is_out : Part → Bool
  is_out part =
      nat_le (length caps) part.queue || (nat_lt (slice_index caps part.queue) part.most
      || (nat_lt (slice_index caps part.queue) part.ceiling || nat_lt 65535 (unsigned_abs part.shift)))

  -- why a part can't follow the earlier ones, if it can't
  abbrev pub refusal_at : List Part → Part → Option GuardRefusal
  refusal_at earlier part =
      if is_out part then Some OutOfRange
      else (if names earlier part.queue then Some Repeated
      else (if is_empty part then Some Empty else None))

  -- the first refusal of the parts that follow the earlier ones, part by part
  abbrev pub refusal_after : List Part → List Part → Option GuardRefusal
  refusal_after earlier [] = None
  refusal_after earlier (part ∷ parts) =
      first_or (refusal_at earlier part) (refusal_after (earlier ++ part ∷ []) parts)

  -- the first refusal, part by part
  abbrev pub refusal_of : List Part → Option GuardRefusal
  refusal_of parts = refusal_after [] parts

  -- what is true of each part of a guarded event: a queue of the network, its guard and its limits within the capacity, a shift of at most 65,535 either way
  pub record FitsQueue (part : Part) : Type 0 where
    pub queue : part.queue < length caps
    pub guard : part.least ≤ part.most
    pub most : part.most ≤ slice_index caps part.queue
    pub limits : part.floor ≤ part.ceiling
    pub ceiling : part.ceiling ≤ slice_index caps part.queue
    pub shift : unsigned_abs part.shift ≤ 65535

  -- what is true of all the parts of a guarded event
  pub record AreGuards (parts : List Part) : Type 0 where
    pub each : (i : ℕ) → i < length parts → FitsQueue (at parts i)
    pub apart : AreApart parts
