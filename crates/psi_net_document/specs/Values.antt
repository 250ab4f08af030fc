-- The values of a document: each reading takes what a look-up found, and gives a value or the first refusal.
use Rattle.std.specs.Prelude.{ℕ, ◌+◌, ℤ, pos, negsuc, List, [], ◌∷◌, length, filter, not, ◌&&◌, ◌==◌, nat_lt, nat_le, Option, Some, None, option_map, Result, Ok, Err, if◌then◌else◌}
use Rattle.std.proofs.Common.{Bor}
use Rattle.std.specs.Int.RustNames.{unsigned_abs}
use Rattle.std.specs.Cmp.Lexicographic.{slice_cmp}
use Rattle.std.specs.List.{list_any}
use Rattle.std.specs.Ordering.{nat_cmp, is_lt}
use Rattle.std.specs.Str.{bytes_eq}
use Rattle.toml.specs.Data.{Data, string, integer, array, table, Items, no_items, item, Members, no_members, member}
use Rattle.toml.specs.View.{view}
use Rattle.toml.specs.declared.value.Value.{Value}
use Rattle.psi_net_document.specs.Refusal.{◌>>=◌, holds_or, at_key, at_place}
use Rattle.psi_net_document.specs.declared.refusals.NetCause.{NetCause}
use Rattle.psi_net_document.specs.declared.refusals.NetCause.TheVariants.{UnknownKey, MissingKey, WrongType, OutOfRange, TooMany, TableLength}
use Rattle.psi_net_document.specs.declared.refusals.Place.{Place}
use Rattle.psi_net_document.specs.declared.refusals.NetRefusal.{NetRefusal}

-- the value that a look-up found
abbrev pub seen : Option (Bor Value) → Option Data
seen found = option_map (λ (v : Bor Value). view v.now) found

-- the elements of an array, in their order
abbrev pub elements_of : Items → List Data
elements_of no_items = []
elements_of (item d ds) = d ∷ elements_of ds

-- the keys of a table, in their order
abbrev pub member_keys : Members → List (List ℕ)
member_keys no_members = []
member_keys (member key d ms) = key ∷ member_keys ms

-- the keys that aren't among those known
abbrev pub unknown_keys : List (List ℕ) → List (List ℕ) → List (List ℕ)
unknown_keys known keys = filter (λ key. not (list_any (bytes_eq key) known)) keys

-- the least in byte order of a key and others
abbrev pub least_key : List ℕ → List (List ℕ) → List ℕ
least_key key [] = key
least_key key (other ∷ others) = least_key (if is_lt (slice_cmp nat_cmp other key) then other else key) others

-- of unknown keys the least in byte order is refused
abbrev pub unless_unknown : Place → List (List ℕ) → Result (Unit {0}) NetRefusal
unless_unknown place [] = Ok tt
unless_unknown place (key ∷ keys) = Err (at_key UnknownKey place (least_key key keys))

-- the table has no other keys than these
unfoldable pub no_unknown : Place → List (List ℕ) → Members → Result (Unit {0}) NetRefusal
no_unknown place known ms = unless_unknown place (unknown_keys known (member_keys ms))

-- a required key: missing, or its value is read
abbrev pub required : {A : Type 0} → Place → List ℕ → (Data → Result A NetRefusal) → Option Data → Result A NetRefusal
required place key reading None = Err (at_key MissingKey place key)
required place key reading (Some d) = reading d

-- an optional key: its default, or its value is read
abbrev pub optional : {A : Type 0} → A → (Data → Result A NetRefusal) → Option Data → Result A NetRefusal
optional default reading None = Ok default
optional default reading (Some d) = reading d

-- the value of a key at a place
module _ (place : Place) (key : List ℕ) where
  -- an integer from lo to hi
  unfoldable pub number_in : ℕ → ℕ → Data → Result ℕ NetRefusal
  number_in lo hi (integer (pos n)) = if nat_le lo n && nat_le n hi then Ok n else Err (at_key OutOfRange place key)
  number_in lo hi (integer (negsuc n)) = Err (at_key OutOfRange place key)
  number_in lo hi d = Err (at_key WrongType place key)

  -- an integer from -most to most
  unfoldable pub integer_in : ℕ → Data → Result ℤ NetRefusal
  integer_in most (integer z) = if nat_le (unsigned_abs z) most then Ok z else Err (at_key OutOfRange place key)
  integer_in most d = Err (at_key WrongType place key)

  -- a string
  unfoldable pub text_in : Data → Result (List ℕ) NetRefusal
  text_in (string text) = Ok text
  text_in d = Err (at_key WrongType place key)

  -- an array
  unfoldable pub array_in : Data → Result (List Data) NetRefusal
  array_in (array items) = Ok (elements_of items)
  array_in d = Err (at_key WrongType place key)

  -- an array of 1 to so many elements, with the cause for one that is empty
  unfoldable pub elements_in : NetCause → ℕ → Data → Result (List Data) NetRefusal
  elements_in empty most d = do
    elements ← array_in d
    some ← holds_or (at_key empty place key) (nat_lt 0 (length elements))
    few ← holds_or (at_key TooMany place key) (nat_le (length elements) most)
    Ok elements

  -- an array of exactly so many elements
  unfoldable pub counted_in : ℕ → Data → Result (List Data) NetRefusal
  counted_in count d = do
    elements ← array_in d
    fits ← holds_or (at_key TableLength place key) (length elements == count)
    Ok elements

-- an element that is a table
unfoldable pub table_in : Place → Data → Result Members NetRefusal
table_in place (table ms) = Ok ms
table_in place d = Err (at_place WrongType place)

-- the elements of an array one after another, numbered from n: each step has what was read before it
unfoldable pub each : {S : Type 0} → (ℕ → S → Data → Result S NetRefusal) → ℕ → S → List Data → Result S NetRefusal
each step n s [] = Ok s
each step n s (d ∷ ds) = do
  t ← step n s d
  each step (n + 1) t ds
