-- References to queues: by one name, or by a list of names.
use Rattle.std.specs.Prelude.{ℕ, List, [], ◌∷◌, ◌++◌, length, position, Bool, not, nat_lt, nat_eq, Option, Some, None, ok_or, Result, Ok}
use Rattle.std.specs.List.{list_any}
use Rattle.std.specs.Str.{bytes_eq}
use Rattle.toml.specs.Data.{Data}
use Rattle.psi_net_model.specs.Name.{name_of}
use Rattle.psi_net_document.specs.Refusal.{◌>>=◌, holds_or, at_key}
use Rattle.psi_net_document.specs.Values.{text_in, array_in, each}
use Rattle.psi_net_document.specs.declared.refusals.NetCause.TheVariants.{OutOfRange, UnknownQueue, SelfTarget, RepeatedTarget}
use Rattle.psi_net_document.specs.declared.refusals.Place.{Place}
use Rattle.psi_net_document.specs.declared.refusals.NetRefusal.{NetRefusal}

-- the number of the queue that has the name; a text that hasn't the form of a name is no queue's
abbrev pub number_of : List (List ℕ) → Option (List ℕ) → Option ℕ
number_of names None = None
number_of names (Some name) = position (bytes_eq name) names

-- the queue stands in the list
abbrev pub is_in : ℕ → List ℕ → Bool
is_in queue queues = list_any (λ other. nat_eq other queue) queues

-- the name of a queue
unfoldable pub queue_in : Place → List ℕ → List (List ℕ) → Data → Result ℕ NetRefusal
queue_in place key names d = do
  text ← text_in place key d
  ok_or (number_of names (name_of text)) (at_key UnknownQueue place key)

-- the value of a key at a place, in a file whose queues have these names, for an event with these sources
module _ (place : Place) (key : List ℕ) (names : List (List ℕ)) (sources : List ℕ) where
  -- the name of a queue that is none of the event's sources
  unfoldable pub target_in : Data → Result ℕ NetRefusal
  target_in d = do
    queue ← queue_in place key names d
    apart ← holds_or (at_key SelfTarget place key) (not (is_in queue sources))
    Ok queue

  -- one element of a list: the name of a queue that the list doesn't name before it, and that is none of the event's sources
  unfoldable pub target_step : ℕ → List ℕ → Data → Result (List ℕ) NetRefusal
  target_step n earlier d = do
    queue ← queue_in place key names d
    fresh ← holds_or (at_key RepeatedTarget place key) (not (is_in queue earlier))
    apart ← holds_or (at_key SelfTarget place key) (not (is_in queue sources))
    Ok (earlier ++ queue ∷ [])

  -- a list of names
  unfoldable pub targets_in : Data → Result (List ℕ) NetRefusal
  targets_in d = do
    elements ← array_in place key d
    each target_step 1 [] elements

  -- a list of at least one name
  unfoldable pub some_targets_in : Data → Result (List ℕ) NetRefusal
  some_targets_in d = do
    elements ← array_in place key d
    some ← holds_or (at_key OutOfRange place key) (nat_lt 0 (length elements))
    each target_step 1 [] elements
