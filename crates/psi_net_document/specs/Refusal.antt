-- The refusals of a network file, and what a reading answers.
use Rattle.std.specs.Prelude.{◌≡◌, ℕ, List, Bool, true, false, None, Result, Ok, Err}
use Rattle.psi_net_model.specs.Name.{name_of}
use Rattle.psi_net_document.specs.declared.refusals.NetCause.{NetCause}
use Rattle.psi_net_document.specs.declared.refusals.NetCause.TheVariants as cause
use Rattle.psi_net_document.specs.declared.refusals.Place.{Place}
use Rattle.psi_net_document.specs.declared.refusals.NetRefusal.{NetRefusal}
use Rattle.psi_net_document.specs.declared.refusals.Section.TheVariants as section

-- the number of a cause
abbrev pub code_of : NetCause → ℕ
code_of cause.TooLong = 0
code_of cause.NotToml = 1
code_of cause.Version = 2
code_of cause.UnknownKey = 3
code_of cause.MissingKey = 4
code_of cause.WrongType = 5
code_of cause.OutOfRange = 6
code_of cause.TooMany = 7
code_of cause.DuplicateName = 8
code_of cause.UnknownQueue = 9
code_of cause.UnknownKind = 10
code_of cause.SelfTarget = 11
code_of cause.RepeatedTarget = 12
code_of cause.TableLength = 13
code_of cause.BatchTooLarge = 14
code_of cause.NoEvents = 15
code_of cause.TotalTooLarge = 16
code_of cause.EmptyGuard = 18

-- the file as a whole
abbrev pub top : Place
top = record { section = section.Top; number = 0 }

-- the n-th table of the array `queue`, n from 1
abbrev pub queue_place : ℕ → Place
queue_place n = record { section = section.Queue; number = n }

-- the n-th table of the array `event`, n from 1
abbrev pub event_place : ℕ → Place
event_place n = record { section = section.Event; number = n }

-- the n-th table of the array `reward`, n from 1
abbrev pub reward_place : ℕ → Place
reward_place n = record { section = section.Reward; number = n }

-- a refusal of the value at a key; a key that hasn't the form of a name isn't given
abbrev pub at_key : NetCause → Place → List ℕ → NetRefusal
at_key why place key = record { code = code_of why; section = place.section; number = place.number; key = name_of key }

-- a refusal without a key
abbrev pub at_place : NetCause → Place → NetRefusal
at_place why place = record { code = code_of why; section = place.section; number = place.number; key = None }

-- one reading after another: the first refusal is the answer
infixl 10 ◌>>=◌
abbrev pub ◌>>=◌ : {A B : Type 0} → Result A NetRefusal → (A → Result B NetRefusal) → Result B NetRefusal
(Ok x) >>= f = f x
(Err refusal) >>= f = Err refusal

-- a reading that gives nothing but that its rule holds
abbrev pub holds_or : NetRefusal → Bool → Result (Unit {0}) NetRefusal
holds_or refusal true = Ok tt
holds_or refusal false = Err refusal

-- the answer, seen by view, is the reading's: its value, or its refusal
abbrev pub Gives : {X Y : Type 0} → (X → Y) → Result X NetRefusal → Result Y NetRefusal → Type 0
Gives view (Ok x) reading = reading ≡ Ok (view x)
Gives view (Err refusal) reading = reading ≡ Err refusal
