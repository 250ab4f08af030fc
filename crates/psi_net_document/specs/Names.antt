-- Names in a document.
use Rattle.std.specs.Prelude.{ℕ, List, not, codes, Option, Some, None, Result, Ok, Err}
use Rattle.std.specs.List.{list_any}
use Rattle.std.specs.Str.{bytes_eq}
use Rattle.toml.specs.Data.{Data}
use Rattle.psi_net_model.specs.Name.{name_of}
use Rattle.psi_net_document.specs.Refusal.{◌>>=◌, holds_or, at_key}
use Rattle.psi_net_document.specs.Values.{text_in}
use Rattle.psi_net_document.specs.declared.refusals.NetCause.TheVariants.{OutOfRange, DuplicateName}
use Rattle.psi_net_document.specs.declared.refusals.Place.{Place}
use Rattle.psi_net_document.specs.declared.refusals.NetRefusal.{NetRefusal}

-- a name, or the refusal where there is none
abbrev pub name_or : NetRefusal → Option (List ℕ) → Result (List ℕ) NetRefusal
name_or refusal None = Err refusal
name_or refusal (Some name) = Ok name

-- a string in the form of a name
unfoldable pub name_in : Place → List ℕ → Data → Result (List ℕ) NetRefusal
name_in place key d = do
  text ← text_in place key d
  name_or (at_key OutOfRange place key) (name_of text)

-- no earlier table of the section has the name
unfoldable pub unless_taken : Place → List (List ℕ) → List ℕ → Result (Unit {0}) NetRefusal
unless_taken place earlier name = holds_or (at_key DuplicateName place (codes "name")) (not (list_any (bytes_eq name) earlier))
