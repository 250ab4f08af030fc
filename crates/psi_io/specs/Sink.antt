-- What a sink holds, and how it grows by a text or by a prefix of one.
use Rattle.std.specs.Prelude.{◌≡◌, ℕ, List, ◌++◌, Option, None, Some}

-- what a sink holds once a text is appended to it, where its model has what it holds
abbrev pub appended : Option (List ℕ) → List ℕ → Option (List ℕ)
appended None text = None
appended (Some bytes) text = Some (bytes ++ text)

-- what a sink holds grew by a prefix of a text: by its front, with its back left out
pub record GrewByPrefix (before after : Option (List ℕ)) (text : List ℕ) : Type 0 where
  pub front : List ℕ
  pub back : List ℕ
  pub whole : front ++ back ≡ text
  pub grew : after ≡ appended before front

-- the bytes that were accepted grew by a prefix of a text
abbrev pub TookPrefix : (before after text : List ℕ) → Type 0
TookPrefix before after text = GrewByPrefix (Some before) (Some after) text
