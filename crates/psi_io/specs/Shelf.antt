-- What a shelf is asked for, and what it gives.
use Rattle.std.specs.Prelude.{◌≡◌, ℕ, ◌+◌, ◌⊎◌, List, [], ◌∷◌, ◌++◌, Option, IfSome, take, length}
use Rattle.std.specs.List.{AllByRecursion}
use Rattle.std.specs.Io.KnownBytes.{Consumes, IsAtEnd}

-- a read that a shelf was asked for: the name of the file, and the most bytes that it may have
pub record Read : Type 0 where
  pub name : List ℕ
  pub most : ℕ

-- a read that succeeded: the name of the file, the most bytes that it may have, and the bytes that were answered
pub record Given : Type 0 where
  pub name : List ℕ
  pub most : ℕ
  pub bytes : List ℕ

-- a shelf over the files of the system: the reads that it was asked for and the answers that it gave, oldest first, and its count of faults
pub record OverFiles : Type 0 where
  pub asked : List Read
  pub gave : List Given
  pub count : ℕ

-- a consumer took bytes, and the shelf recorded these bytes as one answer
pub record Delivered (before after : List Given) (name : List ℕ) (most : ℕ) (had has : List ℕ) : Type 0 where
  pub bytes : List ℕ
  pub taken : has ≡ had ++ bytes
  pub recorded : after ≡ before ++ (record { name = name; most = most; bytes = bytes }) ∷ []

-- an answer is a prefix of the file's content, up to one byte above its bound, where the content of this name is known
abbrev pub IsPrefixIn : (List ℕ → Option (List ℕ)) → Given → Type 0
IsPrefixIn told given = IfSome (told given.name) (λ whole. given.bytes ≡ take (given.most + 1) whole)

-- the answers of a call agree with these contents of files
pub record AgreesSince (told : List ℕ → Option (List ℕ)) (before after : List Given) : Type 0 where
  pub given : List Given
  pub since : after ≡ before ++ given
  pub prefixes : AllByRecursion (IsPrefixIn told) given

-- a reader gave these bytes and no others, and stopped at its end or one byte above the bound
pub record ReadUpTo (most : ℕ) (bytes : List ℕ) (had has : Option (List ℕ)) : Type 0 where
  pub consumed : Consumes had has bytes
  pub stopped : IsAtEnd has ⊎ (length bytes ≡ most + 1)

-- a consumer took the bytes of a file, from where it was opened to its end or to one byte above the bound
pub record TookFile {File : Type 0} (remaining : File → Option (List ℕ)) (most : ℕ) (had has : List ℕ) : Type 0 where
  pub opened : File
  pub left : File
  pub bytes : List ℕ
  pub taken : has ≡ had ++ bytes
  pub read : ReadUpTo most bytes (remaining opened) (remaining left)
