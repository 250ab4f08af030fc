-- States of one length, kept as their numbers one after another.
use Rattle.std.specs.Prelude.{ℕ, zero, suc, List, [], ◌∷◌, take, drop}

-- so many states of so many queues
abbrev pub rows : ℕ → ℕ → List ℕ → List (List ℕ)
rows zero queues numbers = []
rows (suc count) queues numbers = take queues numbers ∷ rows count queues (drop queues numbers)

-- the number of queues, and states of so many queues
pub record States : Type 0 where
  pub queues : ℕ
  pub states : List (List ℕ)
