-- Walks on packed states, by how many words a state takes.
use Rattle.std.specs.Prelude.{ℕ, List}
use Rattle.psi_event.specs.Law.{Function}
use Rattle.psi_path.specs.Sums.{Worth}
use Rattle.psi_path_packed.specs.Walker.{IsWalkerOf}
use Rattle.psi_path_packed.specs.declared.by_words.ByWords.{ByWords}
use Rattle.psi_path_packed.specs.declared.by_words.ByWords.TheVariants.{One, Two, Three, Four}

-- it walks paths of the network of these functions, with these rewards
abbrev pub IsWalkOf : List ℕ → List Function → List Worth → ByWords → Type 0
IsWalkOf caps functions worths (One walk) = IsWalkerOf 1 caps functions worths walk
IsWalkOf caps functions worths (Two walk) = IsWalkerOf 2 caps functions worths walk
IsWalkOf caps functions worths (Three walk) = IsWalkerOf 3 caps functions worths walk
IsWalkOf caps functions worths (Four walk) = IsWalkerOf 4 caps functions worths walk
