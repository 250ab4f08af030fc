-- Lists of queues in which none stands twice.
use Rattle.std.specs.Prelude.{ℕ, List, [], ◌∷◌, Bool, false, ◌||◌, nat_eq}
use Rattle.std.specs.List.{list_any}

-- a queue stands twice in the list
abbrev pub repeats : List ℕ → Bool
repeats [] = false
repeats (q ∷ qs) = list_any (λ p. nat_eq p q) qs || repeats qs
