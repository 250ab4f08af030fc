-- Keys as numbers, and the lesser one of two.
use Rattle.std.specs.Prelude.{◌≡◌, ◌⊎◌, ℕ, ◌+◌, ◌*◌, ◌≤◌, Option, Some, MatchOption}
use Rattle.psi_route.specs.declared.keys.Key.{Key}

-- keys are ordered by the tables' values, and equal ones by the places, of which there are at most 32
abbrev pub key_of : Key → ℕ
key_of key = 32 * key.weight + key.place

-- the result is the lesser of the keys that are there
abbrev pub IsLesser : Option Key → Option Key → Option Key → Type 0
IsLesser found offered result =
    MatchOption offered (result ≡ found) (λ key. MatchOption found (result ≡ Some key)
    (λ best. ((key_of key ≤ key_of best) × (result ≡ Some key)) ⊎ ((key_of best ≤ key_of key) × (result ≡ Some best))))
