-- How many samples have each horizon, over two lists of samples.
use Rattle.std.specs.Prelude.{ℕ, suc, ◌+◌, List, [], ◌∷◌, ◌==◌, nat_le, nat_lt, if◌then◌else◌}
use Rattle.psi_report.specs.declared.figure.HorizonCount.{HorizonCount}

-- counts with one more: it is added where its horizon is there, else it goes before the first that is higher
abbrev pub with_count : HorizonCount → List HorizonCount → List HorizonCount
with_count k [] = k ∷ []
with_count k (c ∷ cs) =
    if k.horizon == c.horizon then record { horizon = c.horizon; count = k.count + c.count } ∷ cs
    else if nat_lt k.horizon c.horizon then k ∷ c ∷ cs
    else c ∷ with_count k cs

-- the place of the first count whose horizon isn't lower
abbrev pub place_of : ℕ → List HorizonCount → ℕ
place_of t [] = 0
place_of t (c ∷ cs) = if nat_le t c.horizon then 0 else suc (place_of t cs)

-- the counts of two lists together
abbrev pub joined_counts : List HorizonCount → List HorizonCount → List HorizonCount
joined_counts [] ks = ks
joined_counts (c ∷ cs) ks = with_count c (joined_counts cs ks)
