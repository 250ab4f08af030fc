-- Tables that fit.
use Rattle.std.proofs.Common.{◌≡◌, ℕ, List, [], ◌∷◌, length, Bool, true, false, nat_eq, refl, ap}
use Rattle.std.proofs.lemmas.Bool.{eq-eqb}
use Rattle.psi_route.specs.Refusals.{are_tables, fit_tables}

-- where there are tables, they are to be those of the targets
pub fit_tables-some : (caps targets : List ℕ) (tables : List (List ℕ)) → (tables ≡ [] → ⊥) → fit_tables caps targets tables ≡ are_tables caps targets tables
fit_tables-some caps targets [] some = absurd (some refl)
fit_tables-some caps targets (t ∷ ts) some = refl

pub not_empty : {A : Type 0} (xs : List A) (b : Bool) → b ≡ nat_eq (length xs) 0 → b ≡ false → xs ≡ [] → ⊥
not_empty {A} xs b tells is empty =
    let none_there : length xs ≡ 0 = ap (λ (ys : List A). length ys) empty in
    let yes : nat_eq (length xs) 0 ≡ true = eq-eqb (length xs) 0 none_there in absurd cc
