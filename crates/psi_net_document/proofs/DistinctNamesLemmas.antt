-- A name stands in one place of a list of different names.
use Rattle.std.proofs.Common.{◌≡◌, ℕ, zero, suc, ◌<◌, List, [], ◌∷◌, length, Some, true, false, not, refl, ap, ◌∙◌, subst, arith}
use Rattle.std.specs.Prelude.{slice_get, IsTrue}
use Rattle.std.specs.List.{prefix_len, IsDistinct, AllByRecursion}
use Rattle.std.specs.Str.{bytes_eq}
use Rattle.std.proofs.lemmas.Cmp.{nat_list_eq_equiv}
use Rattle.psi_net_model.specs.Name.{is_name, name_of}
use Rattle.psi_net_document.specs.References.{number_of}

at_place : {X : Type 0} (P : X → Type 0) (xs : List X) (i : ℕ) (x : X) → AllByRecursion P xs → slice_get xs i ≡ Some x → P x
at_place P [] i x all is = absurd cc
at_place P (y ∷ ys) zero x all is = subst P (some_same is) all.0
  where
    some_same : {A : Type 0} {a b : A} → Some a ≡ Some b → a ≡ b
    some_same e = cc
at_place P (y ∷ ys) (suc i) x all is = at_place P ys i x all.1 is

place_of : (names : List (List ℕ)) (i : ℕ) (name : List ℕ) → IsDistinct bytes_eq names → slice_get names i ≡ Some name
    → (prefix_len (λ other. not (bytes_eq name other)) names ≡ i) × (i < length names)
unfolding IsDistinct
place_of [] i name distinct is = absurd cc
place_of (other ∷ names) zero name distinct is =
    let e : other ≡ name = cc in
    let same : bytes_eq name other ≡ true = ap (λ o. bytes_eq name o) e ∙ nat_list_eq_equiv.refl name in
    (rw same refl, omega arith)
place_of (other ∷ names) (suc i) name distinct is =
    let rest = place_of names i name distinct.1 is in
    let apart : bytes_eq name other ≡ false = nat_list_eq_equiv.symm name other ∙ at_place (λ o. bytes_eq other o ≡ false) names i name distinct.0 is in
    (rw apart (omega (arith, rest.0)), omega (arith, rest.1))

-- so a name that stands in a place is the queue's of that place
pub number-here : (names : List (List ℕ)) (i : ℕ) (name : List ℕ) → IsDistinct bytes_eq names → slice_get names i ≡ Some name → IsTrue (is_name name)
    → number_of names (name_of name) ≡ Some i
number-here names i name distinct is form = grind (arith, place_of names i name distinct is)
