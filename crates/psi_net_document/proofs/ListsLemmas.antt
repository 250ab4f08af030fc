-- The code's lists, and those of the definitions.
use Rattle.std.proofs.Common.{◌≡◌, ℕ, List, [], ◌∷◌, map, Ok, Vec, Global, refl, ap}
use Rattle.toml.specs.Data.{Data}
use Rattle.toml.specs.View.{view, items_of}
use Rattle.toml.proofs.Views.{view-Array}
use Rattle.toml.specs.declared.value.Value.{Value, Array}
use Rattle.psi_net_document.specs.Values.{elements_of, array_in}
use Rattle.psi_net_document.specs.declared.refusals.Place.{Place}

pub elements_of-items_of : (ds : List Data) → elements_of (items_of ds) ≡ ds
elements_of-items_of [] = refl
elements_of-items_of (d ∷ ds) = ap (λ (es : List Data). d ∷ es) (elements_of-items_of ds)

-- a value that is an array
pub array_read : (place : Place) (key : List ℕ) (value : Value) (v : Vec Value Global) (vs : List Value) → value ≡ Array v → vs ≡ v.items → array_in place key (view value) ≡ Ok (map view vs)
unfolding array_in
array_read place key value v vs is all = rw (is, view-Array, all) (ap (λ (ds : List Data). Ok ds) (elements_of-items_of (map view v.items)))
