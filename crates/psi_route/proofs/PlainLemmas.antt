-- Without tables the first target with room is chosen.
use Rattle.std.specs.Prelude.{◌≡◌, ℕ, ◌<◌, List, [], length, get_or, slice_index}
use Rattle.std.proofs.Common.{ap, arith, rules}
use Rattle.std.proofs.lemmas.Bool.{cases_order}
use Rattle.std.proofs.lemmas.List.{get_or_past}
use Rattle.psi_route.specs.Routing.{Shape, routing, weight, HasRoom, IsBest}
use Rattle.psi_route.specs.Acting.{NoRoom}

-- without tables each value is 0
pub weight-none : (s : Shape) (i v : ℕ) → length s.tables ≡ 0 → weight s i v ≡ 0
weight-none s i v plain =
    let past : get_or s.tables i [] ≡ [] = get_or_past {X = List ℕ} s.tables i [] (omega arith) in
    ap (λ (t : List ℕ). slice_index t v) past

-- so the first target with room is chosen
pub first_best : (s : Shape) (x : List ℕ) (j : ℕ) → length s.tables ≡ 0 → j < length s.targets
    → HasRoom (routing s) j (slice_index x (slice_index s.targets j)) → NoRoom (routing s) x j → IsBest (routing s) x j
first_best s x j plain place room before = search (rules, cases_order, weight-none)
