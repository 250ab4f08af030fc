-- Choosing a target: by the list alone, and by the keys.
use Rattle.std.proofs.Common.{◌≡◌, ℕ, ◌+◌, ◌^◌, ◌<◌, ◌≤◌, List, length, slice_index, slice_set, Option, Some, None, IfSome, nat_le, Bool, true, false, inl, inr, ap, sym, ◌∙◌, subst, arith}
use Rattle.std.proofs.lemmas.Bool.{leb-true, leb-false}
use Rattle.psi_route.specs.Routing.{Shape, routing, best, taken, moved, routed, HasRoom}
use Rattle.psi_route.specs.Acting.{Leads, NoRoom}
use Rattle.psi_route.proofs.ActingLemmas.{best-from_leads, best-is, best-none}
use Rattle.psi_route.specs.Inner.ActingLaws.{best-place, act-serves, act-idle}
use Rattle.psi_route.proofs.PlainLemmas.{first_best}
use Rattle.psi_route.specs.Leader.{IsLeader}
use Rattle.psi_route.specs.declared.keys.Leader.{Leader}

-- none has room
pub none-is : (s : Shape) (x : List ℕ) (n : ℕ) → length s.targets ≤ n → NoRoom (routing s) x n → None ≡ best (routing s) x
none-is s x n all none_has = sym (best-none (routing s) x (record { each = λ i small. none_has.each i (omega arith) }))

-- the customers join the first place with room, where there are no tables
pub moved-first : (s : Shape) (x : List ℕ) (i q held : ℕ) → length s.tables ≡ 0 → i < length s.targets → q ≡ slice_index s.targets i
    → held ≡ slice_index x (slice_index s.targets i) → HasRoom (routing s) i (slice_index x (slice_index s.targets i)) → NoRoom (routing s) x i
    → slice_set (taken (routing s) x) q (held + s.size) ≡ moved (routing s) x (best (routing s) x)
moved-first s x i q held plain small at is_held room before =
    ap (λ k. slice_set (taken (routing s) x) k (held + s.size)) at
    ∙ (ap (λ v. slice_set (taken (routing s) x) (slice_index s.targets i) (v + s.size)) is_held
    ∙ ap (λ o. moved (routing s) x o) (sym (best-is (routing s) x i (first_best s x i plain small room before))))

-- and none where none has room
pub moved-none : (s : Shape) (x : List ℕ) (n : ℕ) → length s.targets ≤ n → NoRoom (routing s) x n
    → moved (routing s) x None ≡ moved (routing s) x (best (routing s) x)
moved-none s x n all none_has = ap (λ o. moved (routing s) x o) (none-is s x n all none_has)

-- what is chosen is a place with room
pub chosen-place : (s : Shape) (x : List ℕ) (o : Option ℕ) → o ≡ best (routing s) x → IfSome o (λ j. j < length s.targets)
chosen-place s x None is = tt
chosen-place s x (Some j) is = (best-place (routing s) x j (sym is)).0

pub chosen-room : (s : Shape) (x : List ℕ) (o : Option ℕ) → o ≡ best (routing s) x
    → IfSome o (λ j. HasRoom (routing s) j (slice_index x (slice_index s.targets j)))
chosen-room s x None is = tt
chosen-room s x (Some j) is = (best-place (routing s) x j (sym is)).1

-- the route, by its test and its choice
pub routed-serves : (s : Shape) (x : List ℕ) (o : Option ℕ) (b : Bool) → b ≡ nat_le ((routing s).least) (slice_index x ((routing s).source))
    → b ≡ true → o ≡ best (routing s) x → moved (routing s) x o ≡ routed s x
unfolding routed
routed-serves s x o b tells serves chosen =
    ap (λ p. moved (routing s) x p) chosen
    ∙ sym (act-serves (routing s) x (leb-true ((routing s).least) (slice_index x ((routing s).source)) (sym tells ∙ serves)))

pub routed-idle : (s : Shape) (x : List ℕ) (b : Bool) → b ≡ nat_le ((routing s).least) (slice_index x ((routing s).source))
    → b ≡ false → x ≡ routed s x
unfolding routed
routed-idle s x b tells idle = sym (act-idle (routing s) x (leb-false ((routing s).least) (slice_index x ((routing s).source)) (sym tells ∙ idle)))

-- the best one, as it is found
pub leader-best : (s : Shape) (x : List ℕ) (n : ℕ) (leader : Leader) (o : Option ℕ) → n ≡ length s.targets → (leader.weight < 2 ^ 32 → o ≡ Some leader.place)
    → (2 ^ 32 ≤ leader.weight → o ≡ None) → IsLeader (routing s) x n leader → o ≡ best (routing s) x
leader-best s x n leader o all some none is =
    let r = routing s in
    elim is [
      | inl unled ↦ none (let top : leader.weight ≡ 2 ^ 32 = unled.weight in omega arith) ∙ none-is s x n (omega arith) unled.none
      | inr leading ↦ some leading.weight
          ∙ sym (best-is r x leader.place (best-from_leads r x leader.place (subst (λ k. Leads r x k leader.place) all leading.leads)))
    ]
