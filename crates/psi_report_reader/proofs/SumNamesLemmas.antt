-- The names of the queues or of the rewards whose sums figures have.
use Rattle.std.specs.Prelude.{◌≡◌, ℕ, ◌<◌, List, [], ◌∷◌, ◌++◌, map, length, filter, not, true, ◌&&◌, count_by, refl}
use Rattle.std.specs.List.{list_all}
use Rattle.std.specs.Str.{bytes_eq}
use Rattle.std.proofs.Common.{ap, ◌∙◌, inr, arith}
use Rattle.std.proofs.lemmas.Bool.{lt-ltb}
use Rattle.std.proofs.lemmas.Bool.Decides.{nat_tests}
use Rattle.std.proofs.lemmas.List.{map-append, length-map}
use Rattle.std.proofs.lemmas.List.Elements.{filter-append}
use Rattle.std.proofs.lemmas.List.Sums.{length-filter}
use Rattle.std.proofs.lemmas.Slice.Eq.{bytes_eq-Decides}
use Rattle.psi_state.specs.Ascending.{IsDistinct}
use Rattle.psi_state.specs.Members.{In}
use Rattle.psi_state.proofs.MembersLemmas.{In-append}
use Rattle.psi_report.specs.declared.figure.Item.{Item}
use Rattle.psi_report.specs.declared.figure.Figure.{Figure}
use Rattle.psi_report_reader.specs.Sound.{same_sum, most_of, is_new}

pub same-sums : (i j : Item) → same_sum i j ≡ true → i ≡ j
same-sums i j same = grind arith

-- the names of the sums of queues, or of rewards
abbrev pub names : Item → List Figure → List (List ℕ)
names i fs = map (λ (f : Figure). f.name) (filter (λ (f : Figure). same_sum f.item i) fs)

pub names-append : (i : Item) (fs gs : List Figure) → names i (fs ++ gs) ≡ names i fs ++ names i gs
names-append i fs gs =
    ap (map (λ (f : Figure). f.name)) (filter-append (λ (f : Figure). same_sum f.item i) fs gs)
    ∙ map-append (λ (f : Figure). f.name) (filter (λ (f : Figure). same_sum f.item i) fs) (filter (λ (f : Figure). same_sum f.item i) gs)

names-count : (i : Item) (fs : List Figure) → length (names i fs) ≡ count_by (λ e. same_sum e.item i) fs
names-count i fs = length-map (filter (λ (f : Figure). same_sum f.item i) fs) (λ (f : Figure). f.name) ∙ length-filter (λ (f : Figure). same_sum f.item i) fs

-- none of the sums has a name
abbrev Unnamed : Item → List ℕ → List Figure → Type 0
Unnamed i name fs = list_all (λ e. not (same_sum e.item i && bytes_eq e.name name)) fs ≡ true

unnamed-out : (i : Item) (name : List ℕ) (fs : List Figure) → Unnamed i name fs → In name (names i fs) → ⊥
unnamed-out i name [] is there = there
unnamed-out i name (e ∷ fs) is there = grind (arith, (bytes_eq-Decides e.name name).1, unnamed-out i name fs)

unnamed-in : (i : Item) (name : List ℕ) (fs : List Figure) → (In name (names i fs) → ⊥) → Unnamed i name fs
unnamed-in i name [] out = refl
unnamed-in i name (e ∷ fs) out = grind (arith, (bytes_eq-Decides e.name name).0, unnamed-in i name fs)

-- a sum is new where its name is, and where there may be one more
pub new-out : (fs : List Figure) (f : Figure) → is_new fs f ≡ true → (In f.name (names f.item fs) → ⊥) × (length (names f.item fs) < most_of f.item)
new-out fs f new = (unnamed-out f.item f.name fs (grind arith), grind (arith, nat_tests, names-count f.item fs))

pub new-in : (fs : List Figure) (f : Figure) → (In f.name (names f.item fs) → ⊥) → length (names f.item fs) < most_of f.item → is_new fs f ≡ true
new-in fs f out few =
    rw (unnamed-in f.item f.name fs out, lt-ltb (count_by (λ e. same_sum e.item f.item) fs) (most_of f.item) (let count = names-count f.item fs in omega arith)) refl

-- ---- names that differ

pub distinct-push : (xs : List (List ℕ)) (x : List ℕ) → IsDistinct xs → (In x xs → ⊥) → IsDistinct (xs ++ x ∷ [])
distinct-push [] x differ out = ((λ there. there), tt)
distinct-push (y ∷ xs) x differ out =
    ((λ there. grind (arith, In-append y xs (x ∷ []))), distinct-push xs x differ.1 (λ there. out (inr there)))
