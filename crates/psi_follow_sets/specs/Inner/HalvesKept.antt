-- The packed states of a list, side by side or one after another, and whether they are one.
use Rattle.std.specs.Prelude.{◌≡◌, ℕ, List, [], ◌∷◌, map, take}
use Rattle.psi_state.specs.Members.{In}
use Rattle.psi_follow_packed.specs.Views.{low_words, high_words}
use Rattle.psi_follow_packed.specs.declared.layout.Packed.{Packed}
use Rattle.psi_follow_packed.specs.declared.pairs.PackedPair.{PackedPair}

-- the words of the states of each pair, one state after another
abbrev pub halves : {K : ℕ} → List (PackedPair K) → List (List ℕ)
halves [] = []
halves (p ∷ list) = low_words p ∷ high_words p ∷ halves list

-- the words of the first states
abbrev pub words_of_first : {K : ℕ} → ℕ → List (Packed K) → List (List ℕ)
words_of_first {K} count list = map (λ (x : Packed K). x.words) (take count list)

-- the list has members, and all are x
pub record AreAll (x : List ℕ) (xs : List (List ℕ)) : Type 0 where
  pub some : In x xs
  pub each : (y : List ℕ) → In y xs → y ≡ x

-- two members differ
pub record AreTwo (xs : List (List ℕ)) : Type 0 where
  pub one : List ℕ
  pub other : List ℕ
  pub one_there : In one xs
  pub other_there : In other xs
  pub apart : one ≡ other → ⊥
