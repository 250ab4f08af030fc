-- Names that differ, one more of them at the end.
use Rattle.std.specs.Prelude.{◌≡◌, ℕ, List, [], ◌∷◌, ◌++◌, true, false}
use Rattle.std.specs.List.{list_any}
use Rattle.std.specs.Str.{bytes_eq}
use Rattle.std.proofs.Common.{inl, inr}
use Rattle.std.proofs.lemmas.Bool.{both_ways, or_parts}
use Rattle.std.proofs.lemmas.List.Elements.{All-push}
use Rattle.std.proofs.lemmas.Slice.Eq.{bytes_eq-Decides}
use Rattle.psi_state.specs.Members.{In}
use Rattle.psi_net_model.specs.Name.{is_name}
use Rattle.psi_report_reader.specs.Samples.{AreNames}
use Rattle.psi_report_reader.proofs.SumNamesLemmas.{distinct-push}

-- a name that none of these is isn't among them
apart : (name : List ℕ) (names : List (List ℕ)) → list_any (bytes_eq name) names ≡ false → In name names → ⊥
apart name [] none there = there
apart name (other ∷ names) none there =
    let parts = or_parts (bytes_eq name other) (list_any (bytes_eq name) names) none in
    elim there [
      | inl is ↦ both_ways (bytes_eq name other) parts.0 ((bytes_eq-Decides name other).1 is)
      | inr behind ↦ apart name names parts.1 behind
    ]

-- one name more, which none of those before it is
pub names-push : (names : List (List ℕ)) (name : List ℕ) → AreNames names → is_name name ≡ true → list_any (bytes_eq name) names ≡ false → AreNames (names ++ name ∷ [])
names-push names name are is fresh = record {
  each = All-push (λ (n : List ℕ). is_name n ≡ true) names name are.each is;
  differ = distinct-push names name are.differ (apart name names fresh);
}
