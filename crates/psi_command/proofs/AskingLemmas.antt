-- The words of a sample, written out.
use Rattle.std.specs.Prelude.{◌≡◌, ℕ, ◌^◌, ◌<◌, List, [], ◌∷◌, codes, Ok, refl}
use Rattle.std.specs.Fmt.{decimal}
use Rattle.std.proofs.Common.{ap, ◌∙◌}
use Rattle.psi_command.specs.Command.{sample}
use Rattle.psi_command.specs.Words.{command_of}
use Rattle.psi_command.proofs.NumeralsLemmas.{number_written}

sample-asked : (name : List ℕ) (seed stream : ℕ) → seed < 2 ^ 64 → stream < 2 ^ 64
    → command_of (codes "sample" ∷ name ∷ decimal seed ∷ decimal stream ∷ []) ≡ Ok (sample name seed stream)
unfolding command_of
sample-asked name seed stream small less = rw (number_written seed small, number_written stream less) refl

-- words that are those of a sample ask for it
pub sample_asked : (words : List (List ℕ)) (name : List ℕ) (seed stream : ℕ) → words ≡ codes "sample" ∷ name ∷ decimal seed ∷ decimal stream ∷ []
    → seed < 2 ^ 64 → stream < 2 ^ 64 → command_of words ≡ Ok (sample name seed stream)
sample_asked words name seed stream are small less = ap command_of are ∙ sample-asked name seed stream small less
