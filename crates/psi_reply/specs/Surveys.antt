-- The text of a survey: how the images of all states shrink, when the map is constant, and when the region run ends with one state.
use Rattle.std.specs.Prelude.{ℕ, suc, ◌^◌, ◌≤◌, List, [], ◌∷◌, ◌++◌, codes}
use Rattle.std.specs.Fmt.{decimal}
use Rattle.psi_couple.specs.declared.answers.Coupled.{Coupled}
use Rattle.psi_couple.specs.declared.answers.Coupled.TheVariants.{At, NotAt}
use Rattle.psi_exact.specs.declared.answers.Meeting.{Meeting}
use Rattle.psi_exact.specs.declared.answers.Meeting.TheVariants.{Constant, NotConstant}
use Rattle.psi_reply.specs.Texts.{number_line, state_text}

-- a line for the number of states that the last t steps leave
unfoldable pub image_line : (t size : ℕ) → List ℕ
image_line t size = codes "image " ++ decimal t ++ codes " " ++ decimal size ++ codes "\n"

-- a line for each of the horizons 2^k, 2^(k+1), .., one for each size
abbrev pub image_lines : ℕ → List ℕ → List ℕ
image_lines k [] = []
image_lines k (size ∷ sizes) = image_line (2 ^ k) size ++ image_lines (suc k) sizes

-- the least horizon at which the map is constant, with its state, or the greatest horizon within which it isn't
unfoldable pub meeting_text : Meeting → List ℕ
meeting_text (Constant horizon state) = codes "constant " ++ decimal horizon ++ codes " " ++ state_text state ++ codes "\n"
meeting_text (NotConstant exponent) = codes "not constant within " ++ decimal (2 ^ exponent) ++ codes "\n"

-- the least horizon whose region run ends with one state, if there is one
unfoldable pub region_text : Coupled → List ℕ
region_text (At horizon state) = codes "region " ++ decimal horizon ++ codes "\n"
region_text (NotAt limit) = codes "region none\n"

-- the number of states, that of each image, when the map is constant, and when the region run ends with one state
unfoldable pub survey_text : (states : ℕ) (sizes : List ℕ) → Meeting → Coupled → List ℕ
survey_text states sizes meeting region =
    number_line (codes "states ") states ++ image_lines 0 sizes ++ meeting_text meeting ++ region_text region

-- the exponent of a greatest horizon is at most 12
abbrev pub HasExponent : Meeting → Type 0
HasExponent (Constant horizon state) = Unit {0}
HasExponent (NotConstant exponent) = exponent ≤ 12
