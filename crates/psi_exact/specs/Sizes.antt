-- The sizes of images at the powers of two.
use Rattle.std.specs.Prelude.{ℕ, suc, ◌^◌, List, length, map}
use Rattle.psi_state.specs.State.{numbers_from}
use Rattle.psi_rate.specs.Composition.{Functions, image_at}

-- the numbers of states of the images of the horizons 1, 2, 4, .., so many
abbrev pub sizes_before : Functions → List ℕ → ℕ → List ℕ
sizes_before f caps n = map (λ k. length (image_at f caps (2 ^ k))) (numbers_from 0 n)

-- the numbers of states of the images of the horizons 1, 2, 4, .., 2^h
abbrev pub image_sizes : Functions → List ℕ → ℕ → List ℕ
image_sizes f caps h = sizes_before f caps (suc h)
