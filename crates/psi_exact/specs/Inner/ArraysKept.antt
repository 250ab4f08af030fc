-- A fixed array is determined by its front, where all after the front is zeros.
use Rattle.std.specs.Prelude.{◌≡◌, ℕ, ◌-◌, ◌≤◌, List, length, take, drop, replicate, ◌++◌}
use Rattle.std.proofs.Common.{ap, sym, ◌∙◌, arith}
use Rattle.std.proofs.lemmas.List.{take-append-drop, length-take-le}
use Rattle.psi_exact.specs.declared.sizes.Sizes.TheInside.{Inside}

abbrev inside : List ℕ → ℕ → Inside
inside values len = record { values = values; len = len }

-- the array of sizes is its numbers and zeros after them
pub padded : (values : List ℕ) (len : ℕ) → len ≤ 13 → length values ≡ 13 → drop len values ≡ replicate (13 - len) 0
    → inside (take len values ++ replicate (13 - length (take len values)) 0) (length (take len values)) ≡ inside values len
padded values len few full rest =
    let count : length (take len values) ≡ len = length-take-le len values (omega arith) in
    let whole : take len values ++ replicate (13 - len) 0 ≡ values = ap (λ (xs : List ℕ). take len values ++ xs) (sym rest) ∙ take-append-drop len values in
    ap (λ n. inside (take len values ++ replicate (13 - n) 0) n) count ∙ ap (λ (xs : List ℕ). inside xs len) whole
