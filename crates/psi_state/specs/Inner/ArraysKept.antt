-- A fixed array is determined by its front, where all after the front is one filler.
use Rattle.std.specs.Prelude.{◌≡◌, ℕ, ◌-◌, ◌≤◌, List, length, take, drop, replicate, ◌++◌}
use Rattle.std.proofs.Common.{ap, sym, ◌∙◌, arith}
use Rattle.std.proofs.lemmas.List.{take-append-drop, length-take-le}
use Rattle.psi_state.specs.declared.state.State.TheInside.{Inside as Vector}
use Rattle.psi_state.specs.declared.queues.Queues.TheInside.{Inside as Numbers}

-- an array and its front with fillers after it are one, where the fillers stand in the array, and so is all that is made of them
pub filled : {A B : Type 0} (made : List A → ℕ → B) (filler : A) (items : List A) (len : ℕ) → len ≤ 32 → length items ≡ 32
    → drop len items ≡ replicate (32 - len) filler
    → made (take len items ++ replicate (32 - length (take len items)) filler) (length (take len items)) ≡ made items len
filled {A = A} made filler items len few full rest =
    let count : length (take len items) ≡ len = length-take-le len items (omega arith) in
    let whole : take len items ++ replicate (32 - len) filler ≡ items = ap (λ (xs : List A). take len items ++ xs) (sym rest) ∙ take-append-drop len items in
    ap (λ n. made (take len items ++ replicate (32 - n) filler) n) count ∙ ap (λ (xs : List A). made xs len) whole

abbrev vector : List ℕ → ℕ → Vector
vector values len = record { values = values; len = len }

abbrev numbers : List ℕ → ℕ → Numbers
numbers items len = record { items = items; len = len }

-- a state's array is its numbers and zeros after them
pub padded : (values : List ℕ) (len : ℕ) → len ≤ 32 → length values ≡ 32 → drop len values ≡ replicate (32 - len) 0
    → vector (take len values ++ replicate (32 - length (take len values)) 0) (length (take len values)) ≡ vector values len
padded values len few full rest = filled vector 0 values len few full rest

-- and so is that of a list of queues
pub padded_queues : (items : List ℕ) (len : ℕ) → len ≤ 32 → length items ≡ 32 → drop len items ≡ replicate (32 - len) 0
    → numbers (take len items ++ replicate (32 - length (take len items)) 0) (length (take len items)) ≡ numbers items len
padded_queues items len few full rest = filled numbers 0 items len few full rest
