-- Lists of the words of a past and of a future, and what they make of a state.
use Rattle.std.specs.Prelude.{◌≡◌, ℕ, zero, suc, ◌+◌, ◌-◌, ◌<◌, List, refl}
use Rattle.std.proofs.Common.{ap, sym, ◌∙◌, arith}
use Rattle.psi_rate.specs.Rates.{event_of}
use Rattle.psi_rate.specs.Composition.{Functions, picked, function_at}
use Rattle.psi_path.specs.Path.{function_after, state_at}
use Rattle.psi_law.specs.Counting.{Words, after}
use Rattle.psi_law.specs.Chains.{Chain, IsFinite, end_of}
use Rattle.psi_law.proofs.JoinedLemmas.{joined, joined-newer, joined-older}
use Rattle.psi_law.proofs.LooksLemmas.{function_at-same}
use Rattle.psi_law.proofs.ChainLemmas.{Own, function_of-keeps, compose-first}

-- a path looks at the functions of its own steps alone
state_at-same : (f g : Functions) (k : ℕ) (x : List ℕ) → ((j : ℕ) → j < k → f (suc j) ≡ g (suc j)) → state_at f k x ≡ state_at g k x
state_at-same f g zero x same = refl
state_at-same f g (suc k) x same = rw (same k (omega arith), state_at-same f g k x (λ j small. same j (omega arith))) refl

-- its first step comes before the others
state_at-first : (f : Functions) (k : ℕ) (x : List ℕ) → state_at f (suc k) x ≡ state_at (λ t. f (suc t)) k (f 1 x)
state_at-first f zero x = refl
state_at-first f (suc k) x = ap (λ (z : List ℕ). f (suc (suc k)) z) (state_at-first f k x)

-- the state at time k, where the word of time 1 is the first of the future
abbrev pub later : Chain → Words → ℕ → List ℕ → List ℕ
later chain future k x = state_at (function_at chain.functions chain.rates future) k x

pub later-first : (chain : Chain) (word : ℕ) (future : Words) (k : ℕ) (x : List ℕ)
    → later chain (after word future) (suc k) x ≡ later chain future k (picked chain.functions chain.rates word x)
later-first chain word future k x =
    let f = function_at chain.functions chain.rates (after word future) in
    let g = function_at chain.functions chain.rates future in
    state_at-first f k x
    ∙ state_at-same (λ t. f (suc t)) g k (picked chain.functions chain.rates word x)
    (λ j small. (let a : suc (suc j) - 1 ≡ suc j = omega arith in
    let b : suc j - 1 ≡ j = omega arith in
    ap (λ i. picked chain.functions chain.rates (after word future i)) a ∙ ap (λ i. picked chain.functions chain.rates (future i)) (sym b)))

-- the state at time k under the words of both
module _ (chain : Chain) (first : ℕ) where
  abbrev pub reached : Words → ℕ → List ℕ → List ℕ
  reached words k x = state_at (function_after first chain.functions chain.rates words) k x

  reached-along : (p q : Words) (k : ℕ) (x : List ℕ) → reached (joined first p q) k x ≡ later chain q k x
  reached-along p q k x =
      state_at-same (function_after first chain.functions chain.rates (joined first p q)) (function_at chain.functions chain.rates q) k x
      (λ j small. (let e : suc j - 1 ≡ j = omega arith in
      ap (λ i. picked chain.functions chain.rates (joined first p q (first + i))) e
      ∙ (ap (λ word. picked chain.functions chain.rates word) (joined-older first p q j)
      ∙ ap (λ i. picked chain.functions chain.rates (q i)) (sym e))))

  pub both-along : (p q : Words) (k : ℕ) (x : List ℕ)
      → reached (joined first p q) k (end_of chain (joined first p q) first x) ≡ later chain q k (end_of chain p first x)
  both-along p q k x =
      reached-along p q k (end_of chain (joined first p q) first x)
      ∙ ap (λ (h : List ℕ → List ℕ). later chain q k (h x))
      (compose-first (function_at chain.functions chain.rates (joined first p q)) (function_at chain.functions chain.rates p) first (function_at-same chain.functions chain.rates (joined first p q) p first (joined-newer first p q)))

  -- it is a state of the chain
  pub reached-keeps : (words : Words) (k : ℕ) (x : List ℕ) → IsFinite chain → Own chain x → Own chain (reached words k x)
  reached-keeps words zero x is own = own
  reached-keeps words (suc k) x is own =
      (function_of-keeps chain (event_of chain.rates (words (first + (suc k - 1)))) is).each (reached words k x) (reached-keeps words k x is own)
