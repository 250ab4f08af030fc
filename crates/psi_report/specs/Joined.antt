-- Totals of samples in two parts, put together from the totals of each part.
use Rattle.std.specs.Prelude.{ℕ, ◌*◌, ◌^◌, ◌≤◌, ℤ, pos, ◌+ℤ◌, List, [], ◌∷◌, ◌==◌, if◌then◌else◌, All}
use Rattle.std.specs.Int.{int_min, int_max}
use Rattle.std.specs.Int.RustNames.{unsigned_abs}
use Rattle.psi_reward.specs.Worth.{worth_of}
use Rattle.psi_net_model.specs.Network.{NamedReward}
use Rattle.psi_report.specs.declared.summary.Summary.{Summary}
use Rattle.psi_report.specs.Totals.{summary_of}

-- each element made into another by the element of a second list at its place; those without one stay
abbrev pub paired : {A B : Type 0} → (A → B → A) → List A → List B → List A
paired f [] ys = []
paired f (x ∷ xs) [] = x ∷ xs
paired f (x ∷ xs) (y ∷ ys) = f x y ∷ paired f xs ys

-- what m values and n others come to together, from what each part comes to
abbrev pub joined_summary : ℕ → ℕ → Summary → Summary → Summary
joined_summary m n a b =
    if m == 0 then b else if n == 0 then a
    else record { sum = a.sum +ℤ b.sum; least = int_min a.least b.least; greatest = int_max a.greatest b.greatest }

-- what m values and one more come to together
abbrev pub with_value : ℕ → Summary → ℤ → Summary
with_value m a z = joined_summary m 1 a (summary_of (z ∷ []))

-- with the customers that a queue holds
abbrev pub with_customers : ℕ → Summary → ℕ → Summary
with_customers m a v = with_value m a (pos v)

-- with what a reward makes of a state
abbrev pub with_reward : ℕ → List ℕ → Summary → NamedReward → Summary
with_reward m state a reward = with_value m a (worth_of reward.kind state)

-- each sum is that of at most n integers of 64 bits
abbrev pub AreSmall : ℕ → List Summary → Type 0
AreSmall n summaries = All (λ s. unsigned_abs s.sum ≤ n * 2 ^ 63) summaries
