-- After how many steps repeats are taken out of a list of states.
use Rattle.std.specs.Prelude.{◌≡◌, ℕ, ◌-◌, ◌≤◌, min}

-- how many steps there are between two times, and how many of these are left
pub record Paced : Type 0 where
  pub every : ℕ
  pub left : ℕ

-- all of so many steps are left
abbrev pub counts_of : ℕ → Paced
counts_of every = record { every = every; left = every }

-- not all of the steps are left
abbrev pub begun : Paced → Paced
begun p = record { every = p.every; left = min p.left (p.every - 1) }

-- between two times there are 4 to 1,024 steps, and no more of them are left
pub record IsPace (p : Paced) : Type 0 where
  pub least : 4 ≤ p.every
  pub most : p.every ≤ 1024
  pub left : p.left ≤ p.every

-- a step is counted: one step fewer is left, and after the last one repeats are taken out and all steps to the next time are left
pub record CountsStep (before after : Paced) : Type 0 where
  pub fewer : 2 ≤ before.left → after ≡ record { every = before.every; left = before.left - 1 }
  pub anew : before.left ≤ 1 → after ≡ counts_of after.every
  pub soon : after.every ≤ 1024
