-- Invariants of the loops of `regions::set_is_within`.
use Rattle.std.specs.Prelude.{◌≡◌, ℕ, List, drop, nat_le}
use Rattle.std.specs.List.{list_all}
use Rattle.std.specs.Cmp.Lexicographic.{pointwise}
use Rattle.psi_replay.proofs.regions.set_is_within.Given as goal

-- the states so far are within the capacities
abbrev pub invariant-loop-place : goal.invariant-loop-place
invariant-loop-place l =
    list_all (λ (x : List ℕ). pointwise nat_le x l.caps) (drop l.place l.rows.states) ≡ list_all (λ (x : List ℕ). pointwise nat_le x l.caps) l.rows.states
