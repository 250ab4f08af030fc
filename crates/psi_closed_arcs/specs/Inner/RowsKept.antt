-- A set of arcs as rows: each end has a row, the set of the sums to which its arcs lead.
use Rattle.std.specs.Prelude.{◌≡◌, ℕ, zero, suc, ◌+◌, ◌*◌, ◌/◌, ◌%◌, ◌<◌, ◌≤◌, List, [], ◌∷◌, Bool, true, false, ◌&&◌, nat_le, length, get_or, if◌then◌else◌}
use Rattle.psi_closed_arcs.specs.declared.ends.Arc.{Arc}
use Rattle.psi_closed_arcs.specs.declared.sums.Sums.{Sums}
use Rattle.psi_closed_arcs.specs.Sums.{has}

-- the set at a place of a list, and the empty one past the last
abbrev pub sums_at : List Sums → ℕ → Sums
sums_at rows i = get_or rows i (record { words = 0 ∷ 0 ∷ 0 ∷ 0 ∷ 0 ∷ [] })

-- the row of the end of queue l with s customers before it, 257 ends for each queue
abbrev pub row_of : List Sums → ℕ → ℕ → Sums
row_of rows l s = sums_at rows (l * 257 + s)

-- the arc of a number: arcs are counted by queues, by the customers before them, and by their own
abbrev pub arc_number : ℕ → Arc
arc_number n = record { level = n / 66049; before = n / 257 % 257; value = n % 257 }

-- whether the rows have the arc, with so many customers in all at most
abbrev pub keeps : List Sums → ℕ → Arc → Bool
keeps rows total a = nat_le (a.before + a.value) total && has (row_of rows a.level a.before) (a.before + a.value)

-- the arcs among the first n that the rows have, the last one first
abbrev pub arcs_below : List Sums → ℕ → ℕ → List Arc
arcs_below rows total zero = []
arcs_below rows total (suc n) = if keeps rows total (arc_number n) then arc_number n ∷ arcs_below rows total n else arcs_below rows total n

-- the arcs of so many queues that they have
unfoldable pub arcs_of : List Sums → ℕ → ℕ → List Arc
arcs_of rows levels total = arcs_below rows total (levels * 66049)

-- what a set of arcs keeps: its rows are those of all ends, and lead to sums in range alone
pub record AreRows (rows : List Sums) (levels total : ℕ) : Type 0 where
  pub some : 1 ≤ levels
  pub few : levels ≤ 32
  pub small : total ≤ 256
  pub count : length rows ≡ levels * 257
  pub ranged : (e t : ℕ) → e < levels * 257 → t < 320 → has (sums_at rows e) t ≡ true → (e % 257 ≤ t) × (t ≤ total)

-- no row has a sum
pub record AreEmpty (rows : List Sums) : Type 0 where
  pub each : (e t : ℕ) → e < length rows → t < 320 → has (sums_at rows e) t ≡ false
