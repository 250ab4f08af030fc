-- The line of a stream, piece by piece as it is written.
use Rattle.std.specs.Prelude.{◌≡◌, ℕ, List, ◌∷◌, false}
use Rattle.std.specs.Fmt.{decimal, signed_decimal}
use Rattle.std.specs.List.{flat_map}
use Rattle.csv.specs.Writing.{row_text, default_writer, needs_quotes}
use Rattle.psi_state.specs.declared.Outcome.{Outcome}
use Rattle.psi_reward.specs.Worth.{worth_of}
use Rattle.psi_net_model.specs.Network.{Network, NamedReward}
use Rattle.psi_table.specs.Table.{header_fields, stream_fields}

-- the line of the header
unfoldable pub header_line : Network → List ℕ
header_line net = row_text default_writer (header_fields net)

-- the line of a stream
unfoldable pub stream_line : Network → (stream : ℕ) → Outcome → List ℕ
stream_line net stream outcome = row_text default_writer (stream_fields net stream outcome)

-- fields behind others, a comma before each
abbrev pub behind : List (List ℕ) → List ℕ
behind fields = flat_map (λ (field : List ℕ). 44 ∷ field) fields

-- numbers of customers behind other fields
abbrev pub customers_fields : List ℕ → List ℕ
customers_fields state = flat_map (λ n. 44 ∷ decimal n) state

-- and the values of rewards in a state
abbrev pub rewards_fields : List ℕ → List NamedReward → List ℕ
rewards_fields state rewards = flat_map (λ (r : NamedReward). 44 ∷ signed_decimal (worth_of r.kind state)) rewards

-- a field that needs no quotes
abbrev pub IsPlainField : List ℕ → Type 0
IsPlainField field = needs_quotes default_writer field ≡ false
