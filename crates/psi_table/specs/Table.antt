-- A table of samples of a network: comma-separated values (RFC 4180, with a line feed alone at each end), a header and one row for each
-- stream.
use Rattle.std.specs.Prelude.{ℕ, suc, List, [], ◌∷◌, ◌++◌, map, codes}
use Rattle.std.specs.Fmt.{decimal, signed_decimal}
use Rattle.psi_state.specs.declared.Outcome.{Outcome}
use Rattle.psi_state.specs.declared.Outcome.TheVariants.{Met, NotMet}
use Rattle.psi_net_model.specs.Network.{Network}
use Rattle.psi_report.specs.Quantities.{Quantity, queue_quantities, reward_quantities}
use Rattle.psi_report.specs.Text.{rows_text}

-- what a state is told by: the number of customers in each queue, and the value of each reward
abbrev pub quantities : Network → List Quantity
quantities net = queue_quantities net ++ reward_quantities net

-- what the columns of quantities are called, with a word in front
abbrev pub names_after : List ℕ → List Quantity → List (List ℕ)
names_after word qs = map (λ (q : Quantity). word ++ q.name) qs

-- the header: the stream, the horizon, each queue and each reward
unfoldable pub header_fields : Network → List (List ℕ)
header_fields net =
    codes "stream" ∷ codes "horizon" ∷ (names_after (codes "queue.") (queue_quantities net) ++ names_after (codes "reward.") (reward_quantities net))

-- the values of quantities in a state
abbrev pub value_fields : List ℕ → List Quantity → List (List ℕ)
value_fields state qs = map (λ (q : Quantity). signed_decimal (q.value state)) qs

-- what is told of an outcome: where it is met, its horizon and the values in its state; as many empty fields where it isn't
abbrev pub outcome_fields : Network → Outcome → List (List ℕ)
outcome_fields net (Met horizon state) = decimal horizon ∷ value_fields state (quantities net)
outcome_fields net (NotMet limit) = [] ∷ map (λ (q : Quantity). []) (quantities net)

-- the row of a stream
unfoldable pub stream_fields : Network → (stream : ℕ) → Outcome → List (List ℕ)
stream_fields net stream outcome = decimal stream ∷ outcome_fields net outcome

-- the rows of outcomes, one for each stream from the first on
unfoldable pub stream_rows : Network → (first : ℕ) → List Outcome → List (List (List ℕ))
stream_rows net first [] = []
stream_rows net first (outcome ∷ outcomes) = stream_fields net first outcome ∷ stream_rows net (suc first) outcomes

-- the table of outcomes, one for each stream from the first on
unfoldable pub table_text : Network → (first : ℕ) → List Outcome → List ℕ
table_text net first outcomes = rows_text (header_fields net ∷ stream_rows net first outcomes)
