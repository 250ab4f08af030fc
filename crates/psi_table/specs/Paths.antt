-- A table of paths of a network: comma-separated values as a table of samples, with a row of sums and counts for each stream.
use Rattle.std.specs.Prelude.{ℕ, suc, List, [], ◌∷◌, ◌++◌, map, length, codes, Option, Some, None}
use Rattle.std.specs.Fmt.{decimal, signed_decimal}
use Rattle.std.specs.List.{flat_map}
use Rattle.psi_state.specs.declared.Outcome.{Outcome}
use Rattle.psi_state.specs.declared.Outcome.TheVariants.{Met, NotMet}
use Rattle.psi_past.specs.SeedWord.{seed_word}
use Rattle.psi_reward.specs.Worth.{worth_of}
use Rattle.psi_path.specs.Path.{Path}
use Rattle.psi_path.specs.Sums.{Worth, Sums, HasCounts, ArePathSums, worth_until, chosen_until, changed_until}
use Rattle.psi_net_model.specs.Network.{Network, rates_of, functions_of}
use Rattle.psi_net_model.specs.declared.entries.NamedEvent.{NamedEvent}
use Rattle.psi_report.specs.Quantities.{Quantity, queue_quantities, reward_quantities}
use Rattle.psi_report.specs.Text.{rows_text}
use Rattle.psi_table.specs.Table.{quantities, names_after, table_text}

-- the path of a stream: that of the network's events under the words of the seed and the stream, from a state at time zero
abbrev pub stream_path : Network → (seed stream : ℕ) → List ℕ → Path
stream_path net seed stream start =
    record { functions = functions_of net; rates = rates_of net; words = seed_word seed stream; start = start }

-- what the columns of an event are called: its name and the number of its server, with a word in front
abbrev pub event_name : List ℕ → NamedEvent → List ℕ
event_name word event = word ++ event.name ++ codes "." ++ decimal event.server

-- the two columns of an event: how often it was chosen, and how often it changed the state
abbrev pub event_columns : NamedEvent → List (List ℕ)
event_columns event = event_name (codes "event.") event ∷ event_name (codes "moved.") event ∷ []

-- the header: the stream, the horizon, the number of steps, each queue, each reward, and the two columns of each event
unfoldable pub paths_header : Network → List (List ℕ)
paths_header net =
    codes "stream" ∷ codes "horizon" ∷ codes "steps"
    ∷ (names_after (codes "queue.") (queue_quantities net) ++ names_after (codes "reward.") (reward_quantities net) ++ flat_map event_columns net.events)

-- the sums of quantities over the states of a path at the times 0, 1, .., steps
abbrev pub sum_fields : Path → (steps : ℕ) → List Quantity → List (List ℕ)
sum_fields path steps qs = map (λ (q : Quantity). signed_decimal (worth_until path q.value steps)) qs

-- of events, the first of which has this number: at how many of the times 1, 2, .., steps each was chosen, and at how many of them it changed the state
unfoldable pub count_fields : Path → (steps e : ℕ) → List NamedEvent → List (List ℕ)
count_fields path steps e [] = []
count_fields path steps e (event ∷ events) =
    decimal (chosen_until path e steps) ∷ decimal (changed_until path e steps) ∷ count_fields path steps (suc e) events

-- what is told of the path of a sample: where the sample is met, its horizon, the number of steps, the sums and the counts; as many empty fields where it isn't
abbrev pub path_fields : Network → (seed steps stream : ℕ) → Outcome → List (List ℕ)
path_fields net seed steps stream (Met horizon state) =
    decimal horizon ∷ decimal steps
    ∷ (sum_fields (stream_path net seed stream state) steps (quantities net) ++ count_fields (stream_path net seed stream state) steps 0 net.events)
path_fields net seed steps stream (NotMet limit) =
    [] ∷ [] ∷ (map (λ (q : Quantity). []) (quantities net) ++ flat_map (λ (event : NamedEvent). [] ∷ [] ∷ []) net.events)

-- the row of a stream
unfoldable pub path_row : Network → (seed steps stream : ℕ) → Outcome → List (List ℕ)
path_row net seed steps stream outcome = decimal stream ∷ path_fields net seed steps stream outcome

-- the rows of the paths that begin in these samples, one for each stream from the first on
unfoldable pub path_rows : Network → (seed steps first : ℕ) → List Outcome → List (List (List ℕ))
path_rows net seed steps first [] = []
path_rows net seed steps first (outcome ∷ outcomes) = path_row net seed steps first outcome ∷ path_rows net seed steps (suc first) outcomes

-- their table
unfoldable pub paths_text : Network → (seed steps first : ℕ) → List Outcome → List ℕ
paths_text net seed steps first outcomes = rows_text (paths_header net ∷ path_rows net seed steps first outcomes)

-- the table of samples, or with a number of steps that of the paths that begin in them
abbrev pub text_of_kind : Option ℕ → Network → (seed first : ℕ) → List Outcome → List ℕ
text_of_kind None net seed first outcomes = table_text net first outcomes
text_of_kind (Some steps) net seed first outcomes = paths_text net seed steps first outcomes

-- what each reward of a network makes of a state
abbrev pub worths_of : Network → List Worth
worths_of net = map (λ r. worth_of r.kind) net.rewards

-- sums for a network: of as many queues, rewards and events
abbrev pub AreSumsFor : Network → Sums → Type 0
AreSumsFor net sums = HasCounts (length net.queues) (length net.rewards) (length net.events) sums

-- these are the sums of a path of so many steps, with the rewards of a network
abbrev pub AreSumsOf : Network → Path → (steps : ℕ) → Sums → Type 0
AreSumsOf net path steps sums = ArePathSums (length net.queues) (length net.rewards) (length net.events) (worths_of net) path steps sums

-- where the sample of a stream is met, the sums are those of its path
abbrev pub AreOfStream : Network → (seed steps stream : ℕ) → Outcome → Sums → Type 0
AreOfStream net seed steps stream (Met horizon state) sums = AreSumsOf net (stream_path net seed stream state) steps sums
AreOfStream net seed steps stream (NotMet limit) sums = Unit {0}
