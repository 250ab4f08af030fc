-- What a program answers: a status with a text for out and a text for err.
use Rattle.std.specs.Prelude.{◌≡◌, ℕ, List, [], map, Bool, true, false, Option, Some, None, IsSome, option_map, Result, Ok, Err, if◌then◌else◌}
use Rattle.std.specs.List.{list_all}
use Rattle.psi_state.specs.State.{numbers_from}
use Rattle.psi_state.specs.declared.Outcome.{Outcome}
use Rattle.psi_state.specs.declared.Outcome.TheVariants.{Met, NotMet}
use Rattle.psi_net_model.specs.Network.{Network}
use Rattle.psi_net_document.specs.declared.refusals.NetRefusal.{NetRefusal}
use Rattle.psi_net.specs.Reading.{network_of}
use Rattle.psi_program.specs.Reply.{text_reply}
use Rattle.psi_command.specs.declared.status.Status.{Status}
use Rattle.psi_command.specs.declared.status.Status.TheVariants.{Done, NotCoupled, NetRefused, NotClosed, NoSuchTotal}
use Rattle.psi_command.specs.Status.{IsPrinted, IsReported}
use Rattle.psi_reply.specs.Report.{samples_of}
use Rattle.psi_reply.specs.Closed.{first_other, closed_sampled}
use Rattle.psi_reply.specs.Reply.{Reply, usage_reply, refused_reply, room_reply, moves_reply}
use Rattle.psi_table.specs.Paths.{text_of_kind}
use Rattle.psi_streams.specs.Asked.{Asked}
use Rattle.psi_streams.specs.Named.{named_reply}

-- whether a sample is met
abbrev pub is_met : Outcome → Bool
is_met (Met horizon state) = true
is_met (NotMet limit) = false

-- the status of a table: whether all its samples are met
abbrev pub table_status : List Outcome → Status
table_status outcomes = if list_all is_met outcomes then Done else NotCoupled

-- the reply with the table of samples, or with a number of steps that of their paths, one for each stream from the first on
abbrev pub table_reply : Option ℕ → Network → (seed first : ℕ) → List Outcome → Reply
table_reply steps net seed first outcomes = text_reply (table_status outcomes) (text_of_kind steps net seed first outcomes)

-- the samples that a seed and so many streams, from the first on, draw of a closed network with so many customers
abbrev pub closed_samples_of : Network → (seed total first count : ℕ) → List Outcome
closed_samples_of net seed total first count = map (λ stream. closed_sampled net seed stream total) (numbers_from first count)

-- the reply on a closed network with so many customers
abbrev pub closed_states_reply : Option ℕ → Network → (seed first count total : ℕ) → Reply
closed_states_reply steps net seed first count total =
    moves_reply (first_other net) (room_reply net total (table_reply steps net seed first (closed_samples_of net seed total first count)))

-- the reply on a network, or on a closed network with so many customers
abbrev pub states_reply : Option ℕ → Network → (seed first count : ℕ) → Option ℕ → Reply
states_reply steps net seed first count None = table_reply steps net seed first (samples_of net seed first count)
states_reply steps net seed first count (Some total) = closed_states_reply steps net seed first count total

-- the reply to what is asked for, on a network
abbrev pub asked_reply : Asked → Network → Reply
asked_reply asked net = states_reply asked.steps net asked.table.seed asked.table.first asked.table.count asked.table.total

-- the reply once the network file is judged, under the program's name
abbrev pub judged_reply : (name : List ℕ) → Asked → Result Network NetRefusal → Reply
judged_reply name asked (Ok net) = named_reply name (asked_reply asked net)
judged_reply name asked (Err refusal) = named_reply name (refused_reply refusal)

-- the reply to words, where the shelf tells the network file
unfoldable pub reply_to : (name : List ℕ) → Result Asked ℕ → (List ℕ → Option (List ℕ)) → Option Reply
reply_to name (Ok asked) told = option_map (λ bytes. judged_reply name asked (network_of bytes)) (told asked.table.net)
reply_to name (Err place) told = Some (named_reply name (usage_reply place))

-- the statuses of a reply on a table: the last two only of a closed network
abbrev pub IsOfTable : Option ℕ → Status → Type 0
IsOfTable total Done = Unit {0}
IsOfTable total NotCoupled = Unit {0}
IsOfTable total NetRefused = Unit {0}
IsOfTable total NotClosed = IsSome total
IsOfTable total NoSuchTotal = IsSome total
IsOfTable total status = ⊥

-- a reply that a table can have, whatever the network file holds: a text for out alone, or else a line for err alone
pub record IsTableReply (asked : Asked) (reply : Reply) : Type 0 where
  pub status : IsOfTable asked.table.total reply.status
  pub printed : IsPrinted reply.status → reply.err ≡ []
  pub reported : IsReported reply.status → reply.out ≡ []

-- a reply that the words can have
abbrev pub IsReplyTo : (name : List ℕ) → Result Asked ℕ → Reply → Type 0
IsReplyTo name (Ok asked) reply = IsTableReply asked reply
IsReplyTo name (Err place) reply = reply ≡ named_reply name (usage_reply place)
