-- The description of a network: its lines, each of which ends with one line feed, and what it tells.
use Rattle.std.specs.Prelude.{◌≡◌, ℕ, ◌-◌, List, ◌++◌, length, codes, Option, Some, None, is_none, Bool, true, false, All}
use Rattle.std.specs.List.{flat_map, list_all}
use Rattle.std.specs.Fmt.{decimal}
use Rattle.psi_io.specs.Sink.{appended}
use Rattle.psi_event.specs.Law.{ShowsUpset}
use Rattle.psi_rate.specs.Rates.{total, least_power}
use Rattle.psi_kinds.specs.Kinds.{do_kind}
use Rattle.psi_kinds.specs.Forms.{upset_of}
use Rattle.psi_net_model.specs.Network.{Network, caps_of, rates_of, marks_of}
use Rattle.psi_command.specs.declared.status.Status.{Status}
use Rattle.psi_command.specs.declared.status.Status.TheVariants.{Done}
use Rattle.psi_reply.specs.Texts.{number_line, state_text}

-- a queue: its name, its capacity and the number of its servers
unfoldable pub queue_line : (name : List ℕ) (capacity servers : ℕ) → List ℕ
queue_line name capacity servers =
    codes "queue " ++ name ++ codes " " ++ decimal capacity ++ codes " " ++ decimal servers ++ codes "\n"

-- an event that keeps the order of states, or else two states whose order it breaks
abbrev pub mark_text : Option (List ℕ × List ℕ) → List ℕ
mark_text None = codes "monotone"
mark_text (Some pair) = codes "upset " ++ state_text pair.0 ++ codes " " ++ state_text pair.1

-- an event: its name, the number of its server, its rate and its mark
unfoldable pub event_line : (name : List ℕ) (server rate : ℕ) (mark : Option (List ℕ × List ℕ)) → List ℕ
event_line name server rate mark =
    codes "event " ++ name ++ codes " " ++ decimal server ++ codes " " ++ decimal rate ++ codes " " ++ mark_text mark ++ codes "\n"

-- whether all events are monotone
abbrev pub monotone_line : Bool → List ℕ
monotone_line true = codes "monotone yes\n"
monotone_line false = codes "monotone no\n"

-- the lines of the queues in their order
abbrev pub queue_lines : Network → List ℕ
queue_lines net = flat_map (λ q. queue_line q.name q.capacity q.servers) net.queues

-- the lines of the events in their order, each event with its mark: none where it is monotone, and otherwise its upset pair
abbrev pub event_lines : Network → List ℕ
event_lines net = flat_map (λ e. event_line e.name e.server e.rate (upset_of (caps_of net) e.kind)) net.events

-- what `check` prints of a network: its queues, its events, the modulus and the idle numbers of its wheel, its two limits, and
-- whether all its events are monotone
unfoldable pub check_text : Network → List ℕ
check_text net =
    number_line (codes "queues ") (length net.queues) ++ queue_lines net
    ++ number_line (codes "events ") (length net.events) ++ event_lines net
    ++ number_line (codes "modulus ") (least_power (total (rates_of net)))
    ++ number_line (codes "idle ") (least_power (total (rates_of net)) - total (rates_of net))
    ++ number_line (codes "limit ") net.limit
    ++ number_line (codes "split ") net.split
    ++ monotone_line (list_all is_none (marks_of net))

-- each mark is right: none where the event keeps the componentwise order of all states, and otherwise two states whose order it breaks
abbrev pub AreMarked : Network → Type 0
AreMarked net = All (λ e. ShowsUpset (caps_of net) (do_kind (caps_of net) e.kind) (upset_of (caps_of net) e.kind)) net.events

-- what is printed is the network's description
pub record IsChecked (before after : Option (List ℕ)) (result : Status) (net : Network) : Type 0 where
  -- the call is done
  pub status : result ≡ Done
  -- out grew by the description
  pub text : after ≡ appended before (check_text net)
  -- whose marks are right
  pub marks : AreMarked net
