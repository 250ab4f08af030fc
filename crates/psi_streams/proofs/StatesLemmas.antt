-- The reply on a network: what it has, and what it means.
use Rattle.std.specs.Prelude.{◌≡◌, ℕ, zero, suc, ◌≤◌, List, [], length, Bool, true, false, Option, Some, None, nat_le, if◌then◌else◌, refl}
use Rattle.std.specs.List.{list_all}
use Rattle.std.proofs.Common.{inl, inr, sym, ap, ◌∙◌, arith}
use Rattle.std.proofs.lemmas.Bool.{cases_lt, le-leb, lt-leb}
use Rattle.psi_io.specs.Sink.{appended}
use Rattle.psi_state.specs.declared.Outcome.{Outcome}
use Rattle.psi_closed_arcs.specs.Walks.{customers}
use Rattle.psi_net_model.specs.Network.{Network, caps_of}
use Rattle.psi_net_model.specs.Valid.{IsNetwork}
use Rattle.psi_program.specs.Reply.{line_reply}
use Rattle.psi_command.specs.declared.status.Status.TheVariants as status
use Rattle.psi_command.specs.Status.{IsPrinted, IsReported}
use Rattle.psi_reply.specs.Lines.{no_total_line}
use Rattle.psi_reply.specs.Reply.{Reply, room_reply, moves_reply}
use Rattle.psi_reply.specs.Report.{samples_of}
use Rattle.psi_reply.specs.Closed.{first_other}
use Rattle.psi_reply.proofs.ReportingLemmas.{samples_number, samples-drawn}
use Rattle.psi_reply.proofs.ClosingLemmas.{closed-drawn}
use Rattle.psi_table.specs.Paths.{text_of_kind}
use Rattle.psi_streams.specs.Asked.{Asked}
use Rattle.psi_streams.specs.Named.{named_line, named_reply}
use Rattle.psi_streams.specs.Reply.{is_met, table_status, table_reply, closed_samples_of, closed_states_reply, states_reply, asked_reply, IsOfTable, IsTableReply}
use Rattle.psi_streams.specs.Means.{AreClosedDrawn, IsTableOf, IsTabled}
use Rattle.psi_streams.proofs.NamingLemmas.{named_text}

-- ---- what a reply has

-- a text, whatever its status is of the two
record IsTableText (total : Option ℕ) (reply : Reply) : Type 0 where
  status : IsOfTable total reply.status
  printed : IsPrinted reply.status → reply.err ≡ []
  reported : IsReported reply.status → reply.out ≡ []

text-has : (total : Option ℕ) (all : Bool) (text line : List ℕ) → line ≡ []
    → IsTableText total (record { status = if all then status.Done else status.NotCoupled; out = text; err = line })
text-has total true text line none = record { status = tt; printed = λ kind. none; reported = λ kind. absurd kind }
text-has total false text line none = record { status = tt; printed = λ kind. none; reported = λ kind. absurd kind }

module _ (name : List ℕ) (steps : Option ℕ) (net : Network) (seed first : ℕ) where
  table-has : (total : Option ℕ) (outcomes : List Outcome) → IsTableText total (named_reply name (table_reply steps net seed first outcomes))
  table-has total outcomes =
      text-has total (list_all is_met outcomes) (text_of_kind steps net seed first outcomes) (named_line name [])
      (ap (λ (r : Reply). r.err) (named_text name status.Done []))

  moves-has : (total : ℕ) (outcomes : List Outcome) (other : Option ℕ)
      → IsTableText (Some total) (named_reply name (moves_reply other (room_reply net total (table_reply steps net seed first outcomes))))
  moves-has total outcomes (Some event) = record { status = refl; printed = λ kind. absurd kind; reported = λ kind. refl }
  moves-has total outcomes None = by_room (nat_le total (customers (caps_of net)))
    where
      by_room : (b : Bool) → IsTableText (Some total) (named_reply name (if b then table_reply steps net seed first outcomes else line_reply status.NoSuchTotal no_total_line))
      by_room true = table-has (Some total) outcomes
      by_room false = record { status = refl; printed = λ kind. absurd kind; reported = λ kind. refl }

  states-has : (count : ℕ) (total : Option ℕ) → IsTableText total (named_reply name (states_reply steps net seed first count total))
  states-has count None = table-has None (samples_of net seed first count)
  states-has count (Some total) = moves-has total (closed_samples_of net seed total first count) (first_other net)

pub states_replied : (name : List ℕ) (asked : Asked) (net : Network) → IsTableReply asked (named_reply name (asked_reply asked net))
states_replied name asked net =
    let table = asked.table in
    let has = states-has name asked.steps net table.seed table.first table.count table.total in
    record { status = has.status; printed = has.printed; reported = has.reported }

-- ---- the reply where a total is named, and where none is

module _ (name : List ℕ) (steps : Option ℕ) (net : Network) (seed first count : ℕ) (total : Option ℕ) where
  pub states_open : total ≡ None → table_reply steps net seed first (samples_of net seed first count) ≡ named_reply name (states_reply steps net seed first count total)
  states_open is =
      sym (named_text name (table_status (samples_of net seed first count)) (text_of_kind steps net seed first (samples_of net seed first count)))
      ∙ ap (λ (t : Option ℕ). named_reply name (states_reply steps net seed first count t)) (sym is)

  pub states_closed : (number : ℕ) → total ≡ Some number → named_reply name (closed_states_reply steps net seed first count number) ≡ named_reply name (states_reply steps net seed first count total)
  states_closed number is = ap (λ (t : Option ℕ). named_reply name (states_reply steps net seed first count t)) (sym is)

-- ---- the reply on a closed network

module _ (name : List ℕ) (steps : Option ℕ) (net : Network) (seed first count total : ℕ) (none : first_other net ≡ None) where
  closed-fits : total ≤ customers (caps_of net)
      → table_reply steps net seed first (closed_samples_of net seed total first count) ≡ closed_states_reply steps net seed first count total
  closed-fits fits = rw (none, le-leb total (customers (caps_of net)) fits) refl

  pub closed_fits : total ≤ customers (caps_of net)
      → table_reply steps net seed first (closed_samples_of net seed total first count) ≡ named_reply name (closed_states_reply steps net seed first count total)
  closed_fits fits =
      let outcomes = closed_samples_of net seed total first count in
      sym (named_text name (table_status outcomes) (text_of_kind steps net seed first outcomes)) ∙ ap (named_reply name) (closed-fits fits)

  closed-over : (total ≤ customers (caps_of net) → ⊥) → line_reply status.NoSuchTotal no_total_line ≡ closed_states_reply steps net seed first count total
  closed-over over = elim (cases_lt (customers (caps_of net)) total) [
    | inl below ↦ rw (none, lt-leb total (customers (caps_of net)) below) refl
    | inr few ↦ absurd (over few)
  ]

  pub closed_over : (total ≤ customers (caps_of net) → ⊥)
      → named_reply name (line_reply status.NoSuchTotal no_total_line) ≡ named_reply name (closed_states_reply steps net seed first count total)
  closed_over over = ap (named_reply name) (closed-over over)

-- ---- what it means

closed-number : (net : Network) (seed total first count : ℕ) → length (closed_samples_of net seed total first count) ≡ count
closed-number net seed total first zero = refl
closed-number net seed total first (suc count) = ap suc (closed-number net seed total (suc first) count)

all-closed : (net : Network) (seed total first count : ℕ) → IsNetwork net → first_other net ≡ None → total ≤ customers (caps_of net)
    → AreClosedDrawn net seed total first (closed_samples_of net seed total first count)
all-closed net seed total first zero kept none fits = tt
all-closed net seed total first (suc count) kept none fits =
    (closed-drawn net seed first total kept none fits, all-closed net seed total (suc first) count kept none fits)

module _ (before after : Option (List ℕ)) (steps : Option ℕ) (net : Network) (seed first count : ℕ) (kept : IsNetwork net) where
  open-means : after ≡ appended before (text_of_kind steps net seed first (samples_of net seed first count))
      → IsTableOf steps before after (table_status (samples_of net seed first count)) net seed first count
  open-means grew = record {
    outcomes = samples_of net seed first count;
    number = samples_number net seed first count;
    drawn = samples-drawn net seed first count kept;
    status = refl;
    text = grew;
  }

  closed-means : (total : ℕ) (other : Option ℕ) → first_other net ≡ other
      → after ≡ appended before (moves_reply other (room_reply net total (table_reply steps net seed first (closed_samples_of net seed total first count)))).out
      → IsTabled steps before after (moves_reply other (room_reply net total (table_reply steps net seed first (closed_samples_of net seed total first count)))).status net seed first count (Some total)
  closed-means total (Some event) is grew = inr (inl (record { event = event; first = is; status = refl }))
  closed-means total None is grew = by_room (nat_le total (customers (caps_of net))) refl grew
    where
      by_room : (b : Bool) → nat_le total (customers (caps_of net)) ≡ b
          → after ≡ appended before (if b then table_reply steps net seed first (closed_samples_of net seed total first count) else line_reply status.NoSuchTotal no_total_line).out
          → IsTabled steps before after (if b then table_reply steps net seed first (closed_samples_of net seed total first count) else line_reply status.NoSuchTotal no_total_line).status net seed first count (Some total)
      by_room true room grew =
          let fits : total ≤ customers (caps_of net) = grind arith in
          inl (record {
            moves = is;
            fits = fits;
            outcomes = closed_samples_of net seed total first count;
            number = closed-number net seed total first count;
            drawn = all-closed net seed total first count kept is fits;
            status = refl;
            text = grew;
          })
      by_room false room grew = inr (inr (record { moves = is; over = grind arith; status = refl }))

  pub states_mean : (total : Option ℕ) → after ≡ appended before (states_reply steps net seed first count total).out
      → IsTabled steps before after (states_reply steps net seed first count total).status net seed first count total
  states_mean None grew = open-means grew
  states_mean (Some total) grew = closed-means total (first_other net) refl grew
