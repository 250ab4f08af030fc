-- How the work of a call ends, from what was read.
use Rattle.std.specs.Prelude.{◌≡◌, ℕ, List, Option, Some, None, option_map, Result, Ok, Err, IfSome, refl}
use Rattle.std.proofs.Common.{sym, ap, ◌∙◌, subst, append-nil}
use Rattle.psi_io.specs.Sink.{appended}
use Rattle.psi_net_model.specs.Network.{Network}
use Rattle.psi_net.specs.Reading.{network_of}
use Rattle.psi_net_document.specs.declared.refusals.NetRefusal.{NetRefusal}
use Rattle.psi_program.specs.Seen.{ShelfSeen}
use Rattle.psi_program.specs.Ending.{replied, unread, no_memory, MayReply}
use Rattle.psi_command.specs.Command.{net_file}
use Rattle.psi_reply.specs.declared.ending.Ending.{Ending as Ended}
use Rattle.psi_reply.specs.declared.ending.Ending.TheVariants.{NetRefused, NetUnread, OutOfMemory}
use Rattle.psi_reply.specs.Reply.{Reply, usage_reply, refused_reply}
use Rattle.psi_reply.specs.Ending.{Ending, EndsWith}
use Rattle.psi_reply.specs.Ended.{ending_of}
use Rattle.psi_run.specs.Files.{IsNetAt, IsNoNet}
use Rattle.psi_run.proofs.EndingsLemmas.{accepted_kept, of_any}
use Rattle.psi_streams.specs.Asked.{Asked}
use Rattle.psi_streams.specs.Named.{named_reply, named_ending}
use Rattle.psi_streams.specs.Reply.{asked_reply, judged_reply, reply_to, IsTableReply}
use Rattle.psi_streams.specs.Means.{IsTabled}
use Rattle.psi_streams.specs.Seen.{AreAsked, IsMissed}
use Rattle.psi_streams.specs.Ended.{IsEnding}
use Rattle.psi_streams.proofs.StatesLemmas.{states_replied, states_mean}

module _ (name : List ℕ) where
  -- the reply to what the file is judged to be is the reply to the file
  reply-judged : (told : Option (List ℕ)) (asked : Asked) (judged : Result Network NetRefusal) (ending : Ending)
      → IfSome told (λ bytes. network_of bytes ≡ judged) → MayReply ending (judged_reply name asked judged)
      → IfSome (option_map (λ bytes. judged_reply name asked (network_of bytes)) told) (MayReply ending)
  reply-judged None asked judged ending is may = tt
  reply-judged (Some bytes) asked judged ending is may = subst (λ n. MayReply ending (judged_reply name asked n)) (sym is) may

module _ (name : List ℕ) (shelf : ShelfSeen) (asked : Asked) (reads : AreAsked shelf (Ok asked)) where
  judged-ends : (judged : Result Network NetRefusal) (ending : Ending) → IfSome (shelf.told asked.table.net) (λ bytes. network_of bytes ≡ judged) → MayReply ending (judged_reply name asked judged)
      → IfSome (reply_to name (Ok asked) shelf.told) (MayReply ending)
  unfolding reply_to
  judged-ends judged ending is may = reply-judged name (shelf.told asked.table.net) asked judged ending is may

  -- the work where no network was had
  pub no_net : (ended : Ended) → IsNoNet shelf asked.table.net ended → IsEnding name shelf (Ok asked) (named_ending name (ending_of ended))
  no_net (NetRefused refusal) none = record {
    reply = judged-ends (Err refusal) (replied (named_reply name (refused_reply refusal))) none refl;
    cause = record { status = tt; printed = λ kind. absurd kind; reported = λ kind. refl };
    means = λ before after grew bytes net there accepted.
        (let refused : network_of bytes ≡ Err refusal = subst (λ told. IfSome told (λ b. network_of b ≡ Err refusal)) there none in absurd cc);
    reads = reads;
  }
  no_net (NetUnread own) none = record {
    reply = of_any (reply_to name (Ok asked) shelf.told);
    cause = (let missed : IsMissed shelf (Ok asked) (net_file own.now) = record { cause = record { asked = asked; is = refl; unread = none.1 }; is = ap net_file none.0 } in missed);
    means = tt;
    reads = reads;
  }
  no_net OutOfMemory none = record { reply = of_any (reply_to name (Ok asked) shelf.told); cause = refl; means = tt; reads = reads }
  no_net ended none = absurd none

  -- the work on the network that was had
  pub on_net : (net : Network) (ending : Ending) → IsNetAt shelf.told asked.table.net net
      → EndsWith ending (named_reply name (asked_reply asked net)) → IsEnding name shelf (Ok asked) ending
  on_net net (replied given) at ends = record {
    reply = judged-ends (Ok net) (replied given) at ends;
    cause = subst (IsTableReply asked) (sym ends) (states_replied name asked net);
    means = λ before after grew bytes other there accepted.
        (let table = asked.table in
        let judged : network_of bytes ≡ Ok net = subst (λ told. IfSome told (λ b. network_of b ≡ Ok net)) there at in
        let one : net ≡ other = cc in
        let grown : after ≡ appended before (asked_reply asked net).out = grew ∙ ap (λ (r : Reply). appended before r.out) ends in
        let same : (asked_reply asked net).status ≡ given.status = sym (ap (λ (r : Reply). r.status) ends) in
        subst (λ n. IsTabled asked.steps before after given.status n table.seed table.first table.count table.total) one
        (subst (λ s. IsTabled asked.steps before after s net table.seed table.first table.count table.total) same
        (states_mean before after asked.steps net table.seed table.first table.count (accepted_kept bytes net judged) table.total grown)));
    reads = reads;
  }
  on_net net (unread file) at ends = absurd ends
  on_net net no_memory at ends = record { reply = of_any (reply_to name (Ok asked) shelf.told); cause = refl; means = tt; reads = reads }

-- the work for words that don't ask for a table
pub no_table : (name : List ℕ) (shelf : ShelfSeen) (place : ℕ) → shelf.asked_after ≡ shelf.asked_before
    → IsEnding name shelf (Err place) (replied (named_reply name (usage_reply place)))
unfolding reply_to
no_table name shelf place unmoved = record { reply = refl; cause = refl; means = tt; reads = unmoved ∙ sym (append-nil shelf.asked_before) }
