-- How the work of a call ends, from what was read.
use Rattle.psi_reply.proofs.RepliesLemmas.{outcome_replied, coupling_replied, value_replied, survey_replied, closed_replied, refused_replied, certify_replied, judged_replied}
use Rattle.std.specs.Prelude.{◌≡◌, ℕ, zero, List, ◌∷◌, Option, Ok, refl, ◌+◌, Contains, take, Some, None, option_map, option_and_then, Result, Err, IfSome}
use Rattle.std.proofs.Common.{ap, sym, subst, arith, ◌∙◌}
use Rattle.psi_net_model.specs.Network.{Network}
use Rattle.psi_net_model.specs.Valid.{IsNetwork}
use Rattle.psi_net.specs.Reading.{file_text, text_network, network_of}
use Rattle.psi_net_document.proofs.ReadingLemmas.{bind_ok}
use Rattle.psi_net.proofs.NetworkLemmas.{network_kept}
use Rattle.psi_io.specs.Sink.{appended}
use Rattle.psi_command.specs.Command.{sample, net_file, Command, check, report, trial, couple, reward, exact, closed, certify, replay, File}
use Rattle.psi_reply.specs.Sample.{sampled}
use Rattle.psi_run.specs.Reply.{reply_to, reply_of, judged_reply}
use Rattle.psi_reply.specs.Reply.{IsReply, Reply, replay_reply, usage_reply, refused_reply}
use Rattle.psi_net_document.specs.declared.refusals.NetRefusal.{NetRefusal}
use Rattle.psi_net.proofs.FrontLemmas.{network_of-take}
use Rattle.psi_command.specs.declared.status.Status.{Status}
use Rattle.psi_command.specs.declared.status.Status.TheVariants as status
use Rattle.psi_reply.specs.declared.ending.Ending.{Ending as Ended}
use Rattle.psi_reply.specs.declared.ending.Ending.TheVariants.{NetRefused, NetUnread, OutOfMemory}
use Rattle.psi_log.specs.Reading.{read}
use Rattle.psi_net_model.specs.Generated.{generated_network}
use Rattle.psi_reply.specs.Couple.{coupling}
use Rattle.psi_reply.specs.Reward.{kind_named}
use Rattle.psi_reply.specs.Closed.{first_other}
use Rattle.psi_run.specs.Means.{OfNetwork, Means}
use Rattle.psi_program.specs.Seen.{ShelfSeen}
use Rattle.psi_run.specs.Reads.{IsRead, WasLast, IsMissed}
use Rattle.psi_program.specs.Ending.{replied, unread, no_memory, MayReply}
use Rattle.psi_reply.specs.Ending.{Ending, EndsWith, HasReplied}
use Rattle.psi_run.specs.Ending.{IsMeant, IsEnding}
use Rattle.psi_reply.specs.Ended.{ending_of}
use Rattle.psi_run.specs.Files.{IsNetAt, IsNoNet}

-- a network that is accepted can be sampled
pub accepted_kept : (bytes : List ℕ) (n : Network) → network_of bytes ≡ Ok n → IsNetwork n
unfolding network_of
accepted_kept bytes n is =
    let text = bind_ok (file_text bytes) text_network n is in
    network_kept text.0 n text.2

-- what the front of a file is judged to be, the file is
pub judged_whole : (most : ℕ) → most ≡ 1048576 → (told : Option (List ℕ)) (read : List ℕ) (judged : Result Network NetRefusal)
    → IfSome told (λ bytes. read ≡ take (most + 1) bytes) → network_of read ≡ judged → IfSome told (λ bytes. network_of bytes ≡ judged)
judged_whole most is None read judged front judges = tt
judged_whole most is (Some bytes) read judged front judges =
    let count : most + 1 ≡ 1048577 = omega arith in
    network_of-take bytes ∙ sym (ap network_of (front ∙ ap (λ n. take n bytes) count)) ∙ judges

-- a command about one network reads its file, its reply is what it makes of the network or tells why the file is refused, and what it
-- means is said of that network
pub record IsAbout (told : List ℕ → Option (List ℕ)) (command : Command) (name : List ℕ) (Has : Network → Option (List ℕ) → Option (List ℕ) → Status → Type 0) : Type 0 where
  pub reads : IsRead (Ok command) (net_file name)
  pub reply : reply_to (Ok command) told ≡ option_and_then (λ bytes. judged_reply (reply_of command told) (network_of bytes)) (told name)
  pub means : (before after : Option (List ℕ)) (result : Status)
      → OfNetwork told name (λ net. Has net before after result) → Means command told before after result

-- the first of the files is one of them, and so is the second
pub first_read : (file : File) (files : List File) → Contains (file ∷ files) file
first_read file files = (zero, omega arith, refl)

pub second_read : (first file : File) (files : List File) → Contains (first ∷ file ∷ files) file
second_read first file files = (1, omega arith, refl)

-- whatever the network is, its reply is one that the command can have
reply-of : (command : Command) (told : List ℕ → Option (List ℕ)) (net : Network) → IfSome (reply_of command told net) (IsReply command)
reply-of (sample name seed stream) told net = outcome_replied (sample name seed stream) (sampled net seed stream)
reply-of (check name) told net = record { status = tt; printed = λ k. refl; reported = λ k. absurd k }
reply-of (report name seed first count) told net = record { status = tt; printed = λ k. refl; reported = λ k. absurd k }
reply-of (couple file seed stream) told net = coupling_replied (couple file seed stream) (coupling net seed stream)
reply-of (reward file seed stream name) told net = value_replied file seed stream name net (kind_named name net.rewards)
reply-of (exact file seed stream h) told net = survey_replied file seed stream h net
reply-of (closed file seed stream total) told net = closed_replied file seed stream total net (first_other net)
reply-of (trial number) told net = record { status = tt; printed = λ k. refl; reported = λ k. absurd k }
reply-of (certify file seed stream) told net = certify_replied file seed stream net (sampled net seed stream)
reply-of (replay file log) told net = mapped (told log)
  where
    mapped : (bytes : Option (List ℕ)) → IfSome (option_map (replay_reply net) bytes) (IsReply (replay file log))
    mapped None = tt
    mapped (Some bytes) = judged_replied file log net (read bytes)

-- the reply to what the file is judged to be is the reply to the file
reply-judged : (told : Option (List ℕ)) (reply : Network → Option Reply) (judged : Result Network NetRefusal) (ending : Ending)
    → IfSome told (λ bytes. network_of bytes ≡ judged) → IfSome (judged_reply reply judged) (MayReply ending)
    → IfSome (option_and_then (λ bytes. judged_reply reply (network_of bytes)) told) (MayReply ending)
reply-judged None reply judged ending is may = tt
reply-judged (Some bytes) reply judged ending is may = subst (λ n. IfSome (judged_reply reply n) (MayReply ending)) (sym is) may

pub of_any : (reply : Option Reply) → IfSome reply (λ r. Unit {0})
of_any None = tt
of_any (Some r) = tt

-- the work where no network was had
module _ (command : Command) (name : List ℕ) (Has : Network → Option (List ℕ) → Option (List ℕ) → Status → Type 0) (shelf : ShelfSeen) where
  judged-reply : (judged : Result Network NetRefusal) (ending : Ending) → IsAbout shelf.told command name Has
      → IfSome (shelf.told name) (λ bytes. network_of bytes ≡ judged) → IfSome (judged_reply (reply_of command shelf.told) judged) (MayReply ending)
      → IfSome (reply_to (Ok command) shelf.told) (MayReply ending)
  judged-reply judged ending about is may =
      subst (λ o. IfSome o (MayReply ending)) (sym about.reply) (reply-judged (shelf.told name) (reply_of command shelf.told) judged ending is may)

  pub no_net : (ended : Ended) → IsAbout shelf.told command name Has → IsNoNet shelf name ended → WasLast shelf (net_file name) → IsEnding shelf (Ok command) (ending_of ended)
  no_net (NetRefused refusal) about none last = record {
    reply = judged-reply (Err refusal) (replied (refused_reply refusal)) about none refl;
    cause = refused_replied command refusal;
    means = λ before after grew. about.means before after status.NetRefused
        (λ bytes net there accepted. (let refused : network_of bytes ≡ Err refusal = subst (λ told. IfSome told (λ b. network_of b ≡ Err refusal)) there none in absurd cc));
  }
  no_net (NetUnread own) about none last = record {
    reply = of_any (reply_to (Ok command) shelf.told);
    cause = subst (λ (n : List ℕ). IsMissed shelf (Ok command) (net_file n)) (sym none.0)
        (let missed : IsMissed shelf (Ok command) (net_file name) = record { read = about.reads; needed = tt; rose = none.1; last = last } in missed);
    means = tt;
  }
  no_net OutOfMemory about none last = record { reply = of_any (reply_to (Ok command) shelf.told); cause = refl; means = tt }
  no_net ended about none last = absurd none

  -- the work on the network that was had, which ended with a reply
  pub replied_on : (net : Network) (given : Reply) → IsAbout shelf.told command name Has → IsNetAt shelf.told name net
      → IfSome (reply_of command shelf.told net) (λ reply. given ≡ reply) → IsReply command given
      → (IsNetwork net → (before after : Option (List ℕ)) → after ≡ appended before given.out → Has net before after given.status)
      → IsEnding shelf (Ok command) (replied given)
  replied_on net given about at is kind holds = record {
    reply = judged-reply (Ok net) (replied given) about at is;
    cause = kind;
    means = λ before after grew. about.means before after given.status
        (λ bytes other there accepted.
        (let judged : network_of bytes ≡ Ok net = subst (λ told. IfSome told (λ b. network_of b ≡ Ok net)) there at in
        let one : net ≡ other = cc in
        subst (λ n. Has n before after given.status) one (holds (accepted_kept bytes net judged) before after grew)));
  }

  -- or ended with this reply unless an allocation failed
  pub on_net : (net : Network) (ending : Ending) (reply : Reply) → reply_of command shelf.told net ≡ Some reply → IsAbout shelf.told command name Has
      → IsNetAt shelf.told name net → EndsWith ending reply
      → (HasReplied ending → IsNetwork net → (before after : Option (List ℕ)) → after ≡ appended before reply.out → Has net before after reply.status)
      → IsEnding shelf (Ok command) ending
  on_net net (replied given) reply is about at ends holds =
      subst (λ r. IsEnding shelf (Ok command) (replied r)) (sym ends)
      (replied_on net reply about at (subst (λ o. IfSome o (λ r. reply ≡ r)) (sym is) refl)
      (subst (λ o. IfSome o (IsReply command)) is (reply-of command shelf.told net)) (holds tt))
  on_net net (unread file) reply is about at ends holds = absurd ends
  on_net net no_memory reply is about at ends holds = record { reply = of_any (reply_to (Ok command) shelf.told); cause = refl; means = tt }

-- the work for a trial, which reads no file
pub on_number : (shelf : ShelfSeen) (number : ℕ) (ending : Ending) (reply : Reply) → reply_of (trial number) shelf.told (generated_network number) ≡ Some reply → EndsWith ending reply
    → (HasReplied ending → (before after : Option (List ℕ)) → after ≡ appended before reply.out → Means (trial number) shelf.told before after reply.status)
    → IsEnding shelf (Ok (trial number)) ending
unfolding reply_to
on_number shelf number (replied given) reply is ends holds = record {
  reply = subst (λ o. IfSome o (λ r. given ≡ r)) (sym is) ends;
  cause = subst (IsReply (trial number)) (sym ends) (subst (λ o. IfSome o (IsReply (trial number))) is (reply-of (trial number) shelf.told (generated_network number)));
  means = subst (λ r. IsMeant shelf.told (replied r) (trial number)) (sym ends) (holds tt);
}
on_number shelf number (unread file) reply is ends holds = absurd ends
on_number shelf number no_memory reply is ends holds = record { reply = of_any (reply_to (Ok (trial number)) shelf.told); cause = refl; means = tt }

-- the work for words that aren't a command
pub no_command : (shelf : ShelfSeen) (command : Result Command ℕ) (place : ℕ) → command ≡ Err place → IsEnding shelf command (replied (usage_reply place))
unfolding reply_to
no_command shelf command place is =
    let ended : IsEnding shelf (Err place) (replied (usage_reply place)) = record { reply = refl; cause = refl; means = tt } in
    subst (λ (c : Result Command ℕ). IsEnding shelf c (replied (usage_reply place))) (sym is) ended
