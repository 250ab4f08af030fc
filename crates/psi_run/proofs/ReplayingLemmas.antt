-- The verdict on a log, from the bytes of its file.
use Rattle.std.specs.Prelude.{◌≡◌, ℕ, ◌+◌, ◌<◌, List, [], length, take, Option, Some, None, option_map, Result, Ok, Err, IsOk, IfSome, refl}
use Rattle.std.proofs.Common.{inl, inr, ap, sym, ◌∙◌, subst, arith}
use Rattle.std.proofs.lemmas.Bool.{cases_lt, lt-leb}
use Rattle.std.proofs.lemmas.List.{take_all, length-take-le}
use Rattle.psi_log_format.specs.Log.{Certificate}
use Rattle.psi_log_words.specs.Refusal.{Refusal, refused}
use Rattle.psi_log_words.specs.declared.refusals.LogCause.TheVariants.{TooLong}
use Rattle.psi_log.specs.Reading.{read}
use Rattle.psi_replay.specs.Verdict.{verdict_of}
use Rattle.psi_net_model.specs.Network.{Network}
use Rattle.psi_net.specs.Reading.{network_of}
use Rattle.psi_command.specs.declared.status.Status.TheVariants as status
use Rattle.psi_reply.specs.declared.ending.Ending.{Ending as Ended}
use Rattle.psi_reply.specs.declared.ending.Ending.TheVariants.{LogUnread, OutOfMemory}
use Rattle.psi_command.specs.Command.{replay, net_file, log_file}
use Rattle.psi_reply.specs.Lines.{log_refused_line}
use Rattle.psi_reply.specs.Replay.{judgement}
use Rattle.psi_program.specs.Reply.{line_reply}
use Rattle.psi_reply.specs.Reply.{verdict_reply, judged_log, replay_reply}
use Rattle.psi_run.specs.Reply.{reply_to}
use Rattle.psi_program.specs.Seen.{ShelfSeen}
use Rattle.psi_run.specs.Reads.{WasLast, IsMissed}
use Rattle.psi_program.specs.Ending.{replied, unread, no_memory}
use Rattle.psi_reply.specs.Ending.{Ending, EndsWith}
use Rattle.psi_run.specs.Ending.{IsEnding}
use Rattle.psi_reply.specs.Ended.{ending_of}
use Rattle.psi_run.specs.Files.{IsNetAt, IsTextAt, IsNoText}
use Rattle.psi_run.proofs.EndingsLemmas.{second_read, of_any, replied_on}
use Rattle.psi_reply.proofs.RepliesLemmas.{verdict_replied, line_replied}
use Rattle.psi_reply.proofs.ReplayingLemmas.{verdict_told, refusal_told}
use Rattle.psi_run.proofs.AboutsLemmas.{replay_about}

-- ---- a log is read from its first 33,554,433 bytes

-- a text of more bytes than a log may have is too long, whatever they are
read-long : (bytes : List ℕ) → 33554432 < length bytes → read bytes ≡ Err (refused 0 TooLong)
unfolding read
read-long bytes long = rw (lt-leb (length bytes) 33554432 long) refl

read-take : (bytes : List ℕ) → read bytes ≡ read (take 33554433 bytes)
read-take bytes =
    elim (cases_lt (length bytes) 33554433) [
      | inl short ↦ sym (ap read (take_all 33554433 bytes (omega arith)))
      | inr long ↦ (let count : length (take 33554433 bytes) ≡ 33554433 = length-take-le 33554433 bytes long in
          read-long bytes (omega arith) ∙ sym (read-long (take 33554433 bytes) (omega arith)))
    ]

-- what the front of a file is read as, the file is
pub read_whole : (most : ℕ) → most ≡ 33554432 → (told : Option (List ℕ)) (front : List ℕ)
    → IfSome told (λ bytes. front ≡ take (most + 1) bytes) → IfSome told (λ bytes. read bytes ≡ read front)
read_whole most is None front cut = tt
read_whole most is (Some bytes) front cut =
    let count : most + 1 ≡ 33554433 = omega arith in
    read-take bytes ∙ sym (ap read (cut ∙ ap (λ n. take n bytes) count))

-- ---- what is told of a log file

-- what the front of a log file was judged to be, the file is, where the shelf's model has it
one-log : (told : List ℕ → Option (List ℕ)) (log bytes : List ℕ) (answer : Result Certificate Refusal) → IfSome (told log) (λ b. read b ≡ answer) → told log ≡ Some bytes → read bytes ≡ answer
one-log told log bytes answer at there = subst (λ (o : Option (List ℕ)). IfSome o (λ b. read b ≡ answer)) there at

-- the reply to what was read is that to the file
log-replied : (net : Network) (told : Option (List ℕ)) (answer : Result Certificate Refusal) → IfSome told (λ bytes. read bytes ≡ answer)
    → IfSome (option_map (replay_reply net) told) (λ reply. judged_log net answer ≡ reply)
log-replied net None answer at = tt
log-replied net (Some bytes) answer at = sym (ap (judged_log net) at)

-- ---- the work of a replay on its network

module _ (shelf : ShelfSeen) (name log : List ℕ) (net : Network) where
  has-network : (told : Option (List ℕ)) → IfSome told (λ bytes. network_of bytes ≡ Ok net) → IfSome told (λ bytes. IsOk (network_of bytes))
  has-network None at = tt
  has-network (Some bytes) at = subst (λ n. IsOk n) (sym at) refl

  -- the work where no bytes were had
  pub no_text : (ended : Ended) → IsNetAt shelf.told name net → IsNoText shelf log ended → WasLast shelf (log_file log) → IsEnding shelf (Ok (replay name log)) (ending_of ended)
  no_text (LogUnread own) at none last = record {
    reply = of_any (reply_to (Ok (replay name log)) shelf.told);
    cause = subst (λ (n : List ℕ). IsMissed shelf (Ok (replay name log)) (log_file n)) (sym none.0)
        (let missed : IsMissed shelf (Ok (replay name log)) (log_file log) =
        record { read = second_read (net_file name) (log_file log) []; needed = has-network (shelf.told name) at; rose = none.1; last = last } in missed);
    means = tt;
  }
  no_text OutOfMemory at none last = record { reply = of_any (reply_to (Ok (replay name log)) shelf.told); cause = refl; means = tt }
  no_text ended at none last = absurd none

  -- the work on what its bytes are read as: a log, or none
  on-answer : (answer : Result Certificate Refusal) (ending : Ending) → IsNetAt shelf.told name net → IfSome (shelf.told log) (λ bytes. read bytes ≡ answer)
      → EndsWith ending (judged_log net answer) → IsEnding shelf (Ok (replay name log)) ending
  on-answer (Ok c) (replied given) at is ends =
      subst (λ r. IsEnding shelf (Ok (replay name log)) (replied r)) (sym ends)
      (replied_on (replay name log) name _ shelf net (verdict_reply (verdict_of c (judgement net c))) (replay_about shelf.told name log) at
      (log-replied net (shelf.told log) (Ok c) is) (verdict_replied name log (verdict_of c (judgement net c)))
      (λ kept before after grew bytes there. verdict_told net bytes c (judgement net c) kept (one-log shelf.told log bytes (Ok c) is there) refl before after grew))
  on-answer (Err refusal) (replied given) at is ends =
      subst (λ r. IsEnding shelf (Ok (replay name log)) (replied r)) (sym ends)
      (replied_on (replay name log) name _ shelf net (line_reply status.LogRefused (log_refused_line refusal.line refusal.cause)) (replay_about shelf.told name log) at
      (log-replied net (shelf.told log) (Err refusal) is) (line_replied name log (log_refused_line refusal.line refusal.cause))
      (λ kept before after grew bytes there. refusal_told net bytes refusal (one-log shelf.told log bytes (Err refusal) is there) before after grew))
  on-answer answer (unread file) at is ends = absurd ends
  on-answer answer no_memory at is ends = record { reply = of_any (reply_to (Ok (replay name log)) shelf.told); cause = refl; means = tt }

  -- the work on the bytes that were had
  pub on_text : (text : List ℕ) (ending : Ending) → IsNetAt shelf.told name net → IsTextAt shelf.told log text
      → EndsWith ending (replay_reply net text) → IsEnding shelf (Ok (replay name log)) ending
  on_text text ending at is ends = on-answer (read text) ending at is ends
