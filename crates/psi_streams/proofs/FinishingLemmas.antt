-- What a call is seen to do, from an ending and how it was written.
use Rattle.std.specs.Prelude.{◌≡◌, ℕ, List, Option, Some, Ok, Err, IsOk, ◌⊎◌, refl}
use Rattle.std.proofs.Common.{inl, inr, subst}
use Rattle.psi_io.specs.Shelf.{Read, Given}
use Rattle.psi_program.specs.Seen.{ShelfCall, seen_with, AgreesWith, SinkSeen, HasFailed, IsUnread}
use Rattle.psi_program.specs.Finished.{IsFinished}
use Rattle.psi_program.specs.Ending.{replied}
use Rattle.psi_program.specs.Call.{Call}
use Rattle.psi_program.proofs.SparingLemmas.{spared}
use Rattle.psi_program.proofs.FinishingLemmas.{finished_with}
use Rattle.psi_program.proofs.EdgeLemmas.{unasked, HasRunIn, edge, texts, finished_alone}
use Rattle.psi_command.specs.declared.status.Status.{Status}
use Rattle.psi_command.specs.declared.status.Status.TheVariants as status
use Rattle.psi_command.specs.Status.{status_code, IsReplied}
use Rattle.psi_reply.specs.Reply.{Reply, usage_reply}
use Rattle.psi_streams.specs.Asked.{Asked, TableProgram}
use Rattle.psi_streams.specs.Named.{named_reply, faults}
use Rattle.psi_streams.specs.Reply.{reply_to}
use Rattle.psi_streams.specs.Means.{Means}
use Rattle.psi_streams.specs.Seen.{IsGiven}
use Rattle.psi_streams.specs.Ended.{IsEndingOf}
use Rattle.psi_streams.specs.Call.{AreTaken, IsRun}
use Rattle.psi_streams.specs.Run.{IsRight, IsRunOf}
use Rattle.psi_streams.proofs.EndingsLemmas.{no_table}
use Rattle.psi_streams.proofs.RunningLemmas.{run_is, run_means, run_headline}

-- words that don't ask for a table end with the place of the word that offends, and the shelf isn't asked
pub finished_usage : (name : List ℕ) (gave : List Given) (asked : List Read) (counts : List ℕ → ℕ) (place : ℕ) {gives : List ℕ → Type 0} {out_takes err_takes : ℕ → Type 0}
    {out err : SinkSeen} {result : Status} → IsFinished (faults name) (λ ending. ending ≡ replied (named_reply name (usage_reply place))) out_takes err_takes out err result
    → IsFinished (faults name) (IsEndingOf name (unasked gave asked counts) gives (Err place)) out_takes err_takes out err result
finished_usage name gave asked counts place {gives = gives} finished =
    finished_with _ (IsEndingOf name (unasked gave asked counts) gives (Err place)) _ _ _ _ _ finished
    (record { any = λ told agrees. no_table name (seen_with (unasked gave asked counts) told) place refl; read = λ given. tt })

module _ (program : TableProgram) (words : List (List ℕ)) {shelf : ShelfCall} {gives : List ℕ → Type 0} {out_takes err_takes : ℕ → Type 0} {out err : SinkSeen} {result : Status}
    (finished : IsFinished (faults program.name) (IsEndingOf program.name shelf gives (program.asked words)) out_takes err_takes out err result)
    (told : List ℕ → Option (List ℕ)) (agrees : AgreesWith told shelf) where
  abbrev call : Call
  call = record { words = words; shelf = seen_with shelf told; out = out; err = err }

  pub finished_run : IsRun program call result
  finished_run = run_is program call finished.ending result finished.written (finished.is.any told agrees)

  pub finished_means : (asked : Asked) → program.asked words ≡ Ok asked → IsReplied result → Means asked told out.before out.after result
  finished_means asked same kind = elim finished.written [
    | inl whole ↦ run_means program.name (seen_with shelf told) (program.asked words) finished.ending out.before out.after result asked (finished.is.any told agrees) whole.1.printed.held
        whole.0 same kind
    | inr cut ↦ absurd (subst IsReplied cut.0 kind)
  ]

  pub finished_headline : (asked : Asked) → program.asked words ≡ Ok asked → (IsUnread (seen_with shelf told) asked.table.net → ⊥) → (HasFailed out → ⊥) → (HasFailed err → ⊥)
      → (result ≡ status.OutOfMemory → ⊥) → Means asked told out.before out.after result
  finished_headline asked same read printed reported memory = elim finished.written [
    | inl whole ↦ run_headline program.name (seen_with shelf told) (program.asked words) finished.ending out.before out.after result asked (finished.is.any told agrees) whole.1.printed.held
        whole.0 same read memory
    | inr cut ↦ elim cut.1 [ inl c ↦ absurd (printed c.cause) | inr c ↦ absurd (reported c.cause) ]
  ]

  pub finished_spared : (reply : Reply) → reply_to program.name (program.asked words) told ≡ Some reply → IsGiven gives (program.asked words)
      → AreTaken program.name out_takes err_takes (program.asked words) reply
      → (out.faults_after ≡ out.faults_before) × (err.faults_after ≡ err.faults_before) × ((result ≡ reply.status) ⊎ (result ≡ status.OutOfMemory))
  finished_spared reply there given taken =
      let ends = finished.is.any told agrees in
      spared (faults program.name) _ _ (IsOk (program.asked words)) _ reply there out_takes err_takes taken result finished.ending ends.reply ends.cause (finished.is.read given) finished.taken

-- what crossed in the call is a run, where some contents of files agree with the answers
pub finished_edge : (program : TableProgram) (words : List (List ℕ)) {shelf : ShelfCall} {gives : List ℕ → Type 0} {out_takes err_takes : ℕ → Type 0} {out err : SinkSeen} {result : Status}
    → IsFinished (faults program.name) (IsEndingOf program.name shelf gives (program.asked words)) out_takes err_takes out err result
    → (told : List ℕ → Option (List ℕ)) → AgreesWith told shelf
    → HasRunIn (IsRunOf program) words shelf out err (status_code result)
finished_edge program words {shelf = shelf} {out = out} {err = err} {result = result} finished =
    edge status_code words shelf out err result (texts finished) (IsRight program)
    (λ told given agrees. record { call = finished_run program words (finished_alone finished) told agrees; means = finished_means program words (finished_alone finished) told agrees })
