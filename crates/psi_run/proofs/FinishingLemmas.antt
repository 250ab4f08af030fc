-- What a call is seen to do, from an ending and how it was written.
use Rattle.std.specs.Prelude.{◌≡◌, ℕ, List, Option, Some, Ok, Err, IsOk, ◌⊎◌, refl}
use Rattle.psi_io.specs.Shelf.{Read, Given}
use Rattle.std.proofs.Common.{inl, inr, subst}
use Rattle.psi_program.specs.Seen.{ShelfCall, seen_with, AgreesWith, SinkSeen, HasFailed, IsUnread}
use Rattle.psi_program.specs.Finished.{IsFinished}
use Rattle.psi_program.specs.Call.{Call}
use Rattle.psi_program.proofs.SparingLemmas.{spared}
use Rattle.psi_program.proofs.FinishingLemmas.{finished_with}
use Rattle.psi_program.proofs.EdgeLemmas.{unasked, HasRunIn, edge, texts, finished_alone}
use Rattle.psi_net_model.specs.Network.{Network}
use Rattle.psi_net.specs.Reading.{network_of}
use Rattle.psi_command.specs.declared.status.Status.{Status}
use Rattle.psi_command.specs.declared.status.Status.TheVariants as status
use Rattle.psi_command.specs.Status.{status_code, IsReplied}
use Rattle.psi_command.specs.Command.{Command, sample}
use Rattle.psi_command.specs.Words.{command_of}
use Rattle.psi_reply.specs.Sample.{IsSampled}
use Rattle.psi_reply.specs.Reply.{Reply, usage_reply}
use Rattle.psi_run.specs.Reply.{reply_to}
use Rattle.psi_run.specs.Means.{Means}
use Rattle.psi_run.specs.Reads.{AreGiven}
use Rattle.psi_program.specs.Ending.{replied}
use Rattle.psi_reply.specs.Ending.{faults}
use Rattle.psi_run.specs.Ending.{EndsAnyhow}
use Rattle.psi_run.specs.Call.{AreTaken, IsRun}
use Rattle.psi_run.specs.Run.{IsRight, IsRunOf}
use Rattle.psi_run.proofs.EndingsLemmas.{no_command}
use Rattle.psi_run.proofs.ReadFilesLemmas.{asked_nothing}
use Rattle.psi_run.proofs.RunningLemmas.{run_is, run_means, run_headline}

-- words that aren't a command end with the place of the word that offends, and the shelf isn't asked
pub finished_usage : (gave : List Given) (asked : List Read) (counts : List ℕ → ℕ) (place : ℕ) {gives : List ℕ → Type 0} {out_takes err_takes : ℕ → Type 0}
    {out err : SinkSeen} {result : Status} → IsFinished faults (λ ending. ending ≡ replied (usage_reply place)) out_takes err_takes out err result
    → IsFinished faults (EndsAnyhow (unasked gave asked counts) gives (Err place)) out_takes err_takes out err result
finished_usage gave asked counts place {gives = gives} finished =
    finished_with _ (EndsAnyhow (unasked gave asked counts) gives (Err place)) _ _ _ _ _ finished (record {
      any = λ told agrees.
          (let shelf = seen_with (unasked gave asked counts) told in
          (no_command shelf (Err place) place refl, asked_nothing shelf (Err place) place status.Usage refl refl));
      read = λ given. tt;
    })

module _ (words : List (List ℕ)) {shelf : ShelfCall} {gives : List ℕ → Type 0} {out_takes err_takes : ℕ → Type 0} {out err : SinkSeen} {result : Status}
    (finished : IsFinished faults (EndsAnyhow shelf gives (command_of words)) out_takes err_takes out err result)
    (told : List ℕ → Option (List ℕ)) (agrees : AgreesWith told shelf) where
  abbrev call : Call
  call = record { words = words; shelf = seen_with shelf told; out = out; err = err }

  pub finished_run : IsRun call result
  finished_run = (let ends = finished.is.any told agrees in run_is call finished.ending result finished.written ends.0 ends.1)

  pub finished_means : (command : Command) → command_of words ≡ Ok command → IsReplied result → Means command told out.before out.after result
  finished_means command asked kind = elim finished.written [
    | inl whole ↦ run_means call.shelf (command_of words) finished.ending out.before out.after result command (finished.is.any told agrees).0 whole.1.printed.held whole.0 asked kind
    | inr cut ↦ absurd (subst IsReplied cut.0 kind)
  ]

  pub finished_headline : (name : List ℕ) (seed stream : ℕ) (bytes : List ℕ) (net : Network) → command_of words ≡ Ok (sample name seed stream)
      → told name ≡ Some bytes → network_of bytes ≡ Ok net → (IsUnread call.shelf name → ⊥) → (HasFailed out → ⊥) → (HasFailed err → ⊥)
      → (result ≡ status.OutOfMemory → ⊥) → IsSampled out.before out.after result net seed stream
  finished_headline name seed stream bytes net asked there accepted read printed reported memory = elim finished.written [
    | inl whole ↦ run_headline call.shelf (command_of words) finished.ending out.before out.after result (finished.is.any told agrees).0 whole.1.printed.held whole.0
        name seed stream bytes net asked there accepted read memory
    | inr cut ↦ elim cut.1 [ inl c ↦ absurd (printed c.cause) | inr c ↦ absurd (reported c.cause) ]
  ]

  pub finished_spared : (reply : Reply) → reply_to (command_of words) told ≡ Some reply → AreGiven gives (command_of words)
      → AreTaken out_takes err_takes (command_of words) reply
      → (out.faults_after ≡ out.faults_before) × (err.faults_after ≡ err.faults_before) × ((result ≡ reply.status) ⊎ (result ≡ status.OutOfMemory))
  finished_spared reply there given taken =
      let ends = (finished.is.any told agrees).0 in
      spared faults _ _ (IsOk (command_of words)) _ reply there out_takes err_takes taken result finished.ending ends.reply ends.cause (finished.is.read given) finished.taken

-- what crossed in the call is a run, where some contents of files agree with the answers
pub finished_edge : (words : List (List ℕ)) {shelf : ShelfCall} {gives : List ℕ → Type 0} {out_takes err_takes : ℕ → Type 0} {out err : SinkSeen} {result : Status}
    → IsFinished faults (EndsAnyhow shelf gives (command_of words)) out_takes err_takes out err result → (told : List ℕ → Option (List ℕ)) → AgreesWith told shelf
    → HasRunIn IsRunOf words shelf out err (status_code result)
finished_edge words {shelf = shelf} {out = out} {err = err} {result = result} finished =
    edge status_code words shelf out err result (texts finished) IsRight
    (λ told given agrees. record { call = finished_run words (finished_alone finished) told agrees; means = finished_means words (finished_alone finished) told agrees })
