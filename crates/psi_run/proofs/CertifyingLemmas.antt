-- How the log of a sample is written.
use Rattle.std.specs.Prelude.{◌≡◌, ℕ, ◌≤◌, List, length, refl}
use Rattle.std.proofs.Common.{inl, sym, ◌∙◌, append-nil}
use Rattle.std.proofs.lemmas.Bool.{le-leb}
use Rattle.psi_io.proofs.SinkLemmas.{appended-nothing}
use Rattle.psi_command.specs.declared.status.Status.{Status}
use Rattle.psi_command.specs.declared.status.Status.TheVariants as status
use Rattle.psi_program.specs.Reply.{text_reply}
use Rattle.psi_reply.specs.Reply.{log_reply}
use Rattle.psi_program.specs.Seen.{SinkSeen, Grew, GrewByPart, IsUnchanged, HasFailed}
use Rattle.psi_program.specs.Ending.{replied}
use Rattle.psi_reply.specs.Ending.{Ending, faults, EndsWith}
use Rattle.psi_program.specs.Finished.{IsFinished}
use Rattle.psi_program.proofs.FinishingLemmas.{finished_with, finished_whole, finished_cut}

module _ (text : List ℕ) (out_takes err_takes : ℕ → Type 0) (out err : SinkSeen) where
  abbrev WithLog : Ending → Type 0
  WithLog ending = EndsWith ending (log_reply text)

  fits-reply : length text ≤ 33554432 → text_reply status.Done text ≡ log_reply text
  fits-reply few = rw (le-leb (length text) 33554432 few) refl

  -- whole
  pub log_written : (result : Status) → result ≡ status.Done → length text ≤ 33554432 → Grew out text → IsUnchanged err → err.faults_after ≡ err.faults_before
      → ((room : ℕ) → out_takes room → length text ≤ room → out.faults_after ≡ out.faults_before) → IsFinished faults WithLog out_takes err_takes out err result
  log_written result done few grew still spared taken =
      finished_with (replied (text_reply status.Done text)) WithLog out_takes err_takes out err result
      (finished_whole (replied (text_reply status.Done text)) out_takes err_takes out err result
      (record { printed = grew; reported = record { held = still.held ∙ sym (appended-nothing err.before); took = still.took ∙ sym (append-nil err.took_before) } })
      (λ o e. (taken o.room o.taken o.fits, spared)) done)
      (fits-reply few)

  -- or in part
  pub log_cut : length text ≤ 33554432 → GrewByPart out text → HasFailed out → IsUnchanged err
      → ((room : ℕ) → out_takes room → length text ≤ room → ⊥) → IsFinished faults WithLog out_takes err_takes out err status.WriteFault
  log_cut few part failed still never =
      finished_with (replied (text_reply status.Done text)) WithLog out_takes err_takes out err status.WriteFault
      (finished_cut (replied (text_reply status.Done text)) out_takes err_takes out err (inl (record { cause = failed; part = part; rest = still }))
      (λ o e. never o.room o.taken o.fits))
      (fits-reply few)
