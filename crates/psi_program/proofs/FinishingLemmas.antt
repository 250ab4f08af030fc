-- Work whose ending was written.
use Rattle.std.specs.Prelude.{◌≡◌, ℕ, refl}
use Rattle.std.proofs.Common.{inl, inr, sym, subst}
use Rattle.psi_program.specs.Seen.{SinkSeen}
use Rattle.psi_program.specs.Ending.{Ending, Faults, ending_reply}
use Rattle.psi_program.specs.Written.{IsTaken, IsWhole, IsCutReply}
use Rattle.psi_program.specs.Finished.{IsFinished}

module _ {Status File : Type 0} {faults : Faults Status File} where
  -- what holds of an ending holds of what it was finished with
  pub finished_as : (Is Other : Ending Status File → Type 0) (out_takes err_takes : ℕ → Type 0) (out err : SinkSeen) (result : Status)
      → IsFinished faults Is out_takes err_takes out err result → ((ending : Ending Status File) → Is ending → Other ending)
      → IsFinished faults Other out_takes err_takes out err result
  finished_as Is Other out_takes err_takes out err result finished more =
      record { ending = finished.ending; is = more finished.ending finished.is; written = finished.written; taken = finished.taken }

  -- and so does what holds of the ending that it is
  pub finished_with : (given : Ending Status File) (Other : Ending Status File → Type 0) (out_takes err_takes : ℕ → Type 0) (out err : SinkSeen) (result : Status)
      → IsFinished faults (λ ending. ending ≡ given) out_takes err_takes out err result → Other given → IsFinished faults Other out_takes err_takes out err result
  finished_with given Other out_takes err_takes out err result finished holds =
      finished_as (λ ending. ending ≡ given) Other out_takes err_takes out err result finished (λ ending is. subst Other (sym is) holds)

  -- and what was done for one of two that are the same was done for the other
  pub finished_for : {A : Type 0} (Is : A → Ending Status File → Type 0) {one other : A} {out_takes err_takes : ℕ → Type 0} {out err : SinkSeen} {result : Status}
      → one ≡ other → IsFinished faults (Is other) out_takes err_takes out err result → IsFinished faults (Is one) out_takes err_takes out err result
  finished_for Is {out_takes = out_takes} {err_takes = err_takes} {out = out} {err = err} {result = result} same finished =
      subst (λ a. IsFinished faults (Is a) out_takes err_takes out err result) (sym same) finished

  -- an ending that was written whole is finished with its status, and another with a failed write
  module _ (given : Ending Status File) (out_takes err_takes : ℕ → Type 0) (out err : SinkSeen) where
    pub finished_whole : (result : Status) → IsWhole (ending_reply faults given) out err
        → (IsTaken out_takes (ending_reply faults given).out → IsTaken err_takes (ending_reply faults given).err → (out.faults_after ≡ out.faults_before) × (err.faults_after ≡ err.faults_before))
        → result ≡ (ending_reply faults given).status → IsFinished faults (λ ending. ending ≡ given) out_takes err_takes out err result
    finished_whole result whole spared same = record {
      ending = given;
      is = refl;
      written = inl (same, whole);
      taken = λ o e. (same, (spared o e).0, (spared o e).1);
    }

    pub finished_cut : IsCutReply (ending_reply faults given) out err → (IsTaken out_takes (ending_reply faults given).out → IsTaken err_takes (ending_reply faults given).err → ⊥)
        → IsFinished faults (λ ending. ending ≡ given) out_takes err_takes out err faults.write_fault
    finished_cut cut never = record {
      ending = given;
      is = refl;
      written = inr (refl, cut);
      taken = λ o e. absurd (never o e);
    }
