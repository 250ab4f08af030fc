-- A call whose reads and writes are not to fail ends with its reply, or because memory ran out.
use Rattle.std.specs.Prelude.{◌≡◌, ℕ, List, [], Option, Some, IfSome, ◌⊎◌}
use Rattle.std.proofs.Common.{sym, ap, ◌∙◌, subst, arith, inl, inr}
use Rattle.psi_program.specs.Reply.{Reply}
use Rattle.psi_program.specs.Ending.{Ending, replied, unread, no_memory, Faults, ending_reply, MayReply, IsCaused, HasRead}
use Rattle.psi_program.specs.Written.{IsTaken}
use Rattle.psi_program.specs.Call.{AreTaken}

-- a sink that takes a text takes none
nothing-taken : (takes : ℕ → Type 0) (text : List ℕ) → IsTaken takes text → IsTaken takes []
nothing-taken takes text is = record { room = is.room; taken = is.taken; fits = omega arith }

module _ {Status File : Type 0} (faults : Faults Status File) (IsReply : Reply Status → Type 0) (IsUnread : File → Type 0) (IsAsked : Type 0)
    (told : Option (Reply Status)) (reply : Reply Status) (there : told ≡ Some reply)
    (out_takes err_takes : ℕ → Type 0) (taken : AreTaken out_takes err_takes IsAsked faults.memory_line reply) (result : Status) where
  -- what is so of each sink where it takes its text is so, and the status is the reply's or that of memory that ran out
  pub spared : {Out Err : Type 0} (ending : Ending Status File) → IfSome told (MayReply ending) → IsCaused IsReply IsUnread IsAsked ending → HasRead ending
      → (IsTaken out_takes (ending_reply faults ending).out → IsTaken err_takes (ending_reply faults ending).err → (result ≡ (ending_reply faults ending).status) × Out × Err)
      → Out × Err × ((result ≡ reply.status) ⊎ (result ≡ faults.out_of_memory))
  spared (replied given) may cause read is =
      let same : given ≡ reply = subst (λ (o : Option (Reply Status)). IfSome o (MayReply {File = File} (replied given))) there may in
      let written = is (subst (λ (r : Reply Status). IsTaken out_takes r.out) (sym same) taken.out) (subst (λ (r : Reply Status). IsTaken err_takes r.err) (sym same) taken.err) in
      (written.1, written.2, inl (written.0 ∙ ap (λ (r : Reply Status). r.status) same))
  spared (unread file) may cause read is = absurd read
  spared no_memory may cause read is =
      let written = is (nothing-taken out_takes reply.out taken.out) (taken.memory cause) in
      (written.1, written.2, inr written.0)
