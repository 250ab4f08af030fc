-- What a call is seen to do, from how its work ended and how that was written.
use Rattle.std.specs.Prelude.{◌≡◌, ℕ, List, [], ◌∷◌, ◌++◌, Option, Some, None, IfSome, ◌⊎◌, refl}
use Rattle.std.proofs.Common.{inl, inr, ap, sym, ◌∙◌, subst, append-nil}
use Rattle.psi_io.specs.Sink.{appended, GrewByPrefix}
use Rattle.psi_io.proofs.SinkLemmas.{appended-nothing}
use Rattle.psi_program.specs.Seen.{SinkSeen, Grew, GrewByPart, IsUnchanged, HasFailed}
use Rattle.psi_program.specs.Reply.{Reply}
use Rattle.psi_program.specs.Ending.{Ending, replied, unread, no_memory, Faults, ending_reply, MayReply, IsCaused}
use Rattle.psi_program.specs.Written.{IsWhole, IsCutReply, IsWrittenAs}
use Rattle.psi_program.specs.Call.{Call, ReadFaulted, OutFaulted, EndsWithin, ErrFaulted, MemoryLacked}

-- from what is so where there is a reply
pub where-some : {A : Type 0} (t : Option A) (P Q : A → Type 0) → IfSome t P → ((a : A) → P a → Q a) → IfSome t Q
where-some None P Q has make = tt
where-some (Some a) P Q has make = make a has

-- no text leaves a sink as it was
still : (sink : SinkSeen) (text : List ℕ) → text ≡ [] → Grew sink text → IsUnchanged sink
still sink text none grew = record {
  held = grew.held ∙ ap (appended sink.before) none ∙ appended-nothing sink.before;
  took = grew.took ∙ ap (λ (bytes : List ℕ). sink.took_before ++ bytes) none ∙ append-nil sink.took_before;
}

-- no byte is a prefix of every text
nothing-front : (front back : List ℕ) → front ++ back ≡ [] → [] ≡ front
nothing-front [] back whole = refl
nothing-front (b ∷ front) back whole = absurd cc

prefix-any : (before after : Option (List ℕ)) (text : List ℕ) → GrewByPrefix before after [] → GrewByPrefix before after text
prefix-any before after text part =
    record { front = []; back = text; whole = refl; grew = part.grew ∙ ap (appended before) (sym (nothing-front part.front part.back part.whole)) }

part-any : (sink : SinkSeen) (text : List ℕ) → GrewByPart sink [] → GrewByPart sink text
part-any sink text part = record {
  held = prefix-any sink.before sink.after text part.held;
  took = prefix-any (Some sink.took_before) (Some sink.took_after) text part.took;
}

-- what is known of a program's statuses: those of a failed read, of a failed write, of memory that ran out, and on words that ask for nothing, and which
-- are those of replies, which of them with a line in err and which with a text in out
pub record AreStatuses {Status : Type 0} (read_fault write_fault out_of_memory usage : Status) (IsReplied IsReported IsPrinted : Status → Type 0) : Type 0 where
  pub usage_replied : IsReplied usage
  pub no_read : IsReplied read_fault → ⊥
  pub no_write : IsReplied write_fault → ⊥
  pub no_memory : IsReplied out_of_memory → ⊥
  pub read_write : read_fault ≡ write_fault → ⊥
  pub read_memory : read_fault ≡ out_of_memory → ⊥
  pub write_memory : write_fault ≡ out_of_memory → ⊥
  pub silent : IsReported write_fault → ⊥
  pub printed : (status : Status) → IsPrinted status → IsReplied status

-- a program and a call of it: how it tells of faults, its status on words that ask for nothing, the statuses of replies, those with a line in
-- err and those with a text in out, the replies to the call's words, the reply where it is known, what a failed read is and its line,
-- and whether the words ask for work or don't
module _ {Status File Unread : Type 0} (faults : Faults Status File) (usage : Status) (IsReplied IsReported IsPrinted : Status → Type 0) (IsReply : Reply Status → Type 0)
    (call : Call) (reply : Option (Reply Status)) (line : Unread → List ℕ) (IsAsked IsOther : Type 0) where
  -- what each reply to the words has
  pub record IsOwn (given : Reply Status) : Type 0 where
    pub replied : IsReplied given.status
    pub other : given.status ≡ usage → IsOther
    pub told : IsOther → given.status ≡ usage
    pub reported : IsReported given.status → given.out ≡ []
    pub printed : IsPrinted given.status → given.err ≡ []

  -- what is known of the statuses, the replies and the words
  pub record IsProgram : Type 0 where
    pub statuses : AreStatuses faults.read_fault faults.write_fault faults.out_of_memory usage IsReplied IsReported IsPrinted
    pub own : (given : Reply Status) → IsReply given → IsOwn given
    pub asked : IsAsked → IsOther → ⊥
    pub read : Unread → IsAsked

  -- the work ended so
  pub record Ends (ending : Ending Status File) : Type 0 where
    pub may : IfSome reply (MayReply ending)
    pub cause : IsCaused IsReply (λ file. (cause : Unread) × (faults.unread_line file ≡ line cause)) IsAsked ending

  -- what a status says of the call, in any program
  pub record Runs (result : Status) : Type 0 where
    pub status : IfSome reply (λ given. IsReplied result → result ≡ given.status)
    pub out : IfSome reply (λ given. IsReplied result → Grew call.out given.out)
    pub err : IfSome reply (λ given. IsReplied result → Grew call.err given.err)
    pub own : IsReplied result → (given : Reply Status) × IsReply given × (given.status ≡ result)
    pub complete : ¬ (HasFailed call.out) → ¬ (HasFailed call.err) → ¬ Unread → IsReplied result ⊎ (result ≡ faults.out_of_memory)
    pub other : result ≡ usage → IsOther
    pub told : IsOther → (result ≡ usage) ⊎ (result ≡ faults.write_fault)
    pub read_fault : result ≡ faults.read_fault → ReadFaulted call line
    pub write_fault : result ≡ faults.write_fault → OutFaulted call reply ⊎ ErrFaulted call reply line IsAsked faults.memory_line
    pub no_memory : result ≡ faults.out_of_memory → MemoryLacked call IsAsked faults.memory_line
    pub silent_out : IsReported result → IsUnchanged call.out
    pub silent_err : IsPrinted result → IsUnchanged call.err

  module _ (is : IsProgram) where
    -- what a status that no reply has says, by what it says of faults
    runs-fault : (status : Status) → (IsReplied status → ⊥) → (¬ (HasFailed call.out) → ¬ (HasFailed call.err) → ¬ Unread → IsReplied status ⊎ (status ≡ faults.out_of_memory))
        → (IsOther → status ≡ faults.write_fault) → (status ≡ faults.read_fault → ReadFaulted call line)
        → (status ≡ faults.write_fault → OutFaulted call reply ⊎ ErrFaulted call reply line IsAsked faults.memory_line)
        → (status ≡ faults.out_of_memory → MemoryLacked call IsAsked faults.memory_line) → (IsReported status → IsUnchanged call.out) → Runs status
    runs-fault status never complete told read_fault write_fault lacked silent = record {
      status = untold reply (λ given. status ≡ given.status);
      out = untold reply (λ given. Grew call.out given.out);
      err = untold reply (λ given. Grew call.err given.err);
      own = λ kind. absurd (never kind);
      complete = complete;
      other = λ e. absurd (never (subst IsReplied (sym e) is.statuses.usage_replied));
      told = λ other. inr (told other);
      read_fault = read_fault;
      write_fault = write_fault;
      no_memory = lacked;
      silent_out = silent;
      silent_err = λ kind. absurd (never (is.statuses.printed status kind));
    }
      where
        untold : (t : Option (Reply Status)) (P : Reply Status → Type 0) → IfSome t (λ given. IsReplied status → P given)
        untold None P = tt
        untold (Some given) P = λ kind. absurd (never kind)

    -- an ending that was written whole
    runs-whole : (ending : Ending Status File) → Ends ending → IsWhole (ending_reply faults ending) call.out call.err → Runs (ending_reply faults ending).status
    runs-whole (replied given) ends whole =
        let own = is.own given ends.cause in
        record {
          status = where-some reply (MayReply {File = File} (replied given)) (λ r. IsReplied given.status → given.status ≡ r.status) ends.may (λ r same kind. ap (λ (x : Reply Status). x.status) same);
          out = where-some reply (MayReply {File = File} (replied given)) (λ r. IsReplied given.status → Grew call.out r.out) ends.may (λ r same kind. subst (λ (x : Reply Status). Grew call.out x.out) same whole.printed);
          err = where-some reply (MayReply {File = File} (replied given)) (λ r. IsReplied given.status → Grew call.err r.err) ends.may (λ r same kind. subst (λ (x : Reply Status). Grew call.err x.err) same whole.reported);
          own = λ kind. (given, ends.cause, refl);
          complete = λ out err read. inl own.replied;
          other = own.other;
          told = λ other. inl (own.told other);
          read_fault = λ e. absurd (is.statuses.no_read (subst IsReplied e own.replied));
          write_fault = λ e. absurd (is.statuses.no_write (subst IsReplied e own.replied));
          no_memory = λ e. absurd (is.statuses.no_memory (subst IsReplied e own.replied));
          silent_out = λ kind. still call.out given.out (own.reported kind) whole.printed;
          silent_err = λ kind. still call.err given.err (own.printed kind) whole.reported;
        }
    runs-whole (unread file) ends whole =
        runs-fault faults.read_fault is.statuses.no_read (λ out err read. absurd (read ends.cause.0)) (λ other. absurd (is.asked (is.read ends.cause.0) other))
        (λ e. record { cause = ends.cause.0; out = still call.out [] refl whole.printed; err = subst (Grew call.err) ends.cause.1 whole.reported })
        (λ e. absurd (is.statuses.read_write e)) (λ e. absurd (is.statuses.read_memory e)) (λ kind. still call.out [] refl whole.printed)
    runs-whole no_memory ends whole =
        runs-fault faults.out_of_memory is.statuses.no_memory (λ out err read. inr refl) (λ other. absurd (is.asked ends.cause other))
        (λ e. absurd (is.statuses.read_memory (sym e))) (λ e. absurd (is.statuses.write_memory (sym e)))
        (λ e. record { cause = ends.cause; out = still call.out [] refl whole.printed; err = whole.reported }) (λ kind. still call.out [] refl whole.printed)

    -- out failed
    part-out : (ending : Ending Status File) (given : Reply Status) → MayReply ending given → GrewByPart call.out (ending_reply faults ending).out → GrewByPart call.out given.out
    part-out (replied own) given same part = subst (λ (r : Reply Status). GrewByPart call.out r.out) same part
    part-out (unread file) given same part = part-any call.out given.out part
    part-out no_memory given same part = part-any call.out given.out part

    -- err failed
    part-err : (ending : Ending Status File) → Ends ending → (given : Reply Status) → MayReply ending given → GrewByPart call.err (ending_reply faults ending).err
        → EndsWithin call line IsAsked faults.memory_line given
    part-err (replied own) ends given same part = inl (subst (λ (r : Reply Status). GrewByPart call.err r.err) same part)
    part-err (unread file) ends given same part = inr (inl (ends.cause.0, subst (GrewByPart call.err) ends.cause.1 part))
    part-err no_memory ends given same part = inr (inr (ends.cause, part))

    module _ (ending : Ending Status File) (ends : Ends ending) where
      faulted : IsCutReply (ending_reply faults ending) call.out call.err → OutFaulted call reply ⊎ ErrFaulted call reply line IsAsked faults.memory_line
      faulted (inl cut) = inl (record {
        cause = cut.cause;
        out = where-some reply (MayReply ending) (λ given. GrewByPart call.out given.out) ends.may (λ given same. part-out ending given same cut.part);
        err = cut.rest;
      })
      faulted (inr cut) = inr (record {
        cause = cut.cause;
        out = cut.rest;
        err = where-some reply (MayReply ending) (EndsWithin call line IsAsked faults.memory_line) ends.may (λ given same. part-err ending ends given same cut.part);
      })

      failed : IsCutReply (ending_reply faults ending) call.out call.err → ¬ (HasFailed call.out) → ¬ (HasFailed call.err) → ⊥
      failed (inl cut) out err = out cut.cause
      failed (inr cut) out err = err cut.cause

      runs-cut : IsCutReply (ending_reply faults ending) call.out call.err → Runs faults.write_fault
      runs-cut cut =
          runs-fault faults.write_fault is.statuses.no_write (λ out err read. absurd (failed cut out err)) (λ other. refl)
          (λ e. absurd (is.statuses.read_write (sym e))) (λ e. faulted cut) (λ e. absurd (is.statuses.write_memory e)) (λ kind. absurd (is.statuses.silent kind))

      -- however the ending was written
      pub runs : (result : Status) → IsWrittenAs (ending_reply faults ending) faults.write_fault call.out call.err result → Runs result
      runs result (inl whole) = subst Runs (sym whole.0) (runs-whole ending ends whole.1)
      runs result (inr cut) = subst Runs (sym cut.0) (runs-cut cut.1)
