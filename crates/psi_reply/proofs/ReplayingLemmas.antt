-- The verdict on a log, and what is told of it.
use Rattle.std.specs.Prelude.{◌≡◌, ℕ, List, [], Option, Result, Ok, Err, IsErr, refl}
use Rattle.std.proofs.Common.{arith, ap, inl, inr, sym, ◌∙◌, subst}
use Rattle.std.proofs.lemmas.Grind.{common_steps}
use Rattle.psi_io.specs.Sink.{appended}
use Rattle.psi_io.proofs.SinkLemmas.{appended-nothing}
use Rattle.psi_log_format.specs.Log.{Certificate}
use Rattle.psi_log_words.specs.Refusal.{Refusal, ◌>>=◌, Gives}
use Rattle.psi_log_words.specs.declared.refusals.LogError.{LogError}
use Rattle.psi_log_words.specs.declared.refusals.LogError.TheVariants.{Refused, OutOfMemory}
use Rattle.psi_log_words.proofs.WordLemmas.{bind_ok, ok_same}
use Rattle.psi_log.specs.Reading.{read}
use Rattle.psi_log.proofs.ReadLemmas.{read_found}
use Rattle.psi_rate.specs.Composition.{SystemParts}
use Rattle.psi_program.specs.Reply.{line_reply}
use Rattle.psi_reply.specs.Lines.{log_refused_line}
use Rattle.psi_replay.specs.Verdict.{verdict_of}
use Rattle.psi_replay.specs.Passes.{judged_under, replayed}
use Rattle.psi_replay.specs.declared.answers.Verdict.{Verdict}
use Rattle.psi_net_model.specs.Network.{Network}
use Rattle.psi_net_model.specs.Valid.{IsNetwork}
use Rattle.psi_command.specs.declared.status.Status.TheVariants as status
use Rattle.psi_reply.specs.Replay.{judgement, IsReplayed}
use Rattle.psi_reply.specs.Networks.{IsSystemOf}
use Rattle.psi_reply.specs.Reply.{verdict_reply, replay_reply}
use Rattle.psi_reply.proofs.JudgingLemmas.{judged_certifies, judged_by}

-- what is told of a log that was read and judged so is the network's verdict
pub verdict_told : (net : Network) (bytes : List ℕ) (c : Certificate) (judged : Result (Unit {0}) Refusal) → IsNetwork net → read bytes ≡ Ok c → judgement net c ≡ judged
    → (before after : Option (List ℕ)) → after ≡ appended before (verdict_reply (verdict_of c judged)).out
    → IsReplayed before after (verdict_reply (verdict_of c judged)).status net bytes
verdict_told net bytes c (Ok kept) network reads judges before after grew =
    let is = read_found bytes c reads in
    inl (record { log = c; is = is; certifies = judged_certifies net c network is.log judges; status = refl; text = grew })
verdict_told net bytes c (Err refusal) network reads judges before after grew =
    inr (record {
      cause = inr (record { log = c; is = read_found bytes c reads; broken = subst (λ (j : Result (Unit {0}) Refusal). IsErr j) (sym judges) refl });
      status = refl;
      text = grew ∙ appended-nothing before;
    })

-- and so it is with a text that is no log
pub refusal_told : (net : Network) (bytes : List ℕ) (refusal : Refusal) → read bytes ≡ Err refusal → (before after : Option (List ℕ)) → after ≡ appended before []
    → IsReplayed before after status.LogRefused net bytes
refusal_told net bytes refusal reads before after grew = grind (arith, common_steps, appended-nothing)

-- what is told of the verdict on a text
pub verdict_replied : (net : Network) (bytes : List ℕ) (v : Verdict) → replayed (judgement net) bytes ≡ Ok v → replay_reply net bytes ≡ verdict_reply v
verdict_replied net bytes v is = grind (arith, common_steps, bind_ok, ok_same)

pub refusal_replied : (net : Network) (bytes : List ℕ) (line cause : ℕ) → replayed (judgement net) bytes ≡ Err (record { line = line; cause = cause })
    → replay_reply net bytes ≡ line_reply status.LogRefused (log_refused_line line cause)
refusal_replied net bytes line cause is = grind (arith, common_steps)

-- the verdict of a system that is the network's is that of the network, and so is each refusal
pub replayed_by : {E : Type 0} (function : E → List ℕ → List ℕ) (system : SystemParts E) (net : Network) (bytes : List ℕ) (result : Result Verdict LogError) → IsNetwork net → IsSystemOf function net system
    → Gives (λ (v : Verdict). v) result (replayed (judged_under function system) bytes) → Gives (λ (v : Verdict). v) result (replayed (judgement net) bytes)
replayed_by function system net bytes (Ok v) network of gives =
    let log = bind_ok (read bytes) (λ (c : Certificate). Ok (verdict_of c (judged_under function system c))) v gives in
    let own = judged_by function system net log.0 v network of (sym (ok_same (verdict_of log.0 (judged_under function system log.0)) v log.2)) in
    ap (λ (r : Result Certificate Refusal). r >>= (λ (c : Certificate). Ok (verdict_of c (judgement net c)))) log.1 ∙ ap (λ (w : Verdict). Ok w) (sym own)
replayed_by function system net bytes (Err OutOfMemory) network of gives = tt
replayed_by function system net bytes (Err (Refused line cause)) network of gives = grind (arith, common_steps)
