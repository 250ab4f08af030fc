-- The log of a sample.
use Rattle.std.specs.Prelude.{◌≡◌, ℕ, ◌^◌, ◌<◌, ◌≤◌, List, length, Bool, true, false, nat_le, if◌then◌else◌, Option, Some, refl}
use Rattle.std.proofs.Common.{inl, sym, ◌∙◌, arith}
use Rattle.std.proofs.lemmas.Bool.{le-leb, leb-true}
use Rattle.std.proofs.lemmas.List.{length-map}
use Rattle.std.proofs.lemmas.Grind.{common_steps}
use Rattle.psi_io.specs.Sink.{appended}
use Rattle.psi_io.proofs.SinkLemmas.{appended-nothing}
use Rattle.psi_state.specs.declared.Outcome.{Outcome}
use Rattle.psi_state.specs.declared.Outcome.TheVariants.{Met, NotMet}
use Rattle.psi_past.specs.SeedWord.{seed_word}
use Rattle.psi_rate.specs.Composition.{SystemParts}
use Rattle.psi_rate.specs.Doubling.{IsFirst}
use Rattle.psi_rate.proofs.PowersLemmas.{pow-order}
use Rattle.psi_horizon.specs.Runs.{ending_at}
use Rattle.psi_log_format.specs.Text.{log_text, IsLogOf}
use Rattle.psi_log_writer.specs.Recorded.{log_of}
use Rattle.psi_net_model.specs.Network.{Network, caps_of}
use Rattle.psi_net_model.specs.Valid.{IsNetwork}
use Rattle.psi_net_model.specs.declared.entries.Queue.{Queue}
use Rattle.psi_command.specs.declared.status.Status.TheVariants as status
use Rattle.psi_reply.specs.Lines.{too_long_line}
use Rattle.psi_reply.specs.Sample.{functions_by_time, sampled, IsDrawn}
use Rattle.psi_reply.specs.Networks.{IsSystemOf}
use Rattle.psi_reply.specs.Certify.{certificate}
use Rattle.psi_program.specs.Reply.{text_reply, line_reply}
use Rattle.psi_reply.specs.Reply.{Reply, log_reply, certify_reply}
use Rattle.psi_reply.specs.Certified.{IsWrittenOf, IsCertified}
use Rattle.psi_reply.proofs.CertificatesLemmas.{log-by, certificate_log, certificate_replayed}
use Rattle.psi_reply.proofs.SamplingLemmas.{sampled-drawn}

-- so the reply with it is the network's
pub certified_by : {E : Type 0} (function : E → List ℕ → List ℕ) (system : SystemParts E) (n : Network) (seed stream horizon : ℕ) (state : List ℕ) (queues : ℕ) (o : Outcome)
    → IsNetwork n → IsSystemOf function n system → queues ≡ length (caps_of n) → o ≡ sampled n seed stream → o ≡ Met horizon state
    → log_reply (log_text (log_of function system (seed_word seed stream) (record { version = 2; queues = queues; seed = seed; stream = stream; horizon = horizon }) state))
    ≡ certify_reply n seed stream (sampled n seed stream)
certified_by function system n seed stream horizon state queues o kept of count is met = grind (arith, common_steps, log-by)

-- what a sample needs of its log: the horizon is within the limit, and a header has as many queues as there are
pub first_within : {A : Type 0} (run : ℕ → Option A) (limit t : ℕ) (a : A) → IsFirst run limit t a → t ≤ 2 ^ limit
first_within run limit t a first = (let order : 2 ^ first.exponent ≤ 2 ^ limit = pow-order first.exponent limit first.within in rw first.power order)

pub queues_counted : (n : Network) (queues : ℕ) → queues ≡ length n.queues → queues ≡ length (caps_of n)
queues_counted n queues is = is ∙ sym (length-map n.queues (λ (q : Queue). q.capacity))

-- ---- what is written means

-- the reply with a text, by whether it may be written
abbrev chosen : List ℕ → Bool → Reply
chosen text fitting = if fitting then text_reply status.Done text else line_reply status.LogTooLong too_long_line

-- a power of two of at most the limit's is one of the horizons of a network's logs
horizon-fits : (exponent limit horizon : ℕ) → exponent ≤ limit → horizon ≡ 2 ^ exponent → (1 ≤ horizon) × (horizon ≤ 2 ^ limit)
horizon-fits exponent limit horizon within power =
    let low : 2 ^ exponent ≤ 2 ^ limit = pow-order exponent limit within in
    let some : 1 ≤ 2 ^ exponent = pow-order 0 exponent (omega arith) in
    (rw power some, rw power low)

-- the log of the run of a sample that is met, written or too long
module _ (n : Network) (seed stream : ℕ) (kept : IsNetwork n) (small : seed < 2 ^ 64) (less : stream < 2 ^ 64) (horizon : ℕ) (state : List ℕ)
    (drawn : IsDrawn n seed stream (Met horizon state)) where
  ends : ending_at n.split (functions_by_time n seed stream) (caps_of n) horizon ≡ Some state
  unfolding functions_by_time
  ends = drawn.least.answer

  fits : (1 ≤ horizon) × (horizon ≤ 2 ^ n.limit)
  fits = horizon-fits drawn.least.exponent n.limit horizon drawn.least.within drawn.least.power

  past : (count : ℕ) → nat_le count 33554432 ≡ false → 33554432 < count
  past count fails = grind (arith, common_steps, le-leb)

  logged-as : (before after : Option (List ℕ)) (text : List ℕ) (fitting : Bool) → text ≡ log_text (certificate n seed stream horizon state) → nat_le (length text) 33554432 ≡ fitting
      → after ≡ appended before (chosen text fitting).out → IsWrittenOf before after (chosen text fitting).status n seed stream (Met horizon state)
  logged-as before after text true written fitting grew =
      let is : IsLogOf text (certificate n seed stream horizon state) =
      record { log = certificate_log n seed stream kept small less horizon state ends fits.0 fits.1; text = written; few = leb-true (length text) 33554432 fitting } in
      inl (record {
        text = text;
        grew = grew;
        is = is;
        replayed = certificate_replayed n seed stream kept small less horizon state ends fits.0 fits.1 text is;
        status = refl;
      })
  logged-as before after text false written fitting grew = grind (arith, common_steps, appended-nothing, past)

-- what is written of an outcome means what it says
written-of : (n : Network) (seed stream : ℕ) → IsNetwork n → seed < 2 ^ 64 → stream < 2 ^ 64 → (o : Outcome) → IsDrawn n seed stream o → (before after : Option (List ℕ))
    → after ≡ appended before (certify_reply n seed stream o).out → IsWrittenOf before after (certify_reply n seed stream o).status n seed stream o
written-of n seed stream kept small less (Met horizon state) drawn before after grew = grind (arith, common_steps, logged-as)
written-of n seed stream kept small less (NotMet limit) drawn before after grew = record { text = grew; status = refl }

pub certified_printed : (before after : Option (List ℕ)) (n : Network) (seed stream : ℕ) → IsNetwork n → seed < 2 ^ 64 → stream < 2 ^ 64
    → after ≡ appended before (certify_reply n seed stream (sampled n seed stream)).out
    → IsCertified before after (certify_reply n seed stream (sampled n seed stream)).status n seed stream
certified_printed before after n seed stream kept small less grew = grind (arith, common_steps, sampled-drawn, written-of)
