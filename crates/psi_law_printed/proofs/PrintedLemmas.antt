-- What is printed of the network of a file is what is counted.
use Rattle.std.specs.Prelude.{◌≡◌, ℕ, ◌^◌, List, [], ◌∷◌, map, All, Option, Some, None, IsSome, Result, Ok, option_and_then, if◌then◌else◌, Bool, refl}
use Rattle.std.proofs.Common.{ap, ◌∙◌, arith, rules}
use Rattle.std.proofs.lemmas.Bool.{le-leb}
use Rattle.std.proofs.lemmas.List.Elements.{All-nil, All-cons}
use Rattle.psi_state.specs.State.{numbers_from}
use Rattle.psi_state.specs.declared.Outcome.{Outcome}
use Rattle.psi_past.specs.SeedWord.{seed_word}
use Rattle.psi_reward.specs.declared.kinds.RewardKind.{RewardKind}
use Rattle.psi_kinds.specs.declared.moves.Move.{Move}
use Rattle.psi_kinds.specs.Moves.{move_of}
use Rattle.psi_rate.specs.Composition.{Functions, function_at}
use Rattle.psi_rate.specs.Outcomes.{outcome_within}
use Rattle.psi_rate.proofs.PowersLemmas.{pow-order}
use Rattle.psi_closed_arcs.specs.Walks.{customers}
use Rattle.psi_closed.specs.Diagram.{IsTotal}
use Rattle.psi_net_model.specs.Network.{Network, caps_of, rates_of}
use Rattle.psi_net_model.specs.declared.entries.NamedEvent.{NamedEvent}
use Rattle.psi_net_model.specs.Valid.{IsNetwork}
use Rattle.psi_net_document.specs.declared.refusals.NetRefusal.{NetRefusal}
use Rattle.psi_net.specs.Reading.{network_of}
use Rattle.psi_report.specs.Report.{report_text}
use Rattle.psi_command.specs.declared.status.Status.TheVariants.{Done, NoSuchTotal}
use Rattle.psi_command.specs.Command.{sample, couple, reward, report, closed}
use Rattle.psi_program.specs.Reply.{text_reply, line_reply}
use Rattle.psi_reply.specs.Lines.{no_total_line}
use Rattle.psi_reply.specs.Sample.{functions_by_time, sampled}
use Rattle.psi_reply.specs.Report.{samples_of}
use Rattle.psi_reply.specs.Couple.{endings, coupling}
use Rattle.psi_reply.specs.Reward.{values, valuation}
use Rattle.psi_reply.specs.Closed.{first_other, closed_endings, closed_sampled}
use Rattle.psi_reply.proofs.ClosingLemmas.{moves-of_none}
use Rattle.psi_reply.specs.Reply.{Reply, value_reply, outcome_reply, closed_reply}
use Rattle.psi_run.specs.Reply.{reply_to, reply_of, judged_reply}
use Rattle.psi_law.specs.Chains.{Chain}
use Rattle.psi_law.specs.Networks.{network_sample, network_total_sample}
use Rattle.psi_law.proofs.LawfulLemmas.{AreLawful}
use Rattle.psi_law.proofs.WheelLemmas.{wheel-exact}
use Rattle.psi_law.proofs.WordsLemmas.{seed_word-small}
use Rattle.psi_law.proofs.NetworkLemmas.{network-lawful, network-sampled}
use Rattle.psi_law.proofs.NetworkAnswerLemmas.{coupling-lawful, values-lawful}
use Rattle.psi_law.proofs.ClosedLemmas.{kinds-lawful}
use Rattle.psi_law_printed.specs.Printed.{AreCountedWords, HaveLaws, RepliesAreCounted, SamplesAreCounted, ReportsAreCounted, ClosedSamplesAreCounted}
use Rattle.psi_run.proofs.EndingsLemmas.{accepted_kept}

-- the words of a seed and a stream that a network looks at
words-counted : (net : Network) → IsNetwork net → AreCountedWords (2 ^ net.limit)
words-counted net kept = λ seed stream place small.
    (let most = pow-order net.limit 36 (let limit = kept.limit in omega arith) in seed_word-small seed stream place (omega arith))

-- the reply to a command that reads one file, where the file holds these bytes and they are the network's
file-reply : (reply : Network → Option Reply) (told : Option (List ℕ)) (bytes : List ℕ) (net : Network) → told ≡ Some bytes → network_of bytes ≡ Ok net
    → option_and_then (λ (held : List ℕ). judged_reply reply (network_of held)) told ≡ reply net
file-reply reply told bytes net is read =
    ap (λ (o : Option (List ℕ)). option_and_then (λ (held : List ℕ). judged_reply reply (network_of held)) o) is
    ∙ ap (λ (r : Result Network NetRefusal). judged_reply reply r) read

replies-counted : (told : List ℕ → Option (List ℕ)) (name bytes : List ℕ) (net : Network) (seed stream : ℕ) → told name ≡ Some bytes → network_of bytes ≡ Ok net
    → RepliesAreCounted told name net seed stream
unfolding reply_to sampled coupling endings valuation values functions_by_time
replies-counted told name bytes net seed stream is read = record {
  sample = file-reply (reply_of (sample name seed stream) told) (told name) bytes net is read;
  couple = file-reply (reply_of (couple name seed stream) told) (told name) bytes net is read;
  reward = λ of kind named.
      file-reply (reply_of (reward name seed stream of) told) (told name) bytes net is read
      ∙ ap (λ (k : Option RewardKind). Some (value_reply net seed stream k)) named;
}

-- samples of runs have all the laws
have-laws : {chain : Chain} {run : Functions → ℕ → Option (List ℕ)} {limit : ℕ} → AreLawful chain run limit
    → HaveLaws chain (λ past. outcome_within (run (function_at chain.functions chain.rates past)) limit) (2 ^ limit) (λ past. run (function_at chain.functions chain.rates past))
have-laws all = (let laws = all.laws in search rules)

pub samples-counted : SamplesAreCounted
samples-counted = λ bytes net read.
    (let kept = accepted_kept bytes net read in
    let sampled = network-sampled net kept in
    record {
      samples = have-laws (network-lawful net kept);
      couplings = (coupling-lawful net kept).law;
      values = values-lawful net kept;
      wheel = wheel-exact (rates_of net) kept.rates;
      monotone = sampled.monotone;
      small = sampled.small;
      words = words-counted net kept;
      printed = λ told name seed stream is. replies-counted told name bytes net seed stream is read;
    })

-- ---- reports

-- the sample of each stream is that of its past
streams-sampled : (net : Network) (seed : ℕ) (streams : List ℕ) → map (λ stream. sampled net seed stream) streams ≡ map (network_sample net) (map (λ stream. seed_word seed stream) streams)
unfolding sampled functions_by_time
streams-sampled net seed [] = refl
streams-sampled net seed (stream ∷ streams) = ap (λ (outcomes : List Outcome). network_sample net (seed_word seed stream) ∷ outcomes) (streams-sampled net seed streams)

report-reply : (told : List ℕ → Option (List ℕ)) (name bytes : List ℕ) (net : Network) (seed first count : ℕ) → told name ≡ Some bytes → network_of bytes ≡ Ok net
    → reply_to (Ok (report name seed first count)) told ≡ Some (text_reply Done (report_text net (samples_of net seed first count)))
unfolding reply_to
report-reply told name bytes net seed first count is read = file-reply (reply_of (report name seed first count) told) (told name) bytes net is read

pub reports-counted : ReportsAreCounted
reports-counted = λ bytes net read. record {
  samples = λ seed first count. streams-sampled net seed (numbers_from first count);
  printed = λ told name seed first count is.
      report-reply told name bytes net seed first count is read
      ∙ ap (λ (outcomes : List Outcome). Some (text_reply Done (report_text net outcomes))) (streams-sampled net seed (numbers_from first count));
}

-- ---- closed networks

some-from : {A : Type 0} (o : Option A) (a : A) → o ≡ Some a → IsSome o
some-from None a same = absurd cc
some-from (Some b) a same = refl

moves-some : (events : List NamedEvent) (moves : List Move) → map (λ event. move_of event.kind) events ≡ map Some moves → All (λ event. IsSome (move_of event.kind)) events
moves-some [] moves same = All-nil (λ event. IsSome (move_of event.kind))
moves-some (event ∷ events) [] same = absurd cc
moves-some (event ∷ events) (m ∷ ms) same =
    let head : move_of event.kind ≡ Some m = cc in
    let rest : map (λ e. move_of e.kind) events ≡ map Some ms = cc in
    All-cons (λ e. IsSome (move_of e.kind)) event events (some-from (move_of event.kind) m head) (moves-some events ms rest)

total-counted : (net : Network) (seed stream total : ℕ) → first_other net ≡ None → IsTotal (caps_of net) total
    → closed_reply net seed stream total (first_other net) ≡ outcome_reply (network_total_sample net total (seed_word seed stream))
unfolding closed_sampled closed_endings functions_by_time
total-counted net seed stream total none fits =
    ap (λ (o : Option ℕ). closed_reply net seed stream total o) none
    ∙ ap (λ (b : Bool). if b then outcome_reply (closed_sampled net seed stream total) else line_reply NoSuchTotal no_total_line) (le-leb total (customers (caps_of net)) fits.fits)

closed-reply : (told : List ℕ → Option (List ℕ)) (name bytes : List ℕ) (net : Network) (seed stream total : ℕ) → told name ≡ Some bytes → network_of bytes ≡ Ok net
    → reply_to (Ok (closed name seed stream total)) told ≡ Some (closed_reply net seed stream total (first_other net))
unfolding reply_to
closed-reply told name bytes net seed stream total is read = file-reply (reply_of (closed name seed stream total) told) (told name) bytes net is read

pub closed-samples-counted : ClosedSamplesAreCounted
closed-samples-counted = λ bytes net total read none fits.
    (let kept = accepted_kept bytes net read in
    let moves = moves-of_none net none in
    record {
      samples = have-laws (kinds-lawful net total kept (moves-some net.events moves.0 moves.1) fits);
      wheel = wheel-exact (rates_of net) kept.rates;
      words = words-counted net kept;
      printed = λ told name seed stream is.
          closed-reply told name bytes net seed stream total is read ∙ ap (λ (r : Reply). Some r) (total-counted net seed stream total none fits);
    })
