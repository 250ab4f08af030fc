-- Reports over the samples of several streams.
use Rattle.std.specs.Prelude.{◌≡◌, ℕ, zero, suc, ◌+◌, ◌≤◌, List, [], ◌∷◌, ◌++◌, length, Option, refl}
use Rattle.std.proofs.Common.{ap, ◌∙◌, arith}
use Rattle.std.proofs.lemmas.Grind.{common_steps}
use Rattle.psi_io.specs.Sink.{appended}
use Rattle.psi_state.specs.declared.Outcome.{Outcome}
use Rattle.psi_state.specs.declared.Outcome.TheVariants.{Met, NotMet}
use Rattle.psi_net_model.specs.Network.{Network}
use Rattle.psi_net_model.specs.Generated.{generated_network}
use Rattle.psi_net_model.specs.Valid.{IsNetwork}
use Rattle.psi_report.specs.Samples.{IsSampleOf}
use Rattle.psi_report.specs.Report.{report_text}
use Rattle.psi_command.specs.declared.status.Status.TheVariants.{Done}
use Rattle.psi_reply.specs.Sample.{sampled, IsDrawn}
use Rattle.psi_reply.specs.Report.{samples_of, AreDrawn, IsReportOf}
use Rattle.psi_reply.specs.Trial.{trial_text, IsTrial}
use Rattle.psi_reply.proofs.SamplingLemmas.{sampled-drawn}

-- a sample that is met has a state within the capacities, and its horizon is a power of two of at most 2^22
pub drawn-sample : (net : Network) (seed stream : ℕ) (outcome : Outcome) → net.limit ≤ 22 → IsDrawn net seed stream outcome → IsSampleOf net outcome
drawn-sample net seed stream (Met horizon state) limit drawn = grind (arith, common_steps)
drawn-sample net seed stream (NotMet l) limit drawn = tt

pub sampled_counts : (net : Network) (seed stream : ℕ) → IsNetwork net → IsSampleOf net (sampled net seed stream)
sampled_counts net seed stream kept = drawn-sample net seed stream (sampled net seed stream) kept.limit (sampled-drawn net seed stream kept)

-- the samples of streams, and of those after them
pub samples_append : (net : Network) (seed first m n : ℕ) → samples_of net seed first (m + n) ≡ samples_of net seed first m ++ samples_of net seed (first + m) n
samples_append net seed first zero n = grind (arith, common_steps)
samples_append net seed first (suc m) n =
    let more : suc m + n ≡ suc (m + n) = omega arith in
    let same : suc first + m ≡ first + suc m = omega arith in
    ap (samples_of net seed first) more
    ∙ ap (λ (os : List Outcome). sampled net seed first ∷ os) (samples_append net seed (suc first) m n ∙ ap (λ f. samples_of net seed (suc first) m ++ samples_of net seed f n) same)

-- one stream more
pub samples_more : (net : Network) (seed first count : ℕ)
    → samples_of net seed first (count + 1) ≡ samples_of net seed first count ++ sampled net seed (first + count) ∷ []
samples_more net seed first count = samples_append net seed first count 1

pub samples_number : (net : Network) (seed first count : ℕ) → length (samples_of net seed first count) ≡ count
samples_number net seed first zero = refl
samples_number net seed first (suc count) = ap suc (samples_number net seed (suc first) count)

-- each of them is that of coupling from the past
pub samples-drawn : (net : Network) (seed first count : ℕ) → IsNetwork net → AreDrawn net seed first (samples_of net seed first count)
samples-drawn net seed first zero kept = tt
samples-drawn net seed first (suc count) kept = (sampled-drawn net seed first kept, samples-drawn net seed (suc first) count kept)

-- what is printed of a network's samples is their report
pub report_printed : (before after : Option (List ℕ)) (net : Network) (seed first count : ℕ) → IsNetwork net
    → after ≡ appended before (report_text net (samples_of net seed first count)) → IsReportOf before after Done net seed first count
report_printed before after net seed first count kept grew = grind (arith, common_steps, samples_number, samples-drawn)

-- what is printed of a trial is one
pub trial_printed : (before after : Option (List ℕ)) (number : ℕ) → IsNetwork (generated_network number)
    → after ≡ appended before (trial_text number (generated_network number) (samples_of (generated_network number) number 0 4))
    → IsTrial before after Done number
trial_printed before after number kept grew = record {
  outcomes = samples_of (generated_network number) number 0 4;
  four = refl;
  drawn = samples-drawn (generated_network number) number 0 4 kept;
  status = refl;
  text = grew;
}
