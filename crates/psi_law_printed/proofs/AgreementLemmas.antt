-- The commands give one state: each state that is given is that of every run that starts early enough.
use Rattle.std.specs.Prelude.{◌≡◌, ℕ, ℤ, ◌+◌, ◌^◌, List, Option}
use Rattle.std.proofs.Common.{inl, inr, ap, sym, ◌∙◌, subst, arith}
use Rattle.psi_state.specs.declared.Outcome.{Outcome}
use Rattle.psi_state.specs.declared.Outcome.TheVariants.{Met}
use Rattle.psi_state.specs.State.{IsBelow}
use Rattle.psi_state.proofs.BoxesLemmas.{In-of_all_states}
use Rattle.psi_past.specs.SeedWord.{seed_word}
use Rattle.psi_reward.specs.declared.kinds.RewardKind.{RewardKind}
use Rattle.psi_reward.specs.Worth.{worth_of}
use Rattle.psi_rate.specs.Composition.{Functions, AreClosed, IsReached}
use Rattle.psi_rate.specs.Doubling.{IsFirst}
use Rattle.psi_rate.specs.Least.{least_answer, IsLeast}
use Rattle.psi_rate.specs.Outcomes.{meeting_at, IsOutcome}
use Rattle.psi_rate.proofs.LeastLemmas.{least_answer-tells}
use Rattle.psi_rate.proofs.FunctionsLemmas.{function_at-closed}
use Rattle.psi_rate.proofs.OutcomesLemmas.{outcome_within-is}
use Rattle.psi_horizon.specs.Runs.{ending_at}
use Rattle.psi_horizon.proofs.RunsLemmas.{ending-reached}
use Rattle.psi_couple.specs.declared.answers.Coupled.{Coupled}
use Rattle.psi_couple.specs.declared.answers.Coupled.TheVariants as coupled
use Rattle.psi_couple.specs.declared.answers.Valued.{Valued}
use Rattle.psi_couple.specs.declared.answers.Valued.TheVariants as valued
use Rattle.psi_couple.specs.Coupling.{IsCoupled as IsCoupledWithin}
use Rattle.psi_couple.specs.Valuing.{value_at, IsValued, IsValueReached}
use Rattle.psi_couple.proofs.CouplingLemmas.{coupled_within-is}
use Rattle.psi_couple.proofs.ValuingLemmas.{value-reached, valued_within-is}
use Rattle.psi_exact.specs.declared.answers.Meeting.{Meeting}
use Rattle.psi_exact.specs.declared.answers.Meeting.TheVariants.{Constant}
use Rattle.psi_exact.specs.Surveys.{meeting_within, IsMeeting}
use Rattle.psi_exact.proofs.SurveysLemmas.{meeting_of-is, meeting_at-reached}
use Rattle.psi_net_model.specs.Network.{Network, caps_of, rates_of, functions_of}
use Rattle.psi_net_model.specs.Valid.{IsNetwork}
use Rattle.psi_reply.specs.Sample.{functions_by_time, sampled}
use Rattle.psi_reply.specs.Couple.{endings, coupling}
use Rattle.psi_reply.specs.Reward.{values, valuation}
use Rattle.psi_reply.specs.Exact.{meetings, meeting}
use Rattle.psi_law.proofs.NetworkLemmas.{network-closed, network-lawful}
use Rattle.psi_law.proofs.NetworkAnswerLemmas.{coupling-agrees, values-agree}
use Rattle.psi_law_printed.specs.Agreement.{IsLogged, IsGiven, StatesAgree, ValuesAgree, HorizonsAgree}
use Rattle.psi_run.proofs.EndingsLemmas.{accepted_kept}

meeting_within-is : (run : ℕ → Option (List ℕ)) (h : ℕ) → IsMeeting run h (meeting_within run h)
unfolding meeting_within
meeting_within-is run h = meeting_of-is run h (least_answer run (2 ^ h)) (least_answer-tells run (2 ^ h))

-- states that every run reaches are one
reached-one : (f : Functions) (caps x : List ℕ) (t u : ℕ) (state other : List ℕ) → IsBelow x caps → IsReached f caps t state → IsReached f caps u other → state ≡ other
reached-one f caps x t u state other within first second = sym (first.each x (t + u) within (omega arith)) ∙ second.each x (t + u) within (omega arith)

module _ (net : Network) (kept : IsNetwork net) (seed stream : ℕ) where
  closed-by_time : AreClosed (caps_of net) (functions_by_time net seed stream)
  unfolding functions_by_time
  closed-by_time = function_at-closed (caps_of net) (functions_of net) (rates_of net) (seed_word seed stream) (network-closed net kept)

  sampled-reached : (t : ℕ) (state : List ℕ) → sampled net seed stream ≡ Met t state → IsReached (functions_by_time net seed stream) (caps_of net) t state
  unfolding sampled
  sampled-reached t state met =
      let run = ending_at net.split (functions_by_time net seed stream) (caps_of net) in
      let first : IsFirst run net.limit t state = subst (λ (o : Outcome). IsOutcome run net.limit o) met (outcome_within-is run net.limit) in
      ending-reached net.split (caps_of net) (functions_by_time net seed stream) t state closed-by_time first.answer

  coupled-reached : (t : ℕ) (state : List ℕ) → coupling net seed stream ≡ coupled.At t state → IsReached (functions_by_time net seed stream) (caps_of net) t state
  unfolding coupling endings
  coupled-reached t state met =
      let run = ending_at net.split (functions_by_time net seed stream) (caps_of net) in
      let least : IsLeast run (2 ^ net.limit) t state = subst (λ (o : Coupled). IsCoupledWithin run net.limit o) met (coupled_within-is run net.limit) in
      ending-reached net.split (caps_of net) (functions_by_time net seed stream) t state closed-by_time least.answer

  mapped-reached : (h t : ℕ) (state : List ℕ) → meeting net seed stream h ≡ Constant t state → IsReached (functions_by_time net seed stream) (caps_of net) t state
  unfolding meeting meetings
  mapped-reached h t state met =
      let run = meeting_at (functions_by_time net seed stream) (caps_of net) in
      let least : IsLeast run (2 ^ h) t state = subst (λ (o : Meeting). IsMeeting run h o) met (meeting_within-is run h) in
      meeting_at-reached (caps_of net) (functions_by_time net seed stream) t state closed-by_time least.answer

  logged-reached : (state : List ℕ) → IsLogged net seed stream state → (t : ℕ) × IsReached (functions_by_time net seed stream) (caps_of net) t state
  logged-reached state is =
      let caps = caps_of net in
      let t = is.log.header.horizon in
      let reached = is.certifies.reached in
      let own = subst (λ s. IsReached (functions_by_time net s is.log.header.stream) caps t is.log.final) is.same_seed reached in
      let other = subst (λ s. IsReached (functions_by_time net seed s) caps t is.log.final) is.same_stream own in
      (t, subst (λ (x : List ℕ). IsReached (functions_by_time net seed stream) caps t x) is.final other)

  -- each state that is given
  given-reached : (state : List ℕ) → IsGiven net seed stream state → (t : ℕ) × IsReached (functions_by_time net seed stream) (caps_of net) t state
  given-reached state given = elim given [
    | inl sampled_in ↦ (sampled_in.0, sampled-reached sampled_in.0 state sampled_in.1)
    | inr more ↦ elim more [
      | inl coupled_in ↦ (coupled_in.0, coupled-reached coupled_in.0 state coupled_in.1)
      | inr last ↦ elim last [
        | inl mapped ↦ (mapped.1, mapped-reached mapped.0 mapped.1 state mapped.2)
        | inr logged ↦ logged-reached state logged
      ]
    ]
  ]

  some-state : (x : List ℕ) × IsBelow x (caps_of net)
  some-state = (let some = (network-lawful net kept).laws.is_chain.finite.some in (some.0, In-of_all_states (caps_of net) some.0 some.1))

  pub given-one : (state other : List ℕ) → IsGiven net seed stream state → IsGiven net seed stream other → state ≡ other
  given-one state other first second =
      let one = given-reached state first in
      let two = given-reached other second in
      reached-one (functions_by_time net seed stream) (caps_of net) some-state.0 one.0 two.0 state other some-state.1 one.1 two.1

  valued-reached : (kind : RewardKind) (t : ℕ) (value : ℤ) → valuation net seed stream kind ≡ valued.At t value
      → IsValueReached (worth_of kind) (functions_by_time net seed stream) (caps_of net) t value
  unfolding valuation values
  valued-reached kind t value is =
      let run = value_at (worth_of kind) net.split (functions_by_time net seed stream) (caps_of net) in
      let first : IsFirst run net.limit t value = subst (λ (o : Valued). IsValued run net.limit o) is (valued_within-is run net.limit) in
      value-reached (worth_of kind) net.split (caps_of net) (functions_by_time net seed stream) t value closed-by_time first.answer

  value-of_given : (state : List ℕ) (kind : RewardKind) (t : ℕ) (value : ℤ) → IsGiven net seed stream state → valuation net seed stream kind ≡ valued.At t value → value ≡ worth_of kind state
  value-of_given state kind t value given is =
      let reached = given-reached state given in
      let valued_from = valued-reached kind t value is in
      sym (valued_from.each some-state.0 (t + reached.0) some-state.1 (omega arith)) ∙ ap (worth_of kind) (reached.1.each some-state.0 (t + reached.0) some-state.1 (omega arith))

pub states-agree : StatesAgree
states-agree = λ bytes net seed stream state other read first second. given-one net (accepted_kept bytes net read) seed stream state other first second

pub values-agree_with : ValuesAgree
values-agree_with = λ bytes net seed stream state kind t value read given is. value-of_given net (accepted_kept bytes net read) seed stream state kind t value given is

pub horizons-agree : HorizonsAgree
unfolding coupling endings valuation values sampled functions_by_time
horizons-agree = λ bytes net seed stream read. record {
  coupled = coupling-agrees net (accepted_kept bytes net read) (seed_word seed stream);
  valued = λ kind. values-agree net (accepted_kept bytes net read) kind (seed_word seed stream);
}
