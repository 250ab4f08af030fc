-- The least coupling of a network and the first values of its rewards.
use Rattle.std.specs.Prelude.{◌≡◌, ℕ, ◌^◌, List, Option, Some}
use Rattle.std.proofs.Common.{arith, ap, subst}
use Rattle.std.proofs.lemmas.Grind.{common_steps}
use Rattle.psi_state.specs.declared.Outcome.TheVariants.{Met}
use Rattle.psi_state.proofs.BoxesLemmas.{In-of_all_states}
use Rattle.psi_reward.specs.declared.kinds.RewardKind.{RewardKind}
use Rattle.psi_reward.specs.Worth.{worth_of}
use Rattle.psi_rate.specs.Composition.{Functions, function_at, AreClosed}
use Rattle.psi_rate.specs.Doubling.{IsFirst, IsLasting}
use Rattle.psi_rate.proofs.FunctionsLemmas.{function_at-closed}
use Rattle.psi_rate.proofs.OutcomesLemmas.{outcome_within-is}
use Rattle.psi_horizon.specs.Runs.{ending_at}
use Rattle.psi_couple.specs.declared.answers.Coupled.{Coupled}
use Rattle.psi_couple.specs.declared.answers.Coupled.TheVariants.{At, NotAt}
use Rattle.psi_couple.specs.declared.answers.Valued.{Valued}
use Rattle.psi_couple.specs.Coupling.{coupled_within, IsCoupled}
use Rattle.psi_couple.specs.Valuing.{value_at, IsValued}
use Rattle.psi_couple.proofs.CouplingLemmas.{first-within, coupled_within-is}
use Rattle.psi_couple.proofs.ValuingLemmas.{value-reached, valued_within-is}
use Rattle.psi_net_model.specs.Network.{Network, caps_of, rates_of, functions_of}
use Rattle.psi_net_model.specs.Valid.{IsNetwork}
use Rattle.psi_law.specs.Counting.{Words}
use Rattle.psi_law.specs.Networks.{network_chain, network_ending, network_sample}
use Rattle.psi_law.specs.Couplings.{network_coupling, coupled_outcome, AgreesCoupled}
use Rattle.psi_law.specs.Values.{network_value, ReachesValue, BalanceIsValueLaw, AgreesValued}
use Rattle.psi_law.specs.Statements.{LooksAtFirst}
use Rattle.psi_law.proofs.CoalescenceLemmas.{runs-reach}
use Rattle.psi_law.proofs.CouplingLemmas.{coupled_within-agrees}
use Rattle.psi_law.proofs.LooksLemmas.{answers-look, coupled-same, valued-same}
use Rattle.psi_law.proofs.ValueLemmas.{value-agrees, value-law}
use Rattle.psi_law.proofs.LawfulLemmas.{IsLawful, lawful}
use Rattle.psi_law.proofs.NetworkLemmas.{follow-first, network-closed, network-runs, network-lawful}

-- where a coupling is met, the run of its horizon ends with its state
coupled-ends : (run : ℕ → Option (List ℕ)) (limit : ℕ) (c : Coupled) → IsLasting run → IsCoupled run limit c → (t : ℕ) (s : List ℕ) → coupled_outcome c ≡ Met t s → run (2 ^ limit) ≡ Some s
coupled-ends run limit (At h z) lasting is t s met = grind (arith, common_steps)
coupled-ends run limit (NotAt l) lasting is t s met = absurd cc

module _ (net : Network) (kept : IsNetwork net) where
  abbrev functions_under : Words → Functions
  functions_under past = function_at (functions_of net) (rates_of net) past

  closed-under : (past : Words) → AreClosed (caps_of net) (functions_under past)
  closed-under past = function_at-closed (caps_of net) (functions_of net) (rates_of net) past (network-closed net kept)

  -- ---- couplings

  pub coupling-agrees : (past : Words) → AgreesCoupled (network_coupling net past) (network_sample net past)
  coupling-agrees past = coupled_within-agrees (network_ending net past) net.limit ((network-runs net kept).last past)

  -- the least coupling has all laws of a sample
  pub coupling-lawful : IsLawful (network_chain net) (λ past. coupled_outcome (network_coupling net past)) (2 ^ net.limit)
  coupling-lawful =
      let runs = network-runs net kept in
      lawful (network_chain net) (λ past. coupled_outcome (network_coupling net past)) (2 ^ net.limit) (network-lawful net kept).laws.is_chain
      (runs-reach (network_chain net) (λ f. ending_at net.split f (caps_of net)) runs (λ past. coupled_outcome (network_coupling net past)) (2 ^ net.limit)
      (λ past. coupled-ends (network_ending net past) net.limit (network_coupling net past) (runs.last past) (coupled_within-is (network_ending net past) net.limit)))
      (answers-look (functions_of net) (rates_of net) (λ f. ending_at net.split f (caps_of net)) (λ answers. coupled_outcome (coupled_within answers net.limit)) (2 ^ net.limit) runs.looks
      (λ first other agree. ap coupled_outcome (coupled-same first other net.limit agree)))

  -- ---- values

  pub values-agree : (kind : RewardKind) (past : Words) → AgreesValued (worth_of kind) (network_value net kind past) (network_sample net past)
  values-agree kind past =
      let chain = (network-lawful net kept).laws.is_chain in
      let some = chain.finite.some in
      value-agrees (worth_of kind) net.split (caps_of net) (functions_under past) net.limit (network_value net kind past) (network_sample net past) some.0
      (In-of_all_states (caps_of net) some.0 some.1) (closed-under past)
      (valued_within-is (value_at (worth_of kind) net.split (functions_under past) (caps_of net)) net.limit) (outcome_within-is (network_ending net past) net.limit)

  pub values-reach : (kind : RewardKind) → ReachesValue (network_value net kind) (2 ^ net.limit) (network_chain net) (worth_of kind)
  values-reach kind = record {
    each = λ past x own t v is.
        (let run = value_at (worth_of kind) net.split (functions_under past) (caps_of net) in
        let first : IsFirst run net.limit t v = subst (λ (o : Valued). IsValued run net.limit o) is (valued_within-is run net.limit) in
        (value-reached (worth_of kind) net.split (caps_of net) (functions_under past) t v (closed-under past) first.answer).each x (2 ^ net.limit) (In-of_all_states (caps_of net) x own)
        (first-within run net.limit t v first));
  }

  pub values-lawful : (kind : RewardKind) → BalanceIsValueLaw (network_value net kind) (2 ^ net.limit) (network_chain net) (worth_of kind)
  values-lawful kind = grind (arith, common_steps, value-law, network-lawful, values-reach)

  pub values-look : (kind : RewardKind) → LooksAtFirst (network_value net kind) (2 ^ net.limit)
  values-look kind = grind (arith, common_steps, answers-look, follow-first, valued-same)
