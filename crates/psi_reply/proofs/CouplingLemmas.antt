-- The least coupling of a network, and the first value of a reward.
use Rattle.std.specs.Prelude.{◌≡◌, ℕ, zero, suc, ◌+◌, List, [], ◌∷◌, take, Option, Some, None, option_map, slice_get, true, false, refl}
use Rattle.std.specs.Str.{bytes_eq}
use Rattle.std.proofs.Common.{ℤ, arith}
use Rattle.std.proofs.lemmas.Grind.{common_steps}
use Rattle.psi_io.specs.Sink.{appended}
use Rattle.psi_past.specs.SeedWord.{seed_word}
use Rattle.psi_reward.specs.declared.kinds.RewardKind.{RewardKind}
use Rattle.psi_reward.specs.Worth.{worth_of}
use Rattle.psi_rate.specs.Composition.{SystemParts, Functions, AreClosed, system_functions}
use Rattle.psi_horizon.specs.Runs.{ending_at}
use Rattle.psi_horizon.proofs.RunsLemmas.{ending-reached}
use Rattle.psi_horizon.proofs.SampleLemmas.{ending-within}
use Rattle.psi_couple.specs.declared.answers.Coupled.{Coupled}
use Rattle.psi_couple.specs.declared.answers.Valued.{Valued}
use Rattle.psi_couple.specs.declared.answers.Coupled.TheVariants as coupled
use Rattle.psi_couple.specs.declared.answers.Valued.TheVariants as valued
use Rattle.psi_couple.specs.Coupling.{coupled_within, IsCoupled, ReachesCoupled, CouplesWithin}
use Rattle.psi_couple.specs.Valuing.{value_at, IsValued, ReachesValued}
use Rattle.psi_couple.proofs.AgreeingLemmas.{coupled_within-agree, valued_within-agree}
use Rattle.psi_couple.proofs.CouplingLemmas.{coupled_within-is, coupled-decides}
use Rattle.psi_couple.proofs.ValuingLemmas.{value-reached, valued_within-is, valued-decides}
use Rattle.psi_net_model.specs.Network.{Network, NamedReward, caps_of}
use Rattle.psi_net_model.specs.Valid.{IsNetwork}
use Rattle.psi_reply.specs.Sample.{functions_by_time}
use Rattle.psi_reply.specs.Networks.{IsSystemOf}
use Rattle.psi_reply.specs.Couple.{endings, coupling, coupling_status, IsCouplingOf}
use Rattle.psi_reply.specs.Couplings.{coupling_text}
use Rattle.psi_reply.specs.Reward.{kind_named, values, valuation, value_status, IsValueOf, IsRewardOf}
use Rattle.psi_reply.specs.Values.{value_text}
use Rattle.psi_reply.specs.Reply.{value_reply}
use Rattle.psi_reply.proofs.SamplingLemmas.{functions_by_time-closed, of_network}

-- ---- the least coupling

-- the least coupling of a system that is the network's, within a limit, is that of the network
pub coupled_by : {E : Type 0} (function : E → List ℕ → List ℕ) (system : SystemParts E) (n : Network) (seed stream h : ℕ) (c : Coupled)
    → IsNetwork n → IsSystemOf function n system
    → IsCoupled (ending_at system.split (system_functions function system (seed_word seed stream)) system.caps) h c → c ≡ coupled_within (endings n seed stream) h
unfolding endings
coupled_by function system n seed stream h c kept of is =
    let own = of_network function system n seed stream (λ k f cs l. IsCoupled (ending_at k f cs) h c) kept of is in
    coupled_within-agree n.split (caps_of n) own.by_time (functions_by_time n seed stream) h c own.closed own.agree own.holds

-- every state that starts at the horizon is in its state at time zero, which is within the capacities
coupled-state : (split : ℕ) (caps : List ℕ) (f : Functions) (h : ℕ) (c : Coupled) → AreClosed caps f → IsCoupled (ending_at split f caps) h c
    → ReachesCoupled f caps c × CouplesWithin caps c
coupled-state split caps f h (coupled.At t s) closed is = (ending-reached split caps f t s closed is.answer, ending-within split caps f t s closed is.answer)
coupled-state split caps f h (coupled.NotAt l) closed is = (tt, tt)

-- what is printed of a network's least coupling is its text
pub coupling_printed : (before after : Option (List ℕ)) (n : Network) (seed stream : ℕ) → IsNetwork n
    → after ≡ appended before (coupling_text (coupling n seed stream)) → IsCouplingOf before after (coupling_status (coupling n seed stream)) n seed stream
unfolding endings coupling
coupling_printed before after n seed stream kept grew = grind (arith, common_steps, functions_by_time-closed, coupled_within-is, coupled-state, coupled-decides)

-- ---- the value of a reward

-- a reward at a place is the first of its name, where none before it has the name
pub named-found : (name : List ℕ) (rs : List NamedReward) (i : ℕ) (own : List ℕ) (kind : RewardKind) → kind_named name (take i rs) ≡ None
    → option_map (λ (r : NamedReward). r.name) (slice_get rs i) ≡ Some own → option_map (λ (r : NamedReward). r.kind) (slice_get rs i) ≡ Some kind
    → bytes_eq own name ≡ true → kind_named name rs ≡ Some kind
named-found name [] i own kind none named kinds same = absurd cc
named-found name (r ∷ rs) zero own kind none named kinds same = grind (arith, common_steps)
named-found name (r ∷ rs) (suc i) own kind none named kinds same = grind (arith, named-found name rs i own kind)

-- one reward more has another name
pub named-more : (name : List ℕ) (rs : List NamedReward) (i : ℕ) (own : List ℕ) → kind_named name (take i rs) ≡ None
    → option_map (λ (r : NamedReward). r.name) (slice_get rs i) ≡ Some own → bytes_eq own name ≡ false → kind_named name (take (i + 1) rs) ≡ None
named-more name [] i own none named other = absurd cc
named-more name (r ∷ rs) zero own none named other = (let e : r.name ≡ own = cc in rw (e, other) refl)
named-more name (r ∷ rs) (suc i) own none named other = grind (arith, common_steps, (named-more name rs i own))

-- the first value of a system that is the network's is that of the network
pub valued_by : {E : Type 0} (function : E → List ℕ → List ℕ) (system : SystemParts E) (n : Network) (seed stream : ℕ) (kind : RewardKind) (v : Valued)
    → IsNetwork n → IsSystemOf function n system
    → IsValued (value_at (worth_of kind) system.split (system_functions function system (seed_word seed stream)) system.caps) system.limit v
    → v ≡ valuation n seed stream kind
unfolding values valuation
valued_by function system n seed stream kind v kept of is =
    let own = of_network function system n seed stream (λ k f cs l. IsValued (value_at (worth_of kind) k f cs) l v) kept of is in
    valued_within-agree (worth_of kind) n.split (caps_of n) own.by_time (functions_by_time n seed stream) n.limit v own.closed own.agree own.holds

-- every state that starts at the horizon has the value at time zero
valued-state : (worth : List ℕ → ℤ) (split : ℕ) (caps : List ℕ) (f : Functions) (h : ℕ) (v : Valued) → AreClosed caps f → IsValued (value_at worth split f caps) h v
    → ReachesValued worth f caps v
valued-state worth split caps f h (valued.At t z) closed is = value-reached worth split caps f t z closed is.answer
valued-state worth split caps f h (valued.NotAt l) closed is = tt

value-printed : (before after : Option (List ℕ)) (n : Network) (seed stream : ℕ) (kind : RewardKind) → IsNetwork n
    → after ≡ appended before (value_text (valuation n seed stream kind)) → IsValueOf before after (value_status (valuation n seed stream kind)) n seed stream kind
unfolding values valuation
value-printed before after n seed stream kind kept grew = grind (arith, common_steps, functions_by_time-closed, valued_within-is, valued-state, valued-decides)

-- what is printed of a network's reward is its value, where there is such a reward
pub reward_printed : (before after : Option (List ℕ)) (n : Network) (seed stream : ℕ) (kind : Option RewardKind) → IsNetwork n
    → after ≡ appended before (value_reply n seed stream kind).out → IsRewardOf before after (value_reply n seed stream kind).status n seed stream kind
reward_printed before after n seed stream None kept grew = refl
reward_printed before after n seed stream (Some kind) kept grew = value-printed before after n seed stream kind kept grew
