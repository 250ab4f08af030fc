-- The states, values and horizons that the commands give for one network, one seed and one stream.
use Rattle.std.specs.Prelude.{◌≡◌, ℕ, ℤ, List, Ok, ◌⊎◌}
use Rattle.psi_state.specs.declared.Outcome.TheVariants.{Met}
use Rattle.psi_reward.specs.declared.kinds.RewardKind.{RewardKind}
use Rattle.psi_reward.specs.Worth.{worth_of}
use Rattle.psi_couple.specs.declared.answers.Coupled.TheVariants as coupled
use Rattle.psi_couple.specs.declared.answers.Valued.TheVariants as valued
use Rattle.psi_exact.specs.declared.answers.Meeting.TheVariants.{Constant}
use Rattle.psi_log_format.specs.Log.{Certificate}
use Rattle.psi_net_model.specs.Network.{Network}
use Rattle.psi_net.specs.Reading.{network_of}
use Rattle.psi_reply.specs.Sample.{sampled}
use Rattle.psi_reply.specs.Couple.{coupling}
use Rattle.psi_reply.specs.Reward.{valuation}
use Rattle.psi_reply.specs.Exact.{meeting}
use Rattle.psi_reply.specs.Replay.{Certifies}
use Rattle.psi_law.specs.Couplings.{AgreesCoupled}
use Rattle.psi_law.specs.Values.{AgreesValued}

-- of a network, under the random words of a seed and a stream
module _ (net : Network) (seed stream : ℕ) where
  -- the sample is met in this state
  abbrev pub IsSampled : List ℕ → Type 0
  IsSampled state = (t : ℕ) × (sampled net seed stream ≡ Met t state)

  -- the least coupling has this state
  abbrev pub IsCoupled : List ℕ → Type 0
  IsCoupled state = (t : ℕ) × (coupling net seed stream ≡ coupled.At t state)

  -- the composed map of all states, up to some horizon, is constant with this state
  abbrev pub IsMapped : List ℕ → Type 0
  IsMapped state = (h : ℕ) × (t : ℕ) × (meeting net seed stream h ≡ Constant t state)

  -- a log of this seed and stream that is accepted has this final state
  pub record IsLogged (state : List ℕ) : Type 0 where
    pub log : Certificate
    pub same_seed : log.header.seed ≡ seed
    pub same_stream : log.header.stream ≡ stream
    pub certifies : Certifies net log
    pub final : log.final ≡ state

  -- `sample`, `couple`, `exact` or an accepted log gives this state
  abbrev pub IsGiven : List ℕ → Type 0
  IsGiven state = IsSampled state ⊎ (IsCoupled state ⊎ (IsMapped state ⊎ IsLogged state))

-- the states that are given for the network of a file, a seed and a stream are one state
abbrev pub StatesAgree : Type 0
StatesAgree = (bytes : List ℕ) (net : Network) (seed stream : ℕ) (state other : List ℕ) → network_of bytes ≡ Ok net
    → IsGiven net seed stream state → IsGiven net seed stream other → state ≡ other

-- and the value of a reward is that of this state
abbrev pub ValuesAgree : Type 0
ValuesAgree = (bytes : List ℕ) (net : Network) (seed stream : ℕ) (state : List ℕ) (kind : RewardKind) (t : ℕ) (value : ℤ) → network_of bytes ≡ Ok net
    → IsGiven net seed stream state → valuation net seed stream kind ≡ valued.At t value → value ≡ worth_of kind state

-- the coupling and the first values agree with the sample in their horizons too
pub record HorizonsAgreeOf (net : Network) (seed stream : ℕ) : Type 0 where
  pub coupled : AgreesCoupled (coupling net seed stream) (sampled net seed stream)
  pub valued : (kind : RewardKind) → AgreesValued (worth_of kind) (valuation net seed stream kind) (sampled net seed stream)

abbrev pub HorizonsAgree : Type 0
HorizonsAgree = (bytes : List ℕ) (net : Network) (seed stream : ℕ) → network_of bytes ≡ Ok net → HorizonsAgreeOf net seed stream
