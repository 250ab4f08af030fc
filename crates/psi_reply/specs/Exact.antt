-- The composed map of all states of a network (Propp and Wilson 1996), and what is printed of it.
use Rattle.std.specs.Prelude.{◌≡◌, ℕ, ◌<◌, ◌≤◌, List, length, All, Option, ◌⊎◌}
use Rattle.psi_io.specs.Sink.{appended}
use Rattle.psi_state.specs.State.{all_states}
use Rattle.psi_event.specs.Law.{IsMonotone}
use Rattle.psi_rate.specs.Outcomes.{meeting_at}
use Rattle.psi_couple.specs.declared.answers.Coupled.{Coupled}
use Rattle.psi_couple.specs.declared.answers.Coupled.TheVariants.{At, NotAt}
use Rattle.psi_couple.specs.Coupling.{coupled_within, IsCoupled}
use Rattle.psi_exact.specs.declared.answers.Meeting.{Meeting}
use Rattle.psi_exact.specs.declared.answers.Meeting.TheVariants.{Constant, NotConstant}
use Rattle.psi_exact.specs.Sizes.{image_sizes}
use Rattle.psi_exact.specs.Surveys.{meeting_within, IsMeeting, ReachesMeeting, MeetsBelow, MeetsBy}
use Rattle.psi_net_model.specs.Network.{Network, caps_of, functions_of}
use Rattle.psi_command.specs.declared.status.Status.{Status}
use Rattle.psi_command.specs.declared.status.Status.TheVariants.{Done, NotCoupled, TooManyStates}
use Rattle.psi_reply.specs.Surveys.{survey_text}
use Rattle.psi_reply.specs.Sample.{functions_by_time}
use Rattle.psi_reply.specs.Couple.{endings}

-- the number of all states
unfoldable pub state_count : Network → ℕ
state_count net = length (all_states (caps_of net))

-- the status of a meeting
abbrev pub meeting_status : Meeting → Status
meeting_status (Constant horizon state) = Done
meeting_status (NotConstant exponent) = NotCoupled

-- of a network, under the words of a seed and a stream
module _ (net : Network) (seed stream : ℕ) where
  -- the state to which the last steps send all states, if they send them to one, by the number of these steps
  unfoldable pub meetings : ℕ → Option (List ℕ)
  meetings = meeting_at (functions_by_time net seed stream) (caps_of net)

  -- the least horizon from 1 to 2^h at which all states have met, with their state, if there is one
  unfoldable pub meeting : (h : ℕ) → Meeting
  meeting h = meeting_within meetings h

  -- the least horizon from 1 to 2^h whose region run ends with one state, with that state, if there is one
  unfoldable pub region : (h : ℕ) → Coupled
  region h = coupled_within (endings net seed stream) h

  -- the numbers of states that the last 1, 2, 4, .., 2^h steps leave of all
  unfoldable pub sizes : (h : ℕ) → List ℕ
  sizes h = image_sizes (functions_by_time net seed stream) (caps_of net) h

  -- what is printed of the map
  unfoldable pub exact_text : (h : ℕ) → List ℕ
  exact_text h = survey_text (state_count net) (sizes h) (meeting h) (region h)

-- where a region run ends with one state, all states have met by its horizon, in that state
abbrev pub HasMetBy : Coupled → Meeting → Type 0
HasMetBy (At horizon state) met = MeetsBy horizon state met
HasMetBy (NotAt limit) met = Unit {0}

-- the two are at the same horizon with the same state, or there is neither
abbrev pub AreAlike : Coupled → Meeting → Type 0
AreAlike (At horizon state) (Constant other met) = (horizon ≡ other) × (state ≡ met)
AreAlike (NotAt limit) (NotConstant exponent) = Unit {0}
AreAlike coupled met = ⊥

-- what is printed is told of the composed map of all states, of which there are at most 65,536, under the words of the seed and the stream
pub record IsSurveyOf (before after : Option (List ℕ)) (result : Status) (net : Network) (seed stream h : ℕ) : Type 0 where
  pub few : state_count net ≤ 65536
  pub met : Meeting
  pub coupled : Coupled
  -- the least horizon from 1 to 2^h, of any length, at which all states have met, with their state, or none where there is none
  pub least : IsMeeting (meetings net seed stream) h met
  -- every state that starts there or earlier is in that state at time zero
  pub reached : ReachesMeeting (functions_by_time net seed stream) (caps_of net) met
  -- the state is within the capacities
  pub within : MeetsBelow (caps_of net) met
  -- the least horizon from 1 to 2^h whose region run ends with one state, or none where there is none
  pub region : IsCoupled (endings net seed stream) h coupled
  -- by then all states have met
  pub order : HasMetBy coupled met
  -- where each event is monotone, the two horizons are one
  pub monotone : All (λ f. IsMonotone (caps_of net) f) (functions_of net) → AreAlike coupled met
  -- the status tells whether all states have met
  pub status : result ≡ meeting_status met
  -- and out grew by the text, with the numbers of states that the last 1, 2, 4, .., 2^h steps leave of all
  pub text : after ≡ appended before (survey_text (state_count net) (sizes net seed stream h) met coupled)

-- there are too many states, and the status tells it
pub record IsTooMany (result : Status) (net : Network) : Type 0 where
  pub many : 65536 < state_count net
  pub status : result ≡ TooManyStates

-- what is printed is told of the composed map, unless there are too many states
abbrev pub IsSurveyed : Option (List ℕ) → Option (List ℕ) → Status → Network → (seed stream h : ℕ) → Type 0
IsSurveyed before after result net seed stream h = IsSurveyOf before after result net seed stream h ⊎ IsTooMany result net
