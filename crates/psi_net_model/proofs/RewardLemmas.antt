-- When a reward is accepted.
use Rattle.std.specs.Prelude.{◌≡◌, ℕ, List, true, false, Option, Some, None, refl}
use Rattle.std.proofs.Common.{sym, ◌∙◌}
use Rattle.psi_state.specs.Repeats.{repeats}
use Rattle.psi_reward.specs.Refusing.{queues_of, is_none_listed, has_lengths, refusal_of}
use Rattle.psi_reward.specs.declared.RewardKind.{RewardKind}
use Rattle.psi_reward.specs.declared.RewardRefusal.{RewardRefusal}
use Rattle.psi_net_model.specs.Valid.{IsReward}

-- what is accepted isn't refused
pub not_refused : (caps : List ℕ) (kind : RewardKind) (refusal : RewardRefusal) → IsReward caps kind → refusal_of caps kind ≡ Some refusal → ⊥
not_refused caps kind refusal kept h = (let e : ◌≡◌ {A = Option RewardRefusal} None (Some refusal) = sym kept.accepted ∙ h in absurd cc)

-- where no cause is there, nothing is refused
pub reward_accepted : (caps : List ℕ) (k : RewardKind) → is_none_listed (queues_of k) ≡ false → repeats (queues_of k) ≡ false → has_lengths caps k ≡ true → refusal_of caps k ≡ None
reward_accepted caps k some once fits = rw (some, once, fits) refl
