-- The kind of a reward in a list.
use Rattle.std.specs.Prelude.{◌≡◌, ℕ, zero, suc, ◌<◌, List, [], ◌∷◌, length, slice_get, option_map, Some}
use Rattle.std.proofs.Common.{get_or, arith}
use Rattle.psi_reward.specs.declared.kinds.RewardKind.{RewardKind}
use Rattle.psi_net_model.specs.Network.{NamedReward}

pub kind_at : (rewards : List NamedReward) (i : ℕ) (d : NamedReward) (kind : RewardKind) → i < length rewards
    → option_map (λ (r : NamedReward). r.kind) (slice_get rewards i) ≡ Some kind → (get_or rewards i d).kind ≡ kind
kind_at [] i d kind small is = absurd (omega arith)
kind_at (r ∷ rewards) zero d kind small is = cc
kind_at (r ∷ rewards) (suc i) d kind small is = kind_at rewards i d kind (omega arith) is
