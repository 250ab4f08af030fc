-- The greatest magnitude that a reward's value may have is one that a reward has: of 32 full queues of 65,535 places, with weights of 10^9.
use Rattle.std.specs.Prelude.{◌≡◌, ℕ, zero, suc, ◌+◌, ◌<◌, ◌≤◌, ℤ, pos, unsigned_abs, List, [], map, length, replicate, All, refl}
use Rattle.std.proofs.Common.{sym, subst, arith}
use Rattle.std.proofs.lemmas.Bool.{leb-true}
use Rattle.std.proofs.lemmas.List.Elements.{All-nil, All-cons, All-replicate}
use Rattle.psi_state.specs.State.{numbers_from}
use Rattle.psi_reward.specs.Refusing.{IsSmall}
use Rattle.psi_reward.specs.Worth.{worth_of}
use Rattle.psi_reward.specs.declared.RewardKind.{RewardKind}
use Rattle.psi_reward.specs.declared.RewardKind.TheVariants.{Linear}
use Rattle.psi_net_model.specs.Valid.{IsQueue, AreListed, IsReward}
use Rattle.psi_net_model.specs.declared.entries.Queue.{Queue}
use Rattle.psi_net_model.proofs.QueueLemmas.{capacities_kept}
use Rattle.psi_net_model.proofs.RewardLemmas.{reward_accepted}
use Rattle.psi_report_reader.specs.Reached.{WorthsAreReached}

abbrev full : Queue
full = record { name = []; capacity = 65535; servers = 1 }

abbrev caps : List ℕ
caps = map (λ (q : Queue). q.capacity) (replicate 32 full)

abbrev kind : RewardKind
kind = Linear (numbers_from 0 32) (replicate 32 (pos 1000000000))

listed : AreListed (replicate 32 full)
listed = record {
  some = omega arith;
  few = omega arith;
  each = All-replicate IsQueue 32 full (record { some = omega arith; most = omega arith; served = omega arith; servers = omega arith; fits = omega arith });
}

numbers-below : (first n most : ℕ) → first + n ≤ most → All (λ queue. queue < most) (numbers_from first n)
numbers-below first zero most few = All-nil (λ queue. queue < most)
numbers-below first (suc n) most few = All-cons (λ queue. queue < most) first (numbers_from (suc first) n) (omega arith) (numbers-below (suc first) n most (omega arith))

reward-is : IsReward caps kind
reward-is = record {
  queues = numbers-below 0 32 (length caps) (omega arith);
  numbers = All-replicate IsSmall 32 (pos 1000000000) (omega arith);
  accepted = reward_accepted caps kind refl refl refl;
}

worth-is : worth_of kind caps ≡ pos 2097120000000000
worth-is = refl

pub worths_reached : WorthsAreReached
worths_reached z is = record {
  caps = caps;
  capacities = capacities_kept (replicate 32 full) listed;
  kind = kind;
  reward = reward-is;
  state = caps;
  within = record { same_length = refl; each = λ i less. omega arith };
  most = subst (λ (w : ℤ). unsigned_abs z ≤ unsigned_abs w) (sym worth-is) (leb-true (unsigned_abs z) 2097120000000000 is);
}
