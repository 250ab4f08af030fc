-- What is known of a reward that isn't refused, and the range of its values over a box.
use Rattle.std.specs.Prelude.{◌≡◌, ℕ, ◌<◌, ℤ, pos, List, length, map, All, Bool, true, false, None, count_by, nat_lt, refl}
use Rattle.std.proofs.Common.{sym, ◌∙◌, subst, arith, rules}
use Rattle.psi_state.specs.State.{IsBelow, box}
use Rattle.psi_state.specs.Repeats.{repeats}
use Rattle.psi_reward.specs.declared.kinds.RewardKind.{RewardKind}
use Rattle.psi_reward.specs.declared.kinds.RewardKind.TheVariants.{Linear, Table, Greatest, Least, Above}
use Rattle.psi_reward.specs.Held.{held}
use Rattle.psi_reward.specs.Sums.{weighted, entry, added}
use Rattle.psi_reward.specs.Ranges.{least, greatest}
use Rattle.psi_reward.specs.Spans.{IsSpread, IsRange}
use Rattle.psi_reward.specs.Worth.{worth_of}
use Rattle.psi_reward.specs.Refusing.{queues_of, is_none_listed, has_lengths, first_refusal, IsValid, ReachRows}
use Rattle.psi_reward.proofs.ListingLemmas.{listed-from_All, held-below, range-from_spread}
use Rattle.psi_reward.proofs.FittingLemmas.{length-has_rows, row-has_rows}
use Rattle.psi_reward.proofs.RisingLemmas.{IsRising, spread-rising, greatest-rising, least-rising, count-rising}

-- nothing is wrong with what isn't refused
record AreFitting (empty repeat lengths : Bool) : Type 0 where
  some : empty ≡ false
  once : repeat ≡ false
  fit : lengths ≡ true

fitting : (empty repeat lengths : Bool) → first_refusal empty repeat lengths ≡ None → AreFitting empty repeat lengths
fitting empty repeat lengths none = search rules

accepted-fitting : (caps : List ℕ) (kind : RewardKind) → IsValid caps kind → AreFitting (is_none_listed (queues_of kind)) (repeats (queues_of kind)) (has_lengths caps kind)
accepted-fitting caps kind valid = fitting (is_none_listed (queues_of kind)) (repeats (queues_of kind)) (has_lengths caps kind) valid.accepted

pub length-table : (caps queues : List ℕ) (table : List (List ℤ)) (kind : RewardKind) → kind ≡ Table queues table → IsValid caps kind → length table ≡ length queues
length-table caps queues table kind is valid = grind (arith, length-has_rows, accepted-fitting)

-- the rows reach the numbers of each state within the capacities
pub reach-table : (caps queues x : List ℕ) (table : List (List ℤ)) (kind : RewardKind) → kind ≡ Table queues table → IsValid caps kind → IsBelow x caps → ReachRows queues x table
reach-table caps queues x table kind is valid below i small = grind (arith, row-has_rows, accepted-fitting)

-- the range of a function of the numbers held, over a box within the capacities
range-kind : (caps l h : List ℕ) (kind : RewardKind) (f : List ℕ → ℤ) (low high : ℤ) → IsValid caps kind → IsBelow l h → IsBelow h caps
    → IsSpread f (held (queues_of kind) l) (held (queues_of kind) h) low high → IsRange (λ x. f (held (queues_of kind) x)) (box l h) low high
range-kind caps l h kind f low high valid ordered within spread =
    let count : length caps ≡ length l = sym (ordered.same_length ∙ within.same_length) in
    range-from_spread f (queues_of kind) l h low high (accepted-fitting caps kind valid).once
    (listed-from_All (length l) (queues_of kind) (subst (λ n. All (λ queue. queue < n) (queues_of kind)) count valid.queues)) ordered spread

pub range-linear : (caps l h queues : List ℕ) (weights : List ℤ) (kind : RewardKind) (low high : ℤ) → kind ≡ Linear queues weights → IsValid caps kind → IsBelow l h → IsBelow h caps
    → IsSpread (added (map weighted weights)) (held queues l) (held queues h) low high → IsRange (worth_of kind) (box l h) low high
range-linear caps l h queues weights kind low high is valid ordered within spread =
    subst (λ k. IsRange (worth_of k) (box l h) low high) (sym is)
    (range-kind caps l h (Linear queues weights) (added (map weighted weights)) low high (subst (λ k. IsValid caps k) is valid) ordered within spread)

pub range-table : (caps l h queues : List ℕ) (table : List (List ℤ)) (kind : RewardKind) (low high : ℤ) → kind ≡ Table queues table → IsValid caps kind → IsBelow l h → IsBelow h caps
    → IsSpread (added (map entry table)) (held queues l) (held queues h) low high → IsRange (worth_of kind) (box l h) low high
range-table caps l h queues table kind low high is valid ordered within spread =
    subst (λ k. IsRange (worth_of k) (box l h) low high) (sym is)
    (range-kind caps l h (Table queues table) (added (map entry table)) low high (subst (λ k. IsValid caps k) is valid) ordered within spread)

range-rising : (caps l h : List ℕ) (kind : RewardKind) (f : List ℕ → ℤ) → IsRising f → IsValid caps kind → IsBelow l h → IsBelow h caps
    → IsRange (λ x. f (held (queues_of kind) x)) (box l h) (f (held (queues_of kind) l)) (f (held (queues_of kind) h))
range-rising caps l h kind f rising valid ordered within =
    let count : length caps ≡ length l = sym (ordered.same_length ∙ within.same_length) in
    let listed = listed-from_All (length l) (queues_of kind) (subst (λ n. All (λ queue. queue < n) (queues_of kind)) count valid.queues) in
    range-kind caps l h kind f (f (held (queues_of kind) l)) (f (held (queues_of kind) h)) valid ordered within
    (spread-rising f (held (queues_of kind) l) (held (queues_of kind) h) rising (held-below (queues_of kind) l h listed ordered))

-- where the worth rises with the state, its range is that of the corners
pub range-corners : (caps l h : List ℕ) (kind : RewardKind) → ((queues : List ℕ) (weights : List ℤ) → kind ≡ Linear queues weights → ⊥) → ((queues : List ℕ) (table : List (List ℤ)) → kind ≡ Table queues table → ⊥)
    → IsValid caps kind → IsBelow l h → IsBelow h caps → IsRange (worth_of kind) (box l h) (worth_of kind l) (worth_of kind h)
range-corners caps l h (Linear queues weights) not_linear not_table valid ordered within = absurd (not_linear queues weights refl)
range-corners caps l h (Table queues table) not_linear not_table valid ordered within = absurd (not_table queues table refl)
range-corners caps l h (Greatest queues) not_linear not_table valid ordered within = range-rising caps l h (Greatest queues) (λ vs. greatest (map pos vs)) greatest-rising valid ordered within
range-corners caps l h (Least queues) not_linear not_table valid ordered within = range-rising caps l h (Least queues) (λ vs. least (map pos vs)) least-rising valid ordered within
range-corners caps l h (Above queues level) not_linear not_table valid ordered within =
    range-rising caps l h (Above queues level) (λ vs. pos (count_by (λ v. nat_lt level v) vs)) (count-rising level) valid ordered within

-- the same between states, and at numbers, that are given otherwise
pub spread-between : (f : List ℕ → ℤ) (queues l h m k : List ℕ) (low high : ℤ) → l ≡ m → h ≡ k → IsSpread f (held queues l) (held queues h) low high → IsSpread f (held queues m) (held queues k) low high
spread-between f queues l h m k low high first last spread = search rules

pub range-same : (f : List ℕ → ℤ) (xs : List (List ℕ)) (low high a b : ℤ) → low ≡ a → high ≡ b → IsRange f xs low high → IsRange f xs a b
range-same f xs low high a b first last range = subst (λ z. IsRange f xs z b) first (subst (λ z. IsRange f xs low z) last range)
