-- Linear rewards are additive.
use Rattle.std.specs.Prelude.{◌≡◌, ℕ, suc, ◌+◌, ◌*◌, ◌≤◌, ℤ, pos, negsuc, ◌+ℤ◌, List, [], ◌∷◌, length, map, slice_index, slice_get, Option, Some, None, true, refl}
use Rattle.std.specs.Option.{option_map, unwrap_or}
use Rattle.std.proofs.lemmas.Option.{slice_get-map, unwrap_or-slice_get}
use Rattle.psi_net_model.specs.Network.{Network, NamedReward, caps_of}
use Rattle.psi_table.specs.Paths.{worths_of}
use Rattle.psi_path.specs.Sums.{Worth, worth_at}
use Rattle.std.proofs.Common.{inl, inr, ap, sym, ◌∙◌, subst, arith}
use Rattle.std.proofs.lemmas.Bool.{cases_lt, true≢false}
use Rattle.std.proofs.lemmas.Int.{ints}
use Rattle.std.proofs.lemmas.List.{get_or_past}
use Rattle.psi_state.specs.State.{IsBelow}
use Rattle.psi_reward.specs.Held.{held}
use Rattle.psi_reward.specs.Sums.{weighted, added}
use Rattle.psi_reward.specs.Worth.{worth_of, is_linear}
use Rattle.psi_reward.specs.declared.kinds.RewardKind.{RewardKind}
use Rattle.psi_reward.specs.declared.kinds.RewardKind.TheVariants.{Linear, Table, Greatest, Least, Above}
use Rattle.psi_path.specs.Additive.{IsAdditive}

-- a weight times two sums that are the same
weighted-same : (weight : ℤ) (y u x v : ℕ) → y + u ≡ x + v → weighted weight y +ℤ weighted weight u ≡ weighted weight x +ℤ weighted weight v
weighted-same (pos n) y u x v same = (let m : n * (y + u) ≡ n * (x + v) = ap (λ k. n * k) same in omega (arith, ints))
weighted-same (negsuc n) y u x v same = (let m : suc n * (y + u) ≡ suc n * (x + v) = ap (λ k. suc n * k) same in omega (arith, ints))

-- sums of pairs
exchanged : (a b c d e f g h : ℤ) → a +ℤ b ≡ c +ℤ d → e +ℤ f ≡ g +ℤ h → (a +ℤ e) +ℤ (b +ℤ f) ≡ (c +ℤ g) +ℤ (d +ℤ h)
exchanged a b c d e f g h first second = omega (arith, ints)

added-same : (weights : List ℤ) (queues y u x v : List ℕ) → ((q : ℕ) → slice_index y q + slice_index u q ≡ slice_index x q + slice_index v q)
    → added (map weighted weights) (held queues y) +ℤ added (map weighted weights) (held queues u) ≡ added (map weighted weights) (held queues x) +ℤ added (map weighted weights) (held queues v)
added-same [] queues y u x v same = refl
added-same (weight ∷ weights) [] y u x v same = refl
added-same (weight ∷ weights) (queue ∷ queues) y u x v same =
    exchanged (weighted weight (slice_index y queue)) (weighted weight (slice_index u queue)) (weighted weight (slice_index x queue)) (weighted weight (slice_index v queue))
    (added (map weighted weights) (held queues y)) (added (map weighted weights) (held queues u)) (added (map weighted weights) (held queues x)) (added (map weighted weights) (held queues v))
    (weighted-same weight (slice_index y queue) (slice_index u queue) (slice_index x queue) (slice_index v queue) (same queue)) (added-same weights queues y u x v same)

none-past : (x caps : List ℕ) (q : ℕ) → IsBelow x caps → length caps ≤ q → slice_index x q ≡ 0
none-past x caps q below past = get_or_past x q 0 (omega (arith, below.same_length, past))

linear_additive : (caps : List ℕ) (kind : RewardKind) → is_linear kind ≡ true → IsAdditive caps (worth_of kind)
linear_additive caps (Linear queues weights) linear = record {
  each = λ x y u v below_x below_y below_u below_v same. added-same weights queues y u x v (λ q. elim (cases_lt q (length caps)) [
    | inl small ↦ same q small
    | inr past ↦ (let a = none-past x caps q below_x past in let b = none-past y caps q below_y past in let c = none-past u caps q below_u past in let d = none-past v caps q below_v past in omega arith)
  ]);
}
linear_additive caps (Table queues table) linear = absurd (true≢false (sym linear))
linear_additive caps (Greatest queues) linear = absurd (true≢false (sym linear))
linear_additive caps (Least queues) linear = absurd (true≢false (sym linear))
linear_additive caps (Above queues level) linear = absurd (true≢false (sym linear))

kind-read : (kind : RewardKind) (d : Worth) (o : Option NamedReward) → option_map (λ v. v.kind) o ≡ Some kind → unwrap_or (option_map (λ v. worth_of v.kind) o) d ≡ worth_of kind
kind-read kind d None is = absurd cc
kind-read kind d (Some v) is = (let same : v.kind ≡ kind = ap (λ (o : Option RewardKind). unwrap_or o v.kind) is in ap worth_of same)

-- the reward of a network at a place is additive where its kind is linear
pub read_additive : (net : Network) (r : ℕ) (kind : RewardKind) → option_map (λ v. v.kind) (slice_get net.rewards r) ≡ Some kind → is_linear kind ≡ true → IsAdditive (caps_of net) (worth_at (worths_of net) r)
read_additive net r kind is linear =
    let none : Worth = λ x. pos 0 in
    let f : NamedReward → Worth = λ v. worth_of v.kind in
    let read : worth_at (worths_of net) r ≡ worth_of kind =
    sym (unwrap_or-slice_get (map f net.rewards) r none) ∙ (ap (λ (o : Option Worth). unwrap_or o none) (slice_get-map f net.rewards r) ∙ kind-read kind none (slice_get net.rewards r) is) in
    subst (λ (w : Worth). IsAdditive (caps_of net) w) (sym read) (linear_additive (caps_of net) kind linear)
