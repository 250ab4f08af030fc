-- The wheel is exact: each event has its rate's share of the words.
use Rattle.std.specs.Prelude.{◌≡◌, ℕ, suc, ◌+◌, ◌-◌, ◌*◌, ◌%◌, ◌^◌, ◌≤◌, List, [], ◌∷◌, length, slice_index, nat_eq, refl}
use Rattle.std.proofs.Common.{inl, inr, ap, sym, ◌∙◌, arith}
use Rattle.std.proofs.lemmas.Bool.{cases_lt, lt-ltb, le-ltb, eq-eqb, ne_eqb}
use Rattle.std.proofs.lemmas.Nat.{pow-add}
use Rattle.psi_rate.specs.Rates.{AreRates, total, least_power, event_at, event_of}
use Rattle.psi_rate.proofs.PowersLemmas.{pow-order, least_power-is}
use Rattle.psi_law.specs.Counting.{sum_below}
use Rattle.psi_law.specs.Wheel.{word_count, words_for, IsExact}
use Rattle.psi_law.proofs.SumsLemmas.{one_if, times-one, times-none, sum_below-constant, sum_below-same, sum_below-first, sum_below-add, sum_below-rests, sum_below-none, sum_below-at}

-- the numbers that are dealt out, event by event
sum-dealt : (rates : List ℕ) (idle : ℕ) (g : ℕ → ℕ)
    → sum_below (total rates + idle) (λ r. g (event_at rates r)) ≡ sum_below (length rates) (λ e. slice_index rates e * g e) + idle * g (length rates)
unfolding sum_below
sum-dealt [] idle g = (let e : 0 + idle ≡ idle = omega arith in rw e (omega (arith, sum_below-constant idle (g 0))))
sum-dealt (rate ∷ rates) idle g =
    let dealt : ℕ → ℕ = λ r. g (event_at (rate ∷ rates) r) in
    let e : rate + total rates + idle ≡ rate + (total rates + idle) = omega arith in
    let both = sum_below-add rate (total rates + idle) dealt in
    let low = sum_below-same rate dealt (λ r. g 0)
    (λ r small. (let is : event_at (rate ∷ rates) r ≡ 0 = rw (lt-ltb r rate small) refl in ap g is)) in
    let own = sum_below-constant rate (g 0) in
    let high = sum_below-same (total rates + idle) (λ k. dealt (rate + k)) (λ k. g (suc (event_at rates k)))
    (λ k small. (let large : rate ≤ rate + k = omega arith in
    let is : event_at (rate ∷ rates) (rate + k) ≡ suc (event_at rates (rate + k - rate)) = rw (le-ltb (rate + k) rate large) refl in
    let d : rate + k - rate ≡ k = omega arith in
    ap g (is ∙ ap (λ n. suc (event_at rates n)) d))) in
    let rest = sum-dealt rates idle (λ n. g (suc n)) in
    let first = sum_below-first (length rates) (λ i. slice_index (rate ∷ rates) i * g i) in
    rw e (omega arith)

-- how often the modulus goes into the number of words
pub record IsShare (rates : List ℕ) (q : ℕ) : Type 0 where
  pub whole : word_count ≡ q * least_power (total rates)

pub share : (rates : List ℕ) → AreRates rates → (q : ℕ) × IsShare rates q
unfolding word_count
share rates are =
    let least = least_power-is (total rates) in
    let bounded = are.bounded in
    let under : least_power (total rates) ≤ 2 ^ 24 = least.least 24 (omega arith) in
    let small : least.exponent ≤ 32 = elim (cases_lt 32 least.exponent) [
      | inl large ↦ (let more = pow-order 32 least.exponent (omega arith) in let is = least.power in absurd (omega arith))
      | inr fits ↦ fits
    ] in
    let e : 32 - least.exponent + least.exponent ≡ 32 = omega arith in (
      2 ^ (32 - least.exponent),
      record { whole = sym (ap (λ n. 2 ^ n) e) ∙ (pow-add 2 (32 - least.exponent) least.exponent ∙ ap (λ m. 2 ^ (32 - least.exponent) * m) (sym least.power)) },
    )

-- the sum over the words of what depends on the event alone
pub sum-words : (rates : List ℕ) (q : ℕ) (g : ℕ → ℕ) → IsShare rates q
    → sum_below word_count (λ word. g (event_of rates word))
    ≡ q * (sum_below (length rates) (λ e. slice_index rates e * g e) + (least_power (total rates) - total rates) * g (length rates))
unfolding event_of
sum-words rates q g is =
    let least = least_power-is (total rates) in
    let enough = least.enough in
    let e : least_power (total rates) ≡ total rates + (least_power (total rates) - total rates) = omega arith in
    ap (λ n. sum_below n (λ word. g (event_at rates (word % least_power (total rates))))) is.whole
    ∙ (sum_below-rests q (least_power (total rates)) (λ r. g (event_at rates r))
    ∙ ap (λ n. q * n) (ap (λ n. sum_below n (λ r. g (event_at rates r))) e ∙ sum-dealt rates (least_power (total rates) - total rates) g))

-- as many words as one part of the modulus is of it
share-part : (rates : List ℕ) (q count part : ℕ) → IsShare rates q → count ≡ q * part → count * least_power (total rates) ≡ part * word_count
share-part rates q count part is same = rw (same, is.whole) (omega arith)

pub wheel-exact : (rates : List ℕ) → AreRates rates → IsExact rates
wheel-exact rates are =
    let q = share rates are in
    let n = length rates in
    let idle = least_power (total rates) - total rates in
    record {
      each = λ e small.
          (let all = sum-words rates q.0 (λ x. one_if (nat_eq x e)) q.1 in
          let at = sum_below-at n e (λ x. slice_index rates x) small in
          let none = times-none (nat_eq n e) idle (ne_eqb n e (λ same. omega (arith, same, small))) in
          share-part rates q.0 (words_for rates e) (slice_index rates e) q.1 (all ∙ ap (λ k. q.0 * k) (omega arith)));
      idle =
          (let all = sum-words rates q.0 (λ x. one_if (nat_eq x n)) q.1 in
          let none = sum_below-none n n (λ x. slice_index rates x) (omega arith) in
          let one = times-one (nat_eq n n) idle (eq-eqb n n refl) in
          share-part rates q.0 (words_for rates n) idle q.1 (all ∙ ap (λ k. q.0 * k) (omega arith)));
    }
