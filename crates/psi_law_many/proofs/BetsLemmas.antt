-- Claims that are won by bets are seldom false.
use Rattle.std.specs.Prelude.{◌≡◌, ℕ, ◌+◌, ◌-◌, ◌*◌, ◌^◌, ◌<◌, ◌≤◌, List, [], ◌∷◌, length, map, Bool, true, nat_le, refl}
use Rattle.std.specs.List.{sum_by}
use Rattle.std.proofs.Common.{inl, inr, ap, ◌∙◌, subst, arith}
use Rattle.std.proofs.Math.Nat.{pow-le-pow_left, mul-le-mul, mul-le-mul_left, le_of_mul-le-mul_left, one-le-pow, one-le-mul, le_trans, le_of_eq}
use Rattle.std.proofs.lemmas.Nat.{mul-pow}
use Rattle.std.proofs.lemmas.Bool.{cases_Bool, cases_lt, lt-ltb, leb-true, le-leb, both_ways}
use Rattle.std.proofs.lemmas.List.{length-map}
use Rattle.psi_law.specs.Counting.{Words, sum_pasts}
use Rattle.psi_law.specs.Wheel.{word_count}
use Rattle.psi_law.proofs.SumsLemmas.{one_if, sum-times, sum_pasts-is, sum_by-order, sum_by-swap, sum-constant, pasts-ones, sum_by-constant}
use Rattle.psi_law_many.specs.Lists.{sum_lists, count_lists, AtMost}
use Rattle.psi_law_many.specs.Values.{Score}
use Rattle.psi_law_many.specs.Intervals.{overstates}
use Rattle.psi_law_many.specs.Bets.{paid, product_by, IsWon, IsBet, loses, HasBets}
use Rattle.psi_law_many.proofs.ListsLemmas.{sum_lists-is, lists-power, product, lists-product, markov, at-most-none, at-most-both}
use Rattle.psi_law_many.proofs.ScoreLemmas.{IsScore, mean-under, overstates-false}
use Rattle.psi_law_many.proofs.IntervalLemmas.{least, overstates-some}

-- the product over the scores of a list of pasts
product-map : (g : ℕ → ℕ) (f : Words → ℕ) (pasts : List Words) → product_by g (map f pasts) ≡ product (λ past. g (f past)) pasts
unfolding product_by product
product-map g f [] = refl
product-map g f (past ∷ pasts) = ap (λ m. g (f past) * m) (product-map g f pasts)

-- of greater factors
product-order : (g h : ℕ → ℕ) (vs : List ℕ) → ((v : ℕ) → g v ≤ h v) → product_by g vs ≤ product_by h vs
unfolding product_by
product-order g h [] more = omega arith
product-order g h (v ∷ vs) more = mul-le-mul (more v) (product-order g h vs more)

-- a stake pays more where less is claimed
paid-more : (t q r c s v : ℕ) → c ≤ r → paid t q r s v ≤ paid t q c s v
paid-more t q r c s v less = (let times = mul-le-mul_left s less in omega arith)

times-order : (s c r t : ℕ) → c ≤ r → s * r ≤ t → s * c ≤ t
times-order s c r t less fair = (let times = mul-le-mul_left s less in omega arith)

fair-of : (all t q c s a w : ℕ) → all ≡ (t * q - s * c) * w + s * q * a → s * c ≤ t * q → q * a ≤ c * w → all ≤ t * q * w
fair-of all t q c s a w sum fair mean =
    let e : t * q ≡ s * c + (t * q - s * c) = omega arith in
    let f : t * q * w ≡ (s * c + (t * q - s * c)) * w = ap (λ m. m * w) e in
    let times = mul-le-mul_left s mean in
    omega arith

rare-of : (c d j p w wp : ℕ) → 1 ≤ j → 1 ≤ p → wp ≡ p * w → d * (j * p) * c ≤ j * wp → c * d ≤ 1 * w
rare-of c d j p w wp first last e few = le_of_mul-le-mul_left (omega (arith, rw e at few)) (one-le-mul first last)

-- a score whose mean is at most c of q, and stakes
module _ (n : ℕ) (s : Score) (t q c : ℕ) (mean : q * sum_pasts word_count n s.score ≤ c * word_count ^ n) (stakes : List ℕ) where
  -- whether a stake can be paid on c of q, and what it pays on a past
  payable : ℕ → Bool
  payable stake = nat_le (stake * c) (t * q)

  pays : ℕ → Words → ℕ
  pays stake past = paid t q c stake (s.score past)

  -- on the average it pays no more than was staked
  pays-fair : (stake : ℕ) → stake * c ≤ t * q → sum_pasts word_count n (pays stake) ≤ t * q * word_count ^ n
  unfolding pays
  pays-fair stake fair =
      let way = sum_pasts-is word_count n in
      let sum = sum_pasts word_count n in
      let more = way.more (λ past. t * q - stake * c) (λ past. stake * q * s.score past) in
      let constant = sum-constant sum way (t * q - stake * c) ∙ ap (λ m. (t * q - stake * c) * m) (pasts-ones word_count n) in
      let times = sum-times sum way (stake * q) s.score in
      fair-of (sum (λ past. paid t q c stake (s.score past))) t q c stake (sum s.score) (word_count ^ n)
      (more ∙ (ap (λ m. m + sum (λ past. stake * q * s.score past)) constant ∙ ap (λ m. (t * q - stake * c) * word_count ^ n + m) times)) fair mean

  lists-pay : (k stake : ℕ) → sum_lists word_count n k (λ pasts. one_if (payable stake) * product (pays stake) pasts) ≤ (t * q * word_count ^ n) ^ k
  unfolding payable
  lists-pay k stake =
      rw (sum-times (sum_lists word_count n k) (sum_lists-is word_count n k) (one_if (payable stake)) (product (pays stake)))
      (elim (cases_Bool (payable stake)) [
        | inl so ↦ rw so (omega (arith, lists-product word_count n k (pays stake), pow-le-pow_left (pays-fair stake (leb-true (stake * c) (t * q) so)) k))
        | inr not_so ↦ rw not_so (omega arith)
      ])

  -- what all stakes that can be paid come to on a list of pasts
  wealth : List Words → ℕ
  wealth pasts = sum_by (λ stake. one_if (payable stake) * product (pays stake) pasts) stakes

  wealth-fair : (k : ℕ) → sum_lists word_count n k wealth ≤ length stakes * (t * q * word_count ^ n) ^ k
  unfolding wealth
  wealth-fair k =
      let all = (t * q * word_count ^ n) ^ k in
      let swap = sum_by-swap (sum_lists word_count n k) (sum_lists-is word_count n k) stakes (λ stake pasts. one_if (payable stake) * product (pays stake) pasts) in
      let each = sum_by-order stakes (λ stake. sum_lists word_count n k (λ pasts. one_if (payable stake) * product (pays stake) pasts)) (λ stake. all) (λ stake member. lists-pay k stake) in
      subst (λ m. m ≤ length stakes * all) swap (le_trans each (le_of_eq (sum_by-constant stakes all)))

  -- where more than c is claimed and won, they come to much
  wealth-much : (d r : ℕ) (pasts : List Words) → c ≤ r → IsWon t q d r stakes (map s.score pasts) → d * (length stakes * (t * q) ^ length pasts) ≤ wealth pasts
  unfolding wealth payable pays
  wealth-much d r pasts less won =
      let scores = map s.score pasts in
      let each = sum_by-order stakes (λ stake. product_by (paid t q r stake) scores) (λ stake. one_if (payable stake) * product (pays stake) pasts)
      (λ stake member.
      (let so = le-leb (stake * c) (t * q) (times-order stake c r (t * q) less (won.each stake member)) in
      let more = product-order (paid t q r stake) (paid t q c stake) scores (λ v. paid-more t q r c stake v less) in
      let same = product-map (paid t q c stake) s.score pasts in
      rw so (omega arith))) in
      subst (λ m. d * (length stakes * (t * q) ^ m) ≤ sum_by (λ stake. one_if (payable stake) * product (pays stake) pasts) stakes) (length-map pasts s.score)
      (le_trans won.much each)

  -- so few lists win
  pub won-few : (k d : ℕ) (test : List Words → Bool) → 1 ≤ length stakes → 1 ≤ t * q
      → ((pasts : List Words) → length pasts ≡ k → test pasts ≡ true → (r : ℕ) × ((c ≤ r) × IsWon t q d r stakes (map s.score pasts))) → AtMost 1 d n k test
  won-few k d test some parts wins =
      let j = length stakes in
      let p = (t * q) ^ k in
      let much = markov word_count n k (d * (j * p)) test wealth
      (λ pasts so passed.
      (let won = wins pasts so passed in
      subst (λ m. d * (j * (t * q) ^ m) ≤ wealth pasts) so (wealth-much d won.0 pasts won.1.0 won.1.1))) in
      rare-of (count_lists word_count n k test) d j p (word_count ^ (n * k)) ((t * q * word_count ^ n) ^ k) some (one-le-pow k (t * q) parts)
      (mul-pow (t * q) (word_count ^ n) k ∙ ap (λ m. p * m) (lists-power word_count n k)) (le_trans much (wealth-fair k))

-- ---- a rule

above-mean : (p q w : ℕ) → 1 ≤ w → p * q < (p * q + 1) * w
above-mean p q w some = (let times = mul-le-mul_left (p * q + 1) some in omega arith)

pub bet-few : (n : ℕ) (s : Score) → IsScore n s → (k t q d : ℕ) (stakes : List ℕ) (rule : List ℕ → ℕ) → IsBet k t q d stakes rule → AtMost 1 d n k (loses s q rule)
bet-few n s is k t q d stakes rule bet =
    elim (cases_lt 0 s.whole) [
      | inr none ↦ at-most-none d n k (loses s q rule)
          (λ pasts so. elim (cases_Bool (loses s q rule pasts)) [
            | inl wrong ↦ (let some = (overstates-false s q (rule (map s.score pasts)) wrong).some in absurd (omega arith))
            | inr right ↦ right
          ])
      | inl some ↦
          -- the least claim that is false
          elim (least (overstates s q) (s.part * q + 2)) [
            | inl none ↦ absurd (both_ways (overstates s q (s.part * q + 1)) (none (s.part * q + 1) (omega arith)) (lt-ltb (s.part * q) ((s.part * q + 1) * s.whole) (above-mean s.part q s.whole some)))
            | inr found ↦
                (let wrong = overstates-false s q found.at found.passed in
                won-few n s t q found.at (mean-under n s q found.at is wrong.less wrong.some) stakes k d (loses s q rule) bet.some bet.parts
                (λ pasts so lost.
                (let scores = map s.score pasts in
                let beyond : found.at ≤ rule scores = elim (cases_lt (rule scores) found.at) [
                  | inl before ↦ absurd (both_ways (overstates s q (rule scores)) (found.before (rule scores) before) lost)
                  | inr after ↦ after
                ] in
                elim (bet.each scores (length-map pasts s.score ∙ so)) [
                  | inl none ↦ absurd (overstates-some s q (rule scores) none lost)
                  | inr won ↦ (rule scores, (beyond, won))
                ])))
          ]
    ]

pub has-bets : (n : ℕ) (s o : Score) → IsScore n s → IsScore n o → HasBets n s o
has-bets n s o first last = record {
  lower = λ k t q d stakes rule bet. bet-few n s first k t q d stakes rule bet;
  upper = λ k t q d stakes rule bet. bet-few n o last k t q d stakes rule bet;
  both = λ k t q d stakes others rule other bet bets. at-most-both d n k (loses s q rule) (loses o q other)
      (bet-few n s first k t q d stakes rule bet) (bet-few n o last k t q d others other bets);
}
