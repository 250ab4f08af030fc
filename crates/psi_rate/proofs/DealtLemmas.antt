-- What a wheel keeps says what its calls answer.
use Rattle.std.proofs.Common.{◌≡◌, ℕ, ◌+◌, ◌-◌, ◌%◌, ◌/◌, ◌<◌, ◌≤◌, false, List, [], ◌∷◌, ◌++◌, length, slice_index, take, ◌∙◌, ap, add-one, arith, EachIndex, max}
use Rattle.std.specs.Int.{IsPowerOfTwo}
use Rattle.std.proofs.Math.Dec.{eqb}
use Rattle.std.proofs.lemmas.Bool.{eqb-false}
use Rattle.std.proofs.lemmas.List.{take_more, take_all}
use Rattle.std.proofs.lemmas.Grind.{common_steps}
use Rattle.psi_rate.specs.Rates.{total, least_power, event_of, HasNumber, PassesAt, IsLeastPower}
use Rattle.psi_rate.specs.Inner.EventTableKept.{IsFirstAbove}
use Rattle.psi_rate.specs.Inner.TotalsKept.{IsDial, totals_from}
use Rattle.psi_rate.proofs.RatesLemmas.{has_number-event_at}
use Rattle.psi_rate.proofs.PowersLemmas.{least_power-is, least_power-only, least_power-next}
use Rattle.psi_rate.proofs.TotalsLemmas.{totals_from-within, totals_from-more, total-more, length-totals_from, has_number-first}

pub dial-least : {rates totals : List ℕ} {sum modulus : ℕ} → IsDial rates totals sum modulus → IsLeastPower (total rates) modulus
dial-least {rates} dial = rw dial.power (least_power-is (total rates))

pub dial-below : {rates totals : List ℕ} {sum modulus : ℕ} → IsDial rates totals sum modulus → sum ≤ modulus
dial-below dial = omega (arith, dial.whole, (dial-least dial).enough)

pub dial-idle : {rates totals : List ℕ} {sum modulus : ℕ} → IsDial rates totals sum modulus → modulus - sum + total rates ≡ least_power (total rates)
dial-idle dial = omega (arith, dial.whole, dial.power, dial-below dial)

pub dial-number : {rates totals : List ℕ} {sum modulus : ℕ} (searched : List ℕ) (word e : ℕ) → IsDial rates totals sum modulus → searched ≡ totals
    → IsFirstAbove searched (word % modulus) e → HasNumber rates (word % least_power (total rates)) e
dial-number {rates} searched word e dial same first = rw (← dial.power) (has_number-first rates _ e (rw (same ∙ dial.running) at first))

-- there are as many running totals as events
pub dial-few : {rates totals : List ℕ} {sum modulus : ℕ} (searched : List ℕ) → IsDial rates totals sum modulus → searched ≡ totals → length searched ≤ 1024
dial-few searched dial same = rw (same ∙ dial.running, length-totals_from) dial.valid.few

-- the number of an event is the event of the word
pub number-event : (rates : List ℕ) (word e : ℕ) → HasNumber rates (word % least_power (total rates)) e → e ≡ event_of rates word
unfolding event_of
number-event rates word e has = has_number-event_at rates (word % least_power (total rates)) e has

pub total-take_more : (xs : List ℕ) (i : ℕ) → i < length xs → total (take (i + 1) xs) ≡ total (take i xs) + slice_index xs i
total-take_more xs i small = ap (λ (ys : List ℕ). total ys) (take_more xs i 0 small) ∙ total-more (take i xs) (slice_index xs i)

pub totals_from-take_more : (xs totals : List ℕ) (i sum : ℕ) → i < length xs → totals ≡ totals_from 0 (take i xs) → sum ≡ total (take i xs)
    → totals ++ (sum + slice_index xs i) ∷ [] ≡ totals_from 0 (take (i + 1) xs)
totals_from-take_more xs totals i sum small is whole = grind (arith, common_steps, take_more, totals_from-more)

pub total-passes : (xs : List ℕ) (i sum : ℕ) → i < length xs → sum ≡ total (take i xs) → sum ≤ 16777216 → 16777216 < sum + slice_index xs i → PassesAt xs i
total-passes xs i sum small whole before past = record {
  place = small;
  before = omega arith;
  past = rw (← (add-one i)) (omega (arith, total-take_more xs i small));
}

pub total-some : (xs : List ℕ) → 1 ≤ length xs → EachIndex xs (λ i. 1 ≤ slice_index xs i) → 1 ≤ total xs
total-some [] some each = absurd (omega arith)
total-some (x ∷ xs) some each = (let first : 1 ≤ x = each 0 (omega arith) in omega arith)

-- the loop over the rates ends with what a wheel keeps
pub dial-whole : (rates kept totals : List ℕ) (sum modulus at : ℕ) → length rates ≤ 1024 → EachIndex rates (λ i. 1 ≤ slice_index rates i)
    → EachIndex rates (λ i. slice_index rates i ≤ 1048576) → 1 ≤ length rates → length rates ≤ at → kept ≡ rates
    → totals ≡ totals_from 0 (take at rates) → sum ≡ total (take at rates) → sum ≤ 16777216
    → IsPowerOfTwo modulus → sum ≤ modulus → modulus / 2 < max 1 sum → IsDial kept totals sum modulus
dial-whole rates kept totals sum modulus at few least most some past is running whole bounded power enough half =
    let all = take_all at rates past in
    let added : sum ≡ total rates = rw all at whole in
    let positive = total-some rates some least in
    rw is (record {
      valid = record { some = some; few = few; least = least; most = most; bounded = omega arith };
      running = rw all at running;
      whole = added;
      power = rw (← added) (least_power-only sum modulus (least_power-next sum modulus (omega arith) power enough (omega arith)));
    })

-- the running totals of all rates are at most a number that the sum is at most
pub totals-within : (rates totals : List ℕ) (sum modulus at : ℕ) → length rates ≤ at → totals ≡ totals_from 0 (take at rates) → sum ≡ total (take at rates)
    → sum ≤ modulus → (k : ℕ) → k < length totals → slice_index totals k ≤ modulus
totals-within rates totals sum modulus at past running whole enough k small = grind (arith, common_steps, take_all, totals_from-within)

pub length-some : (xs : List ℕ) → eqb (length xs) 0 ≡ false → 1 ≤ length xs
length-some xs none = (let apart = eqb-false (length xs) 0 none in omega arith)
