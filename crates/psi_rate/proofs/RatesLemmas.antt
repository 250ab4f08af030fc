-- Each number has one event, and the event of a word has the word's number.
use Rattle.std.specs.Prelude.{◌≡◌, ℕ, zero, suc, ◌+◌, ◌-◌, ◌<◌, ◌≤◌, List, [], ◌∷◌, length, take}
use Rattle.std.proofs.Common.{rules, ap, arith}
use Rattle.std.proofs.lemmas.Bool.{lt-ltb, le-ltb}
use Rattle.std.proofs.lemmas.Grind.{common_steps}
use Rattle.psi_rate.specs.Rates.{total, event_at, HasNumber}

pub event_at-below : (rates : List ℕ) (r : ℕ) → event_at rates r ≤ length rates
event_at-below [] r = omega arith
event_at-below (rate ∷ rates) r = grind (arith, common_steps, lt-ltb, le-ltb, (event_at-below rates (r - rate)))

-- the numbers of two events are apart, so a number has one event
pub has_number-event_at : (rates : List ℕ) (r e : ℕ) → HasNumber rates r e → e ≡ event_at rates r
has_number-event_at [] r e has = (let p = has.place in omega arith)
has_number-event_at (rate ∷ rates) r zero has = search rules
has_number-event_at (rate ∷ rates) r (suc e) has =
    let before : rate + total (take e rates) ≤ r = has.before in
    let large : rate ≤ r = omega arith in
    let rest : HasNumber rates (r - rate) e = record {
      place = (let p = has.place in omega arith);
      before = omega arith;
      own = λ small. (let o : r < rate + total (take (suc e) rates) = has.own (omega arith) in omega arith);
    } in
    rw (le-ltb r rate large) (ap suc (has_number-event_at rates (r - rate) e rest))
