-- Horizons of which none is wrong are those of samples.
use Rattle.std.specs.Prelude.{◌≡◌, ℕ, zero, suc, ◌+◌, ◌-◌, ◌<◌, ◌≤◌, List, [], ◌∷◌, ◌++◌, length, replicate, All, true, ◌==◌, cond, Option, Some, None, refl}
use Rattle.std.proofs.Common.{sym, arith}
use Rattle.std.proofs.lemmas.Bool.{eqb-true, ltb-true}
use Rattle.std.proofs.lemmas.Bool.Decides.{nat_tests}
use Rattle.std.proofs.lemmas.List.{length-append, length-replicate}
use Rattle.std.proofs.lemmas.List.Sums.{sum_by-cons}
use Rattle.std.proofs.lemmas.List.Elements.{All-nil, All-append, All-replicate}
use Rattle.psi_report.specs.Samples.{IsHorizon}
use Rattle.psi_report.specs.Report.{times}
use Rattle.psi_report.specs.declared.figure.HorizonCount.{HorizonCount}
use Rattle.psi_report_reader.specs.Sound.{is_horizon, is_above, is_next, horizons_flaw}
use Rattle.psi_report_reader.proofs.HorizonCountsLemmas.{Rising, having, horizons_of, horizons-are}
use Rattle.psi_report_reader.proofs.PowerLemmas.{power-below}
use Rattle.psi_report_reader.proofs.RightLemmas.{passed}

horizon-power : (t : ℕ) → is_horizon t ≡ true → IsHorizon t
horizon-power t is =
    let power = power-below 23 t (grind (arith, nat_tests)) (grind (arith, nat_tests)) in
    record { exponent = power.exponent; few = omega arith; power = power.power }

-- so many samples more of one horizon
times-replicate : (t n h : ℕ) (hs : List ℕ) → times t (replicate n h ++ hs) ≡ cond {A = ℕ} (h == t) n 0 + times t hs
times-replicate t zero h hs = grind arith
times-replicate t (suc n) h hs = grind (arith, times-replicate t n h hs, sum_by-cons (λ m. cond {A = ℕ} (m == t) 1 0) h (replicate n h ++ hs))

-- so many horizons of samples, of which each count has its number
record AreSpread (n : ℕ) (cs : List HorizonCount) : Type 0 where
  horizons : List ℕ
  count : length horizons ≡ n
  each : All IsHorizon horizons
  same : (t : ℕ) → having t cs ≡ times t horizons

next-parts : (last : Option ℕ) (left : ℕ) (c : HorizonCount) → is_next last left c ≡ true
    → ((is_horizon c.horizon ≡ true) × (is_above last c.horizon ≡ true)) × ((0 < c.count) × (c.count ≤ left))
next-parts last left c is = ((grind arith, grind arith), (grind (arith, nat_tests), grind (arith, nat_tests)))

horizons-spread : (k : ℕ) (last : Option ℕ) (left : ℕ) (cs : List HorizonCount) → horizons_flaw k last left cs ≡ None → AreSpread left cs
horizons-spread k last left [] is = record { horizons = []; count = sym (eqb-true left 0 (passed (left == 0) None k is).0); each = All-nil IsHorizon; same = λ t. refl }
horizons-spread k last left (c ∷ cs) is =
    let both = passed (is_next last left c) (horizons_flaw (k + 1) (Some c.horizon) (left - c.count) cs) k is in
    let next = next-parts last left c both.0 in
    let are = horizons-spread (k + 1) (Some c.horizon) (left - c.count) cs both.1 in
    record {
      horizons = replicate c.count c.horizon ++ are.horizons;
      count = simp (length-append, length-replicate) (omega arith);
      each = All-append IsHorizon (replicate c.count c.horizon) are.horizons (All-replicate IsHorizon c.count c.horizon (horizon-power c.horizon next.0.0)) are.each;
      same = λ t. (let more = are.same t in let whole = times-replicate t c.count c.horizon are.horizons in omega arith);
    }

rising-right : (k left low : ℕ) (last : Option ℕ) (cs : List HorizonCount) → ((t : ℕ) → is_above last t ≡ true → low ≤ t) → horizons_flaw k last left cs ≡ None → Rising low cs
rising-right k left low last [] above is = tt
rising-right k left low last (c ∷ cs) above is =
    let both = passed (is_next last left c) (horizons_flaw (k + 1) (Some c.horizon) (left - c.count) cs) k is in
    let next = next-parts last left c both.0 in
    (above c.horizon next.0.1, (next.1.0, rising-right (k + 1) (left - c.count) (suc c.horizon) (Some c.horizon) cs (λ t less. ltb-true c.horizon t less) both.1))

-- so many horizons of samples, which are counted so
pub record AreCounted (n : ℕ) (cs : List HorizonCount) : Type 0 where
  pub horizons : List ℕ
  pub count : length horizons ≡ n
  pub each : All IsHorizon horizons
  pub counts : horizons_of horizons ≡ cs

pub horizons-reached : (left : ℕ) (cs : List HorizonCount) → horizons_flaw 0 None left cs ≡ None → AreCounted left cs
horizons-reached left cs is =
    let are = horizons-spread 0 None left cs is in
    record { horizons = are.horizons; count = are.count; each = are.each; counts = horizons-are are.horizons cs (rising-right 0 left 0 None cs (λ t above. omega arith) is) are.same }
