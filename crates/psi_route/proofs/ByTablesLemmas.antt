-- The targets of a route with tables, one after another: the ends of each, and how far the customers come.
use Rattle.std.proofs.Common.{◌≡◌, ◌+◌, ◌<◌, ◌≤◌, ℕ, List, length, slice_index, slice_set, Option, is_none, Bool, true, false, refl, ap, sym, ◌∙◌, subst, arith}
use Rattle.std.specs.Bool.{MatchBool}
use Rattle.psi_state.specs.State.{IsBelow}
use Rattle.psi_route.specs.Routing.{Shape, routing, routed}
use Rattle.psi_route.specs.Accepted.{IsRouteShape}
use Rattle.psi_route.proofs.AcceptedLemmas.{routing-is}
use Rattle.psi_route.specs.Ends.{IsLeastAfter, IsGreatestAfter, IsLowEnd, IsHighEnd, AreTargetEnds}
use Rattle.psi_route.specs.Offers.{IsRival, IsBar, IsLeastOffer, AreLeastTwo, beside, MayStay, MustRise, MayRise, MustStay}
use Rattle.psi_route.specs.Coming.{Comes, Misses, AreComing}
use Rattle.psi_route.specs.declared.keys.Key.{Key}
use Rattle.psi_route.proofs.TightnessLemmas.{target-ordered}
use Rattle.psi_route.proofs.SettingLemmas.{shape-routes, shape-box, targets-ordered}
use Rattle.psi_route.proofs.OfferingLemmas.{least-beside, low-weighed, high-weighed, rival-passes, bar-passes}
use Rattle.psi_route.proofs.OnePassLemmas.{low-missed-source, target-ends_kept, target-ends_more, misses-more}

-- the two ends of the target at place j
pub record AreBothEnds (s : Shape) (l h : List ℕ) (j low high : ℕ) : Type 0 where
  pub least : IsLowEnd (routing s) l h j low
  pub greatest : IsHighEnd (routing s) l h j high
  pub ordered : low ≤ high

pub both-ends : (s : Shape) → IsRouteShape s → (l h u w : List ℕ) (j queue least greatest low high : ℕ) (always : Bool) (first second bar other rival block : Option Key)
    → IsBelow l h → IsBelow h s.caps → AreTargetEnds (routing s) l h u w j → j < length s.targets → queue ≡ slice_index s.targets j → least ≡ slice_index u queue
    → greatest ≡ slice_index w queue → MatchBool always (Comes (routing s) l 0) (Misses (routing s) l 0) → Comes (routing s) h 0
    → (always ≡ true → AreLeastTwo (IsRival (routing s) l h) (length s.targets) first second) → AreLeastTwo (IsBar (routing s) l h) (length s.targets) bar other
    → rival ≡ beside first second j → block ≡ beside bar other j → (always ≡ false → low ≡ least)
    → (always ≡ true → IsLeastAfter (MayStay (routing s) j rival) (MustRise (routing s) j rival) s.size least greatest low)
    → IsGreatestAfter (MayRise (routing s) j block) (MustStay (routing s) j block) s.size least greatest high → AreBothEnds s l h j low high
both-ends s is l h u w j queue least greatest low high always first second bar other rival block ordered within ends small at is_least is_greatest coming comes rivals bars
    rival_is block_is kept served after =
    let r = routing s in
    let old = target-ends_kept r l h u w j (routing-is s is) ends small in
    let low_is : least ≡ slice_index l (slice_index s.targets j) = is_least ∙ (ap (λ q. slice_index u q) at ∙ old.0) in
    let high_is : greatest ≡ slice_index h (slice_index s.targets j) = is_greatest ∙ (ap (λ q. slice_index w q) at ∙ old.1) in
    let first_end : IsLowEnd r l h j low = low-end always coming low_is high_is rivals kept served in
    let last_end : IsHighEnd r l h j high =
    high-weighed r l h j high block (targets-ordered s is l h ordered within)
    (subst (λ (o : Option Key). IsLeastOffer (IsBar r l h) (length s.targets) j o) (sym block_is) (least-beside (IsBar r l h) (length s.targets) j bar other small bars)) comes.serve
    (subst (λ n. IsGreatestAfter (MayRise r j block) (MustStay r j block) s.size n (slice_index h (slice_index s.targets j)) high) low_is
    (subst (λ n. IsGreatestAfter (MayRise r j block) (MustStay r j block) s.size least n high) high_is after)) in
    record {
      least = first_end;
      greatest = last_end;
      ordered = target-ordered r (routing-is s is) (routed s) (shape-routes s is) l h j low high (shape-box s l h ordered within) small first_end last_end;
    }
  where
    low-end : (always : Bool) → MatchBool always (Comes (routing s) l 0) (Misses (routing s) l 0) → least ≡ slice_index l (slice_index s.targets j)
        → greatest ≡ slice_index h (slice_index s.targets j)
        → (always ≡ true → AreLeastTwo (IsRival (routing s) l h) (length s.targets) first second) → (always ≡ false → low ≡ least)
        → (always ≡ true → IsLeastAfter (MayStay (routing s) j rival) (MustRise (routing s) j rival) s.size least greatest low)
        → IsLowEnd (routing s) l h j low
    low-end true comes low_is high_is offers kept served =
        low-weighed (routing s) l h j low rival
        (subst (λ (o : Option Key). IsLeastOffer (IsRival (routing s) l h) (length s.targets) j o) (sym rival_is)
        (least-beside (IsRival (routing s) l h) (length s.targets) j first second small (offers refl))) comes.serve
        (subst (λ n. IsLeastAfter (MayStay (routing s) j rival) (MustRise (routing s) j rival) s.size n (slice_index h (slice_index s.targets j)) low) low_is
        (subst (λ n. IsLeastAfter (MayStay (routing s) j rival) (MustRise (routing s) j rival) s.size least n low) high_is (served refl)))
    low-end false misses low_is high_is offers kept served =
        subst (λ n. IsLowEnd (routing s) l h j n) (sym (kept refl ∙ low_is)) (low-missed-source (routing s) l h j is.sized (targets-ordered s is l h ordered within j small) misses)

pub ends-weighed : (s : Shape) → IsRouteShape s → (l h u w : List ℕ) (j low high : ℕ) → IsBelow l h → IsBelow h s.caps → AreTargetEnds (routing s) l h u w j
    → j < length s.targets → AreBothEnds s l h j low high
    → AreTargetEnds (routing s) l h (slice_set u (slice_index s.targets j) low) (slice_set w (slice_index s.targets j) high) (j + 1)
ends-weighed s is l h u w j low high ordered within ends small both =
    let named : slice_index s.targets j < length s.caps = is.named j small in
    target-ends_more (routing s) l h u w j low high (routing-is s is) ends small (omega (arith, ordered.same_length, within.same_length)) (omega (arith, within.same_length))
    both.least both.greatest

-- how far the customers come past all targets
pub coming-weighed : (s : Shape) → IsRouteShape s → (l h : List ℕ) (always passes some : Bool) (first bar : Option Key) → IsBelow l h → IsBelow h s.caps
    → MatchBool always (Comes (routing s) l 0) (Misses (routing s) l 0) → Comes (routing s) h 0 → (second other : Option Key)
    → (always ≡ true → AreLeastTwo (IsRival (routing s) l h) (length s.targets) first second) → AreLeastTwo (IsBar (routing s) l h) (length s.targets) bar other
    → (always ≡ true → passes ≡ is_none first) → (always ≡ false → passes ≡ false) → some ≡ is_none bar
    → AreComing (routing s) l h (length s.targets) (record { always = passes; sometimes = some })
coming-weighed s is l h true passes some first bar ordered within comes high second other rivals bars tells quiet said = record {
  low = subst (λ b. MatchBool b (Comes (routing s) l (length s.targets)) (Misses (routing s) l (length s.targets))) (sym (tells refl))
      (rival-passes (routing s) l h first ((rivals refl).first_is (length s.targets) (omega arith)) comes.serve (targets-ordered s is l h ordered within));
  high = subst (λ b. MatchBool b (Comes (routing s) h (length s.targets)) (Misses (routing s) h (length s.targets))) (sym said)
      (bar-passes (routing s) l h bar (bars.first_is (length s.targets) (omega arith)) high.serve);
}
coming-weighed s is l h false passes some first bar ordered within misses high second other rivals bars tells quiet said = record {
  low = subst (λ b. MatchBool b (Comes (routing s) l (length s.targets)) (Misses (routing s) l (length s.targets))) (sym (quiet refl))
      (misses-more (routing s) l 0 (length s.targets) (omega arith) misses);
  high = subst (λ b. MatchBool b (Comes (routing s) h (length s.targets)) (Misses (routing s) h (length s.targets))) (sym said)
      (bar-passes (routing s) l h bar (bars.first_is (length s.targets) (omega arith)) high.serve);
}
