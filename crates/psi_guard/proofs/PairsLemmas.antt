-- The pairs of states that the four tests show.
use Rattle.std.specs.Prelude.{◌≡◌, ℕ, ◌+◌, ◌-◌, ◌<◌, ◌≤◌, Bool, true, ◌&&◌, not, cond, nat_eq, nat_lt, List, length, slice_index, slice_set, Option, Some, None, refl}
use Rattle.std.proofs.Common.{inl, inr, sym, ◌∙◌, subst, arith, length-set, get_or-set_same, get_or-set_other, rules}
use Rattle.std.proofs.lemmas.Bool.{cases_eq, and_parts, and_from, ltb-true, lt-ltb, eqb-false, ne_eqb, not-true, not_from_false}
use Rattle.psi_state.specs.State.{IsBelow}
use Rattle.psi_event.specs.Choice.{first_or}
use Rattle.psi_event.proofs.ChoiceLemmas.{first_some-of_none, first_some-of_found}
use Rattle.psi_event.specs.Law.{IsMonotone, IsUpset, ShowsUpset}
use Rattle.psi_guard.specs.declared.parts.Part.{Part}
use Rattle.psi_guard.specs.Guarding.{moved, guarded, part_of, leasts, around_most, around_least, both_with, exceeds, falls_short, own_above, other_above, own_below, other_below, over_queues, over_pairs, upset_of}
use Rattle.psi_guard.specs.Refusals.{AreGuards}
use Rattle.psi_guard.specs.Rule.{Rule, rule, AllowsAll}
use Rattle.psi_guard.specs.Inner.RuleLaws.{fits_guard}
use Rattle.psi_guard.proofs.StepsLemmas.{length-leasts, slice_index-leasts}
use Rattle.psi_guard.proofs.OrderLemmas.{IsRuleOf, is_rule_of, PassesNone, monotone_without, upset_up, upset_down}

-- queue p holds v, and each other one what it holds in the state b
record Around (r : Rule) (p v : ℕ) (b x : List ℕ) : Type 0 where
  long : length x ≡ r.queues
  here : slice_index x p ≡ v
  there : (i : ℕ) → i < r.queues → (i ≡ p → ⊥) → slice_index x i ≡ slice_index b i

around-set : (r : Rule) (p v : ℕ) (b : List ℕ) → length b ≡ r.queues → p < r.queues → Around r p v b (slice_set b p v)
around-set r p v b long place = search (rules, length-set, get_or-set_same, get_or-set_other)

-- one that is within the guards stays within them where the number is within queue p's guard
allows-around : (r : Rule) (p v : ℕ) (b x : List ℕ) → AllowsAll r b → Around r p v b x → r.least p ≤ v → v ≤ r.most p → AllowsAll r x
allows-around r p v b x all around low high = search (rules, cases_eq)

-- two states of the network, the smaller first
record IsPair (caps x y : List ℕ) : Type 0 where
  within : IsBelow y caps
  ordered : IsBelow x y

pair_of : (r : Rule) (caps : List ℕ) (f : List ℕ → List ℕ) (p u v : ℕ) (b x y : List ℕ) → IsRuleOf r caps f → AllowsAll r b
    → Around r p u b x → Around r p v b y → u ≤ v → v ≤ r.cap p → IsPair caps x y
pair_of r caps f p u v b x y is all first second less room = search (rules, cases_eq)

-- a test that succeeds, and one that doesn't
test-some : {A : Type 0} (b : Bool) (a found : A) → cond b (Some a) None ≡ Some found → (b ≡ true) × (a ≡ found)
test-some b a found is = search rules

test-none : {A : Type 0} (b : Bool) (a : A) → cond b (Some a) None ≡ None → b ≡ true → ⊥
test-none b a is holds = absurd cc

abbrev IsShown : List ℕ → List Part → List ℕ × List ℕ → Type 0
IsShown caps parts pair = IsUpset caps (guarded parts) pair.0 pair.1

leasts-allowed : (caps : List ℕ) (parts : List Part) → AreGuards caps parts → AllowsAll (rule caps parts) (leasts caps parts)
leasts-allowed caps parts guards = record {
  low = λ p place. omega (arith, slice_index-leasts caps parts p place);
  high = λ p place. (let guard = (fits_guard caps parts p guards).guard in omega (arith, guard, slice_index-leasts caps parts p place));
}

-- queue p at its most, where queue q passes what it holds with one customer more in p
up-shows : (caps : List ℕ) (parts : List Part) (p q u v : ℕ) → AreGuards caps parts → p < length caps → q < length caps → exceeds caps parts p ≡ true
    → slice_index (around_most caps parts p).0 q ≡ u → slice_index (around_most caps parts p).1 q ≡ v → v < moved (part_of caps parts q) u
    → IsShown caps parts (around_most caps parts p)
up-shows caps parts p q u v guards place other room first_at second_at less =
    let r = rule caps parts in
    let a = leasts caps parts in
    let most = (part_of caps parts p).most in
    let law = is_rule_of caps parts guards in
    let all = leasts-allowed caps parts guards in
    let free : most < slice_index caps p = ltb-true most (slice_index caps p) room in
    let first = around-set r p most a (length-leasts caps parts) place in
    let second = around-set r p (most + 1) a (length-leasts caps parts) place in
    let two = pair_of r caps (guarded parts) p most (most + 1) a (slice_set a p most) (slice_set a p (most + 1)) law all first second (omega arith) (omega arith) in
    upset_up r caps (guarded parts) (slice_set a p most) (slice_set a p (most + 1)) q u v law two.within two.ordered other
    (allows-around r p most a (slice_set a p most) all first (law.lawful.guard p place) (omega arith))
    (record { queue = p; place = place; out = inr (omega (arith, second.here)) }) first_at second_at less

own_above-shows : (caps : List ℕ) (parts : List Part) (p : ℕ) (pair : List ℕ × List ℕ) → AreGuards caps parts → p < length caps
    → own_above caps parts p ≡ Some pair → IsShown caps parts pair
own_above-shows caps parts p pair guards place is =
    let r = rule caps parts in
    let a = leasts caps parts in
    let most = (part_of caps parts p).most in
    let t = test-some (exceeds caps parts p && nat_lt (most + 1) (moved (part_of caps parts p) most)) (around_most caps parts p) pair is in
    let both = and_parts (exceeds caps parts p) (nat_lt (most + 1) (moved (part_of caps parts p) most)) t.0 in
    subst (λ (found : List ℕ × List ℕ). IsShown caps parts found) t.1
    (up-shows caps parts p p most (most + 1) guards place place both.0 (around-set r p most a (length-leasts caps parts) place).here
    (around-set r p (most + 1) a (length-leasts caps parts) place).here (ltb-true (most + 1) (moved (part_of caps parts p) most) both.1))

other_above-shows : (caps : List ℕ) (parts : List Part) (p q : ℕ) (pair : List ℕ × List ℕ) → AreGuards caps parts → p < length caps → q < length caps
    → other_above caps parts p q ≡ Some pair → IsShown caps parts pair
other_above-shows caps parts p q pair guards place other is =
    let a = leasts caps parts in
    let most = (part_of caps parts p).most in
    let least = (part_of caps parts q).least in
    let t = test-some (exceeds caps parts p && (not (nat_eq p q) && nat_lt least (moved (part_of caps parts q) least))) (around_most caps parts p) pair is in
    let both = and_parts (exceeds caps parts p) (not (nat_eq p q) && nat_lt least (moved (part_of caps parts q) least)) t.0 in
    let rest = and_parts (not (nat_eq p q)) (nat_lt least (moved (part_of caps parts q) least)) both.1 in
    let apart : q ≡ p → ⊥ = λ e. eqb-false p q (not-true (nat_eq p q) rest.0) (sym e) in
    let held : slice_index a q ≡ least = slice_index-leasts caps parts q other in
    subst (λ (found : List ℕ × List ℕ). IsShown caps parts found) t.1
    (up-shows caps parts p q least least guards place other both.0 (get_or-set_other {A = ℕ} a p q most 0 apart ∙ held)
    (get_or-set_other {A = ℕ} a p q (most + 1) 0 apart ∙ held) (ltb-true least (moved (part_of caps parts q) least) rest.1))

-- a state y within the guards with queue p at its least, where queue q falls below what it holds in the state x with one customer less in p
down-shows : (caps : List ℕ) (parts : List Part) (p q u v : ℕ) (x y : List ℕ) → AreGuards caps parts → p < length caps → q < length caps
    → falls_short caps parts p ≡ true → AllowsAll (rule caps parts) y → Around (rule caps parts) p ((part_of caps parts p).least - 1) y x
    → Around (rule caps parts) p (part_of caps parts p).least y y → slice_index x q ≡ u → slice_index y q ≡ v → moved (part_of caps parts q) v < u
    → IsUpset caps (guarded parts) x y
down-shows caps parts p q u v x y guards place other some all first second first_at second_at less =
    let r = rule caps parts in
    let least = (part_of caps parts p).least in
    let law = is_rule_of caps parts guards in
    let held : 0 < least = ltb-true 0 least some in
    let guard = law.lawful.guard p place in
    let most = law.lawful.most p place in
    let two = pair_of r caps (guarded parts) p (least - 1) least y x y law all first second (omega arith) (omega (arith, guard, most)) in
    upset_down r caps (guarded parts) x y q u v law two.within two.ordered other
    (record { queue = p; place = place; out = inl (omega (arith, first.here)) }) all first_at second_at less

own_below-shows : (caps : List ℕ) (parts : List Part) (p : ℕ) (pair : List ℕ × List ℕ) → AreGuards caps parts → p < length caps
    → own_below caps parts p ≡ Some pair → IsShown caps parts pair
own_below-shows caps parts p pair guards place is =
    let a = leasts caps parts in
    let least = (part_of caps parts p).least in
    let t = test-some (falls_short caps parts p && nat_lt (moved (part_of caps parts p) least) (least - 1)) (around_least caps parts p) pair is in
    let both = and_parts (falls_short caps parts p) (nat_lt (moved (part_of caps parts p) least) (least - 1)) t.0 in
    let first = around-set (rule caps parts) p (least - 1) a (length-leasts caps parts) place in
    let held : slice_index a p ≡ least = slice_index-leasts caps parts p place in
    subst (λ (found : List ℕ × List ℕ). IsShown caps parts found) t.1
    (down-shows caps parts p p (least - 1) least (slice_set a p (least - 1)) a guards place place both.0 (leasts-allowed caps parts guards) first
    (record { long = length-leasts caps parts; here = held; there = λ i small ne. refl }) first.here held
    (ltb-true (moved (part_of caps parts p) least) (least - 1) both.1))

other_below-shows : (caps : List ℕ) (parts : List Part) (p q : ℕ) (pair : List ℕ × List ℕ) → AreGuards caps parts → p < length caps → q < length caps
    → other_below caps parts p q ≡ Some pair → IsShown caps parts pair
other_below-shows caps parts p q pair guards place other is =
    let r = rule caps parts in
    let a = leasts caps parts in
    let least = (part_of caps parts p).least in
    let most = (part_of caps parts q).most in
    let t = test-some (falls_short caps parts p && (not (nat_eq p q) && nat_lt (moved (part_of caps parts q) most) most)) (both_with q most (around_least caps parts p)) pair is in
    let both = and_parts (falls_short caps parts p) (not (nat_eq p q) && nat_lt (moved (part_of caps parts q) most) most) t.0 in
    let rest = and_parts (not (nat_eq p q)) (nat_lt (moved (part_of caps parts q) most) most) both.1 in
    let apart : p ≡ q → ⊥ = eqb-false p q (not-true (nat_eq p q) rest.0) in
    let one = around-set r p (least - 1) a (length-leasts caps parts) place in
    let y = around-set r q most a (length-leasts caps parts) other in
    let x = around-set r q most (slice_set a p (least - 1)) one.long other in
    let all = allows-around r q most a (slice_set a q most) (leasts-allowed caps parts guards) y ((fits_guard caps parts q guards).guard) (omega arith) in
    subst (λ (found : List ℕ × List ℕ). IsShown caps parts found) t.1
    (down-shows caps parts p q most most (slice_set (slice_set a p (least - 1)) q most) (slice_set a q most) guards place other both.0 all
    (record {
      long = x.long;
      here = x.there p place apart ∙ one.here;
      there = λ i small ne. elim (cases_eq i q) [
        | inl e ↦ subst (λ j. slice_index (slice_set (slice_set a p (least - 1)) q most) j ≡ slice_index (slice_set a q most) j) (sym e) (x.here ∙ sym y.here)
        | inr other ↦ x.there i small other ∙ (one.there i small ne ∙ sym (y.there i small other))
      ];
    })
    (record { long = y.long; here = y.there p place apart ∙ slice_index-leasts caps parts p place; there = λ i small ne. refl }) x.here y.here
    (ltb-true (moved (part_of caps parts q) most) most rest.1))

-- no test succeeds
pub record FindsNone (caps : List ℕ) (parts : List Part) : Type 0 where
  pub own_above : over_queues caps (own_above caps parts) ≡ None
  pub other_above : over_pairs caps (other_above caps parts) ≡ None
  pub own_below : over_queues caps (own_below caps parts) ≡ None
  pub other_below : over_pairs caps (other_below caps parts) ≡ None

queue-none : (caps : List ℕ) (f : ℕ → Option (List ℕ × List ℕ)) (p : ℕ) → over_queues caps f ≡ None → p < length caps → f p ≡ None
queue-none caps f p none place = first_some-of_none f 0 (length caps) none p (omega arith) (omega arith)

pair-none : (caps : List ℕ) (f : ℕ → ℕ → Option (List ℕ × List ℕ)) (p q : ℕ) → over_pairs caps f ≡ None → p < length caps → q < length caps → f p q ≡ None
pair-none caps f p q none place other = queue-none caps (f p) q (queue-none caps (λ i. over_queues caps (f i)) p none place) other

passes-none : (caps : List ℕ) (parts : List Part) → FindsNone caps parts → PassesNone (rule caps parts)
passes-none caps parts none = record {
  own_above = λ p place room over. test-none _ (around_most caps parts p) (queue-none caps (own_above caps parts) p none.own_above place)
      (and_from _ _ (lt-ltb _ _ room) (lt-ltb _ _ over));
  other_above = λ p q place other apart room over. test-none _ (around_most caps parts p) (pair-none caps (other_above caps parts) p q none.other_above place other)
      (and_from _ _ (lt-ltb _ _ room) (and_from _ _ (not_from_false _ (ne_eqb p q apart)) (lt-ltb _ _ over)));
  own_below = λ p place some under. test-none _ (around_least caps parts p) (queue-none caps (own_below caps parts) p none.own_below place)
      (and_from _ _ (lt-ltb _ _ some) (lt-ltb _ _ under));
  other_below = λ p q place other apart some under. test-none _ (both_with q (part_of caps parts q).most (around_least caps parts p))
      (pair-none caps (other_below caps parts) p q none.other_below place other)
      (and_from _ _ (lt-ltb _ _ some) (and_from _ _ (not_from_false _ (ne_eqb p q apart)) (lt-ltb _ _ under)));
}

-- so the event keeps the order of states
pub none-monotone : (caps : List ℕ) (parts : List Part) → AreGuards caps parts → FindsNone caps parts → IsMonotone caps (guarded parts)
none-monotone caps parts guards none = monotone_without (rule caps parts) caps (guarded parts) (is_rule_of caps parts guards) (passes-none caps parts none)

-- a pair that a test shows breaks it
queue-shows : (caps : List ℕ) (parts : List Part) (f : ℕ → Option (List ℕ × List ℕ)) (pair : List ℕ × List ℕ)
    → ((p : ℕ) (found : List ℕ × List ℕ) → p < length caps → f p ≡ Some found → IsShown caps parts found) → over_queues caps f ≡ Some pair → IsShown caps parts pair
queue-shows caps parts f pair each is =
    let found = first_some-of_found f 0 (length caps) pair is in
    let high : found.0 < 0 + length caps = found.2 in
    each found.0 pair (omega arith) found.3

pairs-show : (caps : List ℕ) (parts : List Part) (f : ℕ → ℕ → Option (List ℕ × List ℕ)) (pair : List ℕ × List ℕ)
    → ((p q : ℕ) (found : List ℕ × List ℕ) → p < length caps → q < length caps → f p q ≡ Some found → IsShown caps parts found) → over_pairs caps f ≡ Some pair → IsShown caps parts pair
pairs-show caps parts f pair each is = search (rules, queue-shows)

-- the pair is that of the first test that succeeds, and without one no test does
first-shows : (caps : List ℕ) (parts : List Part) (a b c d : Option (List ℕ × List ℕ)) → over_queues caps (own_above caps parts) ≡ a → over_pairs caps (other_above caps parts) ≡ b
    → over_queues caps (own_below caps parts) ≡ c → over_pairs caps (other_below caps parts) ≡ d → AreGuards caps parts
    → ShowsUpset caps (guarded parts) (first_or a (first_or b (first_or c d)))
first-shows caps parts (Some pair) b c d one two three four guards = search (rules, queue-shows, own_above-shows)
first-shows caps parts None (Some pair) c d one two three four guards = search (rules, pairs-show, other_above-shows)
first-shows caps parts None None (Some pair) d one two three four guards = search (rules, queue-shows, own_below-shows)
first-shows caps parts None None None (Some pair) one two three four guards = search (rules, pairs-show, other_below-shows)
first-shows caps parts None None None None one two three four guards = search (rules, none-monotone)

pub upset-shows : (caps : List ℕ) (parts : List Part) (o : Option (List ℕ × List ℕ)) → AreGuards caps parts → o ≡ upset_of caps parts → ShowsUpset caps (guarded parts) o
unfolding upset_of
upset-shows caps parts o guards is = search (rules, first-shows)
