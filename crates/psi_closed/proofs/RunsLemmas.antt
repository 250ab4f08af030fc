-- Closed runs are ordered by horizon, and one that ends with one state tells where every state of the total is.
use Rattle.std.specs.Prelude.{◌≡◌, ℕ, zero, suc, ◌+◌, ◌-◌, ◌≤◌, List, [], ◌∷◌, Some, refl}
use Rattle.std.proofs.Common.{inl, sym, subst, arith}
use Rattle.std.proofs.lemmas.Grind.{common_steps}
use Rattle.psi_state.specs.declared.Outcome.{Outcome}
use Rattle.psi_state.specs.declared.Outcome.TheVariants.{Met, NotMet}
use Rattle.psi_state.specs.Members.{In, AreAmong}
use Rattle.psi_state.specs.Sets.{image, single}
use Rattle.psi_state.specs.Ascending.{IsRising}
use Rattle.psi_state.proofs.SetsLemmas.{single-each, In-image}
use Rattle.psi_state.proofs.AscendingLemmas.{rising-same_each}
use Rattle.psi_rate.specs.Composition.{compose, AreKeeping, IsReachedFrom}
use Rattle.psi_rate.specs.Doubling.{IsLasting}
use Rattle.psi_rate.specs.Outcomes.{IsOutcome, ReachesFrom}
use Rattle.psi_rate.proofs.CompositionLemmas.{reached_from-later}
use Rattle.psi_rate.proofs.DoublingLemmas.{lasting-none}
use Rattle.psi_closed.specs.Closed.{IsOfTotal, total_states, all_arcs, arc_hull, closed_after, closed_run, closed_ending, AreOrdered, DecidesRuns, MeetsOfTotal}
use Rattle.psi_closed.proofs.ArcsLemmas.{In-total_states, In-of_total_states, total_states-rising, held-rising}
use Rattle.psi_closed.proofs.HullLemmas.{hull-has, hull-of, hull-among, image-among}

-- the one member of a list is in it
pub single-member : {A : Type 0} (xs : List A) (s : A) → single xs ≡ Some s → In s xs
single-member [] s one = absurd cc
single-member (x ∷ []) s one = inl cc
single-member (x ∷ y ∷ ys) s one = absurd cc

module _ (caps : List ℕ) (k : ℕ) (f : ℕ → List ℕ → List ℕ) where
  after-among : (t : ℕ) (xs ys : List (List ℕ)) → AreAmong xs ys → AreAmong (closed_after caps k f t xs) (closed_after caps k f t ys)
  after-among zero xs ys among = among
  after-among (suc t) xs ys among =
      grind (arith, common_steps, hull-among, image-among, (after-among t (arc_hull caps k (image (f (suc t)) xs)) (arc_hull caps k (image (f (suc t)) ys)) (hull-among caps k (image (f (suc t)) xs) (image (f (suc t)) ys) (image-among (f (suc t)) xs ys among))))

  -- the closed runs are ordered by horizon
  pub runs-ordered : AreOrdered caps k f
  unfolding closed_run
  runs-ordered = record {
    each = λ t. after-among t (arc_hull caps k (image (f (suc t)) (total_states caps k))) (total_states caps k) (record {
      each = λ x member. In-total_states caps k x (hull-of caps k (image (f (suc t)) (total_states caps k)) x member);
    });
  }

  -- so a longer run has no state that a shorter one hasn't
  pub run-among : (t d : ℕ) (x : List ℕ) → In x (closed_run caps k f (d + t)) → In x (closed_run caps k f t)
  run-among t zero x member = (let e : 0 + t ≡ t = omega arith in subst (λ n. In x (closed_run caps k f n)) e member)
  run-among t (suc d) x member =
      let e : suc d + t ≡ suc (d + t) = omega arith in
      let longer : In x (closed_run caps k f (suc (d + t))) = subst (λ n. In x (closed_run caps k f n)) e member in
      run-among t d x ((runs-ordered.each (d + t)).each x longer)

  after-rising : (t : ℕ) (xs : List (List ℕ)) → IsRising xs → IsRising (closed_after caps k f t xs)
  after-rising zero xs rising = rising
  after-rising (suc t) xs rising = after-rising t (arc_hull caps k (image (f (suc t)) xs)) (held-rising caps k (all_arcs (image (f (suc t)) xs)))

  pub run-rising : (t : ℕ) → IsRising (closed_run caps k f t)
  unfolding closed_run
  run-rising t = after-rising t (total_states caps k) (total_states-rising caps k)

  after-each : (t : ℕ) (xs : List (List ℕ)) (x : List ℕ) → ((y : List ℕ) → In y xs → IsOfTotal caps k y) → In x (closed_after caps k f t xs) → IsOfTotal caps k x
  after-each zero xs x each member = each x member
  after-each (suc t) xs x each member =
      after-each t (arc_hull caps k (image (f (suc t)) xs)) x (λ y own. hull-of caps k (image (f (suc t)) xs) y own) member

  -- its states are of the total
  pub run-each : (t : ℕ) (x : List ℕ) → In x (closed_run caps k f t) → IsOfTotal caps k x
  unfolding closed_run
  run-each t x member = after-each t (total_states caps k) x (λ y own. In-of_total_states caps k y own) member

-- where the functions keep the states of the total
module _ (caps : List ℕ) (k : ℕ) (f : ℕ → List ℕ → List ℕ) (keeps : AreKeeping (IsOfTotal caps k) f) where
  after-has : (t : ℕ) (xs : List (List ℕ)) (x : List ℕ) → IsOfTotal caps k x → In x xs → In (compose f t x) (closed_after caps k f t xs)
  after-has zero xs x is member = member
  after-has (suc t) xs x is member =
      let next = (keeps.each (suc t)).each x is in
      after-has t (arc_hull caps k (image (f (suc t)) xs)) (f (suc t) x) next
      (hull-has caps k (image (f (suc t)) xs) (f (suc t) x) next (In-image (f (suc t)) x xs member))

  -- the run ends with what its steps make of each of them
  pub run-has : (t : ℕ) (x : List ℕ) → IsOfTotal caps k x → In (compose f t x) (closed_run caps k f t)
  unfolding closed_run
  run-has t x is = after-has t (total_states caps k) x is (In-total_states caps k x is)

  -- so where it ends with one state, every state of the total that starts there or earlier is in it at time zero
  pub ending-reached : (t : ℕ) (s : List ℕ) → closed_ending caps k f t ≡ Some s → IsReachedFrom (IsOfTotal caps k) f t s
  ending-reached t s met = grind (arith, common_steps, reached_from-later, single-each, run-has)

  pub outcome-reached : (limit : ℕ) (o : Outcome) → IsOutcome (closed_ending caps k f) limit o → ReachesFrom (IsOfTotal caps k) f o
  outcome-reached limit (Met t s) is = ending-reached t s is.answer
  outcome-reached limit (NotMet l) is = tt

  -- a run that ends with one state does so at every longer horizon, with the same state
  pub met-later : (t later : ℕ) (s z : List ℕ) → IsOfTotal caps k z → t ≤ later → closed_ending caps k f t ≡ Some s → closed_run caps k f later ≡ s ∷ []
  met-later t later s z is order met =
      let e : (later - t) + t ≡ later = omega arith in
      rising-same_each (closed_run caps k f later) (compose f later z) s (run-rising caps k f later) (run-has later z is)
      (λ y member. single-each (closed_run caps k f t) s y met
      (run-among caps k f t (later - t) y (subst (λ n. In y (closed_run caps k f n)) (sym e) member)))

  -- so the states with which runs end last
  pub endings-last : (z : List ℕ) → IsOfTotal caps k z → IsLasting (closed_ending caps k f)
  endings-last z of = grind (arith, common_steps, met-later)

  -- what an outcome says of the runs of all horizons
  pub outcome-decides : (limit : ℕ) (o : Outcome) (z : List ℕ) → IsOfTotal caps k z → IsOutcome (closed_ending caps k f) limit o → DecidesRuns caps k f limit o
  outcome-decides limit (Met t s) z of is = λ later order. met-later t later s z of order is.answer
  outcome-decides limit (NotMet l) z of is = grind (arith, common_steps, lasting-none, endings-last)

-- the state in which a run ends is of the total
pub outcome-of : (caps : List ℕ) (k : ℕ) (f : ℕ → List ℕ → List ℕ) (limit : ℕ) (o : Outcome) → IsOutcome (closed_ending caps k f) limit o → MeetsOfTotal caps k o
outcome-of caps k f limit (Met t s) is = run-each caps k f t s (single-member (closed_run caps k f t) s is.answer)
outcome-of caps k f limit (NotMet l) is = tt

-- a run begins with all states of the total
pub run-begins : (caps : List ℕ) (k : ℕ) (f : ℕ → List ℕ → List ℕ) (t : ℕ) → closed_after caps k f t (total_states caps k) ≡ closed_run caps k f t
unfolding closed_run
run-begins caps k f t = refl
