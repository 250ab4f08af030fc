-- The sums of a path that is walked to its end.
use Rattle.std.specs.Prelude.{◌≡◌, ℕ, zero, suc, ◌+◌, ◌-◌, ◌*◌, ◌<◌, ◌≤◌, ℤ, pos, ◌+ℤ◌, ◌*ℤ◌, List, [], ◌∷◌, ◌++◌, length, map, slice_index, slice_index_or, refl}
use Rattle.std.proofs.Common.{ap, ap₂, sym, ◌∙◌, subst, arith}
use Rattle.std.proofs.lemmas.Int.{ints}
use Rattle.std.proofs.lemmas.List.{length-map, length_push}
use Rattle.psi_state.specs.State.{IsBelow}
use Rattle.psi_event.specs.Law.{Function, IsClosed}
use Rattle.psi_event.specs.Idle.{unchanged}
use Rattle.psi_rate.specs.Composition.{SystemParts}
use Rattle.psi_rate.specs.System.{IsSystem}
use Rattle.psi_path.specs.Path.{Path, path_of, state_of}
use Rattle.psi_path.specs.Sums.{Worth, worth_at, customers_until, worth_until}
use Rattle.psi_path.proofs.StepLemmas.{few-customers}
use Rattle.psi_follow_packed.specs.Programs.{Prepares}
use Rattle.psi_follow_packed.specs.Views.{low_word, high_word}
use Rattle.psi_follow_packed.specs.declared.pairs.Pair.{Pair}
use Rattle.psi_path_packed.specs.Rises.{AreRises, times_until, total_of, sum_below, IsNumber}
use Rattle.psi_path_packed.specs.Walker.{Walker, IsWalkerOf, AreSmallRises, rise_of}
use Rattle.psi_path_packed.specs.Counts.{Course, AreMovesOf, CountsStand, StandsAt}
use Rattle.psi_path_packed.proofs.AbelLemmas.{path-below, abel}
use Rattle.psi_path_packed.proofs.SumLemmas.{below-same, integers-of}
use Rattle.psi_path_packed.proofs.StepLemmas.{idle-read}

pos-same : (a b : ℕ) → pos a ≡ pos b → a ≡ b
pos-same a b same = omega (arith, ints)

module _ {E : Type 0} (capacities : E → List ℕ) (function : E → Function) (system : SystemParts E) (fit : IsSystem capacities system) (words : ℕ) (worths : List Worth) (walker self : Walker)
    (seen : walker ≡ self) (is_seen : IsWalkerOf words system.caps (map function system.events) worths self) where
  is : IsWalkerOf words system.caps (map function system.events) worths walker
  is = subst (λ (w : Walker). IsWalkerOf words system.caps (map function system.events) worths w) (sym seen) is_seen

  pub same-caps : walker.prepared.packing.caps ≡ system.caps
  same-caps = is.prepared.same_caps

  pub few-words : words ≤ 32
  few-words = is.prepared.packing.words

  count-same : length (map function system.events) ≡ length system.rates
  count-same = length-map system.events function ∙ sym fit.same_count

  pub count-moves : length walker.prepared.moves ≡ length system.rates + 1
  count-moves = (let e = is.prepared.same_count in let long = length_push (map function system.events) unchanged in let same = count-same in omega arith)

  module _ (past : ℕ → ℕ) (start : List ℕ) (within : IsBelow start system.caps) (steps : ℕ) where
    abbrev own : Path
    own = path_of function system past start

    abbrev course : Course
    course = record { path = own; steps = steps; packing = walker.prepared.packing }

    pub moves-of : AreMovesOf words course system.rates walker.prepared.moves
    moves-of = record {
      same_rates = refl;
      long = count-same;
      prepared = subst (λ (cs : List ℕ). Prepares words cs (map function system.events ++ unchanged ∷ []) walker.prepared) (sym same-caps) is.prepared;
    }

    closed : (e : ℕ) → e < length own.functions → IsClosed system.caps (slice_index_or own.functions e (λ y. y))
    closed e small =
        let more = length_push (map function system.events) unchanged in
        subst (λ (f : Function). IsClosed system.caps f) (idle-read (map function system.events) e)
        (subst (λ (cs : List ℕ). IsClosed cs (slice_index_or (map function system.events ++ unchanged ∷ []) e (λ y. y))) same-caps (is.prepared.each e (omega arith)).closed)

    -- at the end, where the pairs of times and changes are read from a slice
    module _ (few : steps ≤ 4290772992) (left : ℕ) (x chosen : List ℕ) (changes items : List Pair) (none : left ≡ 0)
        (stands : StandsAt words walker.prepared.packing own steps left x chosen (map high_word items) (map low_word items)) (slice : changes ≡ items) where
      abbrev times : List ℕ
      times = map low_word changes

      all-walked : stands.walked ≡ steps
      all-walked = (let all = stands.all in omega arith)

      pub counts-at-end : CountsStand own steps steps chosen (map high_word changes) (map low_word changes)
      counts-at-end =
          subst (λ (ps : List Pair). CountsStand own steps steps chosen (map high_word ps) (map low_word ps)) (sym slice)
          (subst (λ (k : ℕ). CountsStand own steps k chosen (map high_word items) (map low_word items)) all-walked stands.counts)

      count-is : length changes - 1 ≡ length (map function system.events)
      count-is = (let sized = counts-at-end.times_sized in let mapped = length-map changes low_word in let same = count-same in omega arith)

      total-is : (worth : Worth) (rise : ℕ → ℤ) → AreRises system.caps own.functions worth rise → total_of (worth start) steps rise (slice_index times) (length changes - 1) ≡ worth_until own worth steps
      total-is worth rise rises =
          let same = count-same in
          ap (λ n. (pos (steps + 1) *ℤ worth start) +ℤ sum_below (λ i. pos (slice_index times i) *ℤ rise i) n) count-is
          ∙ ap (λ z. (pos (steps + 1) *ℤ worth start) +ℤ z) (below-same (λ i. pos (times_until own steps i steps) *ℤ rise i) (λ i. pos (slice_index times i) *ℤ rise i) (length own.functions)
          (λ i small. ap (λ n. pos n *ℤ rise i) (counts-at-end.each_times i (omega arith))))
          ∙ sym (abel system.caps own within closed worth rise rises steps)

      -- the rises of the rewards, as they are read from a slice
      module _ (rises : List ℤ) (own_rises : rises ≡ walker.rewards) where
        pub reward-rises : AreSmallRises (length changes - 1) (length worths) rises
        reward-rises =
            subst (λ (zs : List ℤ). AreSmallRises (length changes - 1) (length worths) zs) (sym own_rises)
            (subst (λ (n : ℕ). AreSmallRises n (length worths) walker.rewards) (sym count-is) is.reward_rises)

        pub reward-is : (r : ℕ) → r < length worths → total_of (worth_at worths r start) steps (rise_of rises (length worths) r) (slice_index times) (length changes - 1) ≡ worth_until own (worth_at worths r) steps
        reward-is r small =
            ap (λ zs. total_of (worth_at worths r start) steps (rise_of zs (length worths) r) (slice_index times) (length changes - 1)) own_rises
            ∙ total-is (worth_at worths r) (rise_of walker.rewards (length worths) r) (is.rewards r small)

      -- and those of the numbers of customers
      module _ (rises : List ℤ) (own_rises : rises ≡ walker.queues) where
        pub customer-rises : AreSmallRises (length changes - 1) (length start) rises
        customer-rises =
            subst (λ (zs : List ℤ). AreSmallRises (length changes - 1) (length start) zs) (sym own_rises)
            (subst (λ (m : ℕ). AreSmallRises (length changes - 1) m walker.queues) (sym within.same_length)
            (subst (λ (n : ℕ). AreSmallRises n (length system.caps) walker.queues) (sym count-is) is.queue_rises))

        customers-are : (q : ℕ) → q < length system.caps → total_of (pos (slice_index start q)) steps (rise_of rises (length start) q) (slice_index times) (length changes - 1) ≡ pos (customers_until own q steps)
        customers-are q small =
            ap₂ (λ (zs : List ℤ) (m : ℕ). total_of (pos (slice_index start q)) steps (rise_of zs m q) (slice_index times) (length changes - 1)) own_rises within.same_length
            ∙ total-is (λ x. pos (slice_index x q)) (rise_of walker.queues (length system.caps) q) (is.queues q small)
            ∙ integers-of (λ k. slice_index (state_of own k) q) steps

        customers-few : (q : ℕ) → q < length system.caps → (n : ℕ) → customers_until own q n ≤ (n + 1) * 65535
        customers-few q small zero = few-customers system.caps start fit.valid within q small
        customers-few q small (suc n) =
            let rest = customers-few q small n in
            let more = few-customers system.caps (state_of own (suc n)) fit.valid (path-below system.caps own within closed (suc n)) q small in omega arith

        pub customers-number : (q : ℕ) → q < length start → IsNumber (total_of (pos (slice_index start q)) steps (rise_of rises (length start) q) (slice_index times) (length changes - 1))
        customers-number q small =
            let long = within.same_length in
            record { number = customers_until own q steps; is = customers-are q (omega arith); few = (let most = customers-few q (omega arith) steps in omega arith) }

        -- a sum that is this total
        pub customers-is : (q sum : ℕ) → q < length system.caps → pos sum ≡ total_of (pos (slice_index start q)) steps (rise_of rises (length start) q) (slice_index times) (length changes - 1) → sum ≡ customers_until own q steps
        customers-is q sum small same = pos-same sum (customers_until own q steps) (same ∙ customers-are q small)
