-- The chain and the samples of events on the states of a total.
use Rattle.std.specs.Prelude.{◌≡◌, ℕ, zero, suc, ◌+◌, ◌<◌, ◌↔◌, List, [], ◌∷◌, length, take, map, slice_index, slice_index_or, All, Option, Some, None, IsSome, refl}
use Rattle.std.proofs.Common.{inl, inr, ap, sym, ◌∙◌, subst, arith}
use Rattle.std.proofs.lemmas.List.{length-map, ext_get_or}
use Rattle.std.proofs.lemmas.List.Elements.{All-map}
use Rattle.std.proofs.lemmas.Grind.{common_steps}
use Rattle.psi_state.specs.declared.Outcome.{Outcome}
use Rattle.psi_state.specs.Sets.{image, single}
use Rattle.psi_state.proofs.AscendingLemmas.{rising-distinct, rising-same_each}
use Rattle.psi_kinds.specs.declared.moves.Move.{Move}
use Rattle.psi_kinds.specs.Kinds.{do_kind}
use Rattle.psi_kinds.specs.Moves.{moved, move_of}
use Rattle.psi_kinds.proofs.MoveLemmas.{move-is, move-does}
use Rattle.psi_rate.specs.Rates.{AreRates}
use Rattle.psi_rate.specs.Composition.{Functions, function_at, compose, Keeps, AreKeeping}
use Rattle.psi_rate.specs.Outcomes.{outcome_within}
use Rattle.psi_rate.proofs.OutcomesLemmas.{outcome_within-is, outcome_within-only}
use Rattle.psi_rate.proofs.FunctionsLemmas.{function_at-keeping}
use Rattle.psi_closed_arcs.specs.Walks.{customers}
use Rattle.psi_closed.specs.Closed.{IsOfTotal, total_states, all_arcs, arc_hull, closed_after, closed_run, closed_ending}
use Rattle.psi_closed.specs.Diagram.{IsTotal}
use Rattle.psi_closed.specs.Planned.{AreMoves, IsClosedSample}
use Rattle.psi_closed.specs.Planned.{closed_functions as moves_by_time}
use Rattle.psi_closed.proofs.ArcsLemmas.{arc, In-of_all_arcs, held-rising, In-total_states, In-of_total_states, total_states-rising}
use Rattle.psi_closed.proofs.DiagramLemmas.{total-some}
use Rattle.psi_closed.proofs.HullLemmas.{hull-has, hull-of, hull-arcs}
use Rattle.psi_closed.proofs.MovesLemmas.{moved-keeps}
use Rattle.psi_closed.proofs.RunsLemmas.{single-member, run-each, endings-last, ending-reached, outcome-reached, outcome-decides, outcome-of}
use Rattle.psi_net_model.specs.Network.{Network, caps_of, rates_of, functions_of}
use Rattle.psi_net_model.specs.Valid.{IsNetwork, IsAccepted}
use Rattle.psi_law.specs.Counting.{Words}
use Rattle.psi_law.specs.Chains.{Chain, IsChain}
use Rattle.psi_law.specs.Networks.{closed_chain, closed_sample, network_total_chain, network_total_sample}
use Rattle.psi_law.proofs.CoalescenceLemmas.{single-list, AreRuns}
use Rattle.psi_law.proofs.LawfulLemmas.{AreLawful, runs-lawful}
use Rattle.psi_law.proofs.NetworkLemmas.{rates-count}

-- a closed run looks at the functions of its own steps alone
after-first : (caps : List ℕ) (k : ℕ) (f g : Functions) (t : ℕ) (xs : List (List ℕ)) → ((j : ℕ) → j < t → f (suc j) ≡ g (suc j))
    → closed_after caps k f t xs ≡ closed_after caps k g t xs
after-first caps k f g zero xs same = refl
after-first caps k f g (suc t) xs same = rw (same t (omega arith)) (after-first caps k f g t (arc_hull caps k (image (g (suc t)) xs)) (λ j small. same j (omega arith)))

ending-first : (caps : List ℕ) (k : ℕ) (f g : Functions) (t : ℕ) → ((j : ℕ) → j < t → f (suc j) ≡ g (suc j)) → closed_ending caps k f t ≡ closed_ending caps k g t
unfolding closed_run
ending-first caps k f g t same = ap (λ (xs : List (List ℕ)). single xs) (after-first caps k f g t (total_states caps k) same)

-- the older steps of a run come first
after-append : (caps : List ℕ) (k : ℕ) (f : Functions) (n d : ℕ) (xs : List (List ℕ))
    → closed_after caps k f (n + d) xs ≡ closed_after caps k f n (closed_after caps k (λ i. f (n + i)) d xs)
after-append caps k f n zero xs = (let e : n + zero ≡ n = omega arith in ap (λ m. closed_after caps k f m xs) e)
after-append caps k f n (suc d) xs = grind (arith, common_steps, (after-append caps k f n d (arc_hull caps k (image (f (suc (n + d))) xs))))

-- the arc hull of one state is that state: another state with its arcs has the same number in each queue
hull-one : (caps : List ℕ) (k : ℕ) (y : List ℕ) → IsOfTotal caps k y → arc_hull caps k (y ∷ []) ≡ y ∷ []
hull-one caps k y is =
    rising-same_each (arc_hull caps k (y ∷ [])) y y (held-rising caps k (all_arcs (y ∷ []))) (hull-has caps k (y ∷ []) y is (inl refl))
    (λ x member.
    (let own = hull-of caps k (y ∷ []) x member in
    ext_get_or 0 x y (own.within.same_length ∙ sym is.within.same_length)
    (λ i small.
    (let before = customers (take i x) in
    let found = In-of_all_arcs (y ∷ []) (arc i before (slice_index x i))
    (hull-arcs caps k (y ∷ []) x i before (slice_index x i) member (record { place = small; sum = refl; own = refl })) in
    let same : found.0 ≡ y = elim found.1 [ inl here ↦ here | inr past ↦ absurd past ] in
    sym found.2.own ∙ ap (λ (z : List ℕ). slice_index z i) same))))

-- so a run of one state stays one
after-one : (caps : List ℕ) (k : ℕ) (f : Functions) (t : ℕ) (s : List ℕ) → AreKeeping (IsOfTotal caps k) f → IsOfTotal caps k s → closed_after caps k f t (s ∷ []) ≡ compose f t s ∷ []
after-one caps k f zero s keeps is = refl
after-one caps k f (suc t) s keeps is =
    let next = (keeps.each (suc t)).each s is in
    ap (λ (xs : List (List ℕ)). closed_after caps k f t xs) (hull-one caps k (f (suc t) s) next) ∙ after-one caps k f t (f (suc t) s) keeps next

one-older : (caps : List ℕ) (k : ℕ) (f : Functions) (n d : ℕ) (s : List ℕ) → AreKeeping (IsOfTotal caps k) f → closed_ending caps k (λ i. f (n + i)) d ≡ Some s
    → closed_ending caps k f (n + d) ≡ Some (compose f n s)
unfolding closed_run
one-older caps k f n d s keeps met =
    let older = closed_after caps k (λ i. f (n + i)) d (total_states caps k) in
    let one = single-list older s met in
    let own = run-each caps k (λ i. f (n + i)) d s (single-member older s met) in
    ap (λ (xs : List (List ℕ)). single xs)
    (after-append caps k f n d (total_states caps k) ∙ (ap (λ (xs : List (List ℕ)). closed_after caps k f n xs) one ∙ after-one caps k f n s keeps own))

-- functions that keep the states of a total, with rates of a wheel
module _ (caps : List ℕ) (k : ℕ) (functions : List (List ℕ → List ℕ)) (rates : List ℕ) (keeps : All (Keeps (IsOfTotal caps k)) functions) (fits : IsTotal caps k)
    (rated : AreRates rates) (count : length rates ≡ length functions) where
  -- their chain on these states
  abbrev chain_on_total : Chain
  chain_on_total = record { functions = functions; rates = rates; states = total_states caps k }

  abbrev some : (x : List ℕ) × IsOfTotal caps k x
  some = total-some caps k fits.fits

  total-chain : IsChain chain_on_total
  total-chain = record {
    finite = record {
      some = (some.0, In-total_states caps k some.0 some.1);
      distinct = rising-distinct (total_states caps k) (total_states-rising caps k);
      keeps = λ e d small. record { each = λ x member. In-total_states caps k (slice_index_or functions e d x) ((keeps e d small).each x (In-of_total_states caps k x member)) };
    };
    rated = rated;
    same_count = count;
  }

  keeping : (past : Words) → AreKeeping (IsOfTotal caps k) (function_at functions rates past)
  keeping past = function_at-keeping (IsOfTotal caps k) functions rates past keeps

  -- their closed runs, and the samples of these with a limit
  total-runs : AreRuns chain_on_total (λ f. closed_ending caps k f)
  total-runs = record {
    looks = λ f g t same. ending-first caps k f g t same;
    last = λ past. endings-last caps k (function_at functions rates past) (keeping past) some.0 some.1;
    older = λ past n d s met. (compose (function_at functions rates past) n s, one-older caps k (function_at functions rates past) n d s (keeping past) met);
    ends = λ past n s x met own. (ending-reached caps k (function_at functions rates past) (keeping past) n s met).each x n (In-of_total_states caps k x own) (omega arith);
  }

  module _ (limit : ℕ) where
    abbrev total_sample : Words → Outcome
    total_sample past = outcome_within (closed_ending caps k (function_at functions rates past)) limit

    total-lawful : AreLawful chain_on_total (λ f. closed_ending caps k f) limit
    total-lawful = runs-lawful chain_on_total (λ f. closed_ending caps k f) limit total-chain total-runs

    -- they are the samples that a closed plan promises
    total-samples : (past : Words) (o : Outcome) → IsClosedSample caps k (function_at functions rates past) limit o ↔ (o ≡ total_sample past)
    total-samples past o =
        let f = function_at functions rates past in
        let least = outcome_within-is (closed_ending caps k f) limit in (
          λ sample. outcome_within-only (closed_ending caps k f) limit o sample.least,
          λ same. subst (λ (p : Outcome). IsClosedSample caps k f limit p) (sym same)
              (record {
                least = least;
                reached = outcome-reached caps k f (keeping past) limit (total_sample past) least;
                later = outcome-decides caps k f (keeping past) limit (total_sample past) some.0 some.1 least;
                within = outcome-of caps k f limit (total_sample past) least;
              }),
        )

-- the moves of a closed network
moves-keep : (caps : List ℕ) (k : ℕ) (moves : List Move) → AreMoves caps moves → All (Keeps (IsOfTotal caps k)) (map (λ m. moved caps m) moves)
moves-keep caps k moves are =
    All-map (Keeps (IsOfTotal caps k)) (λ m. moved caps m) moves (λ i d small. record { each = λ x is. moved-keeps caps (slice_index_or moves i d) k x (are i d small) is })

module _ (caps : List ℕ) (k : ℕ) (moves : List Move) (rates : List ℕ) (limit : ℕ) (are : AreMoves caps moves) (fits : IsTotal caps k) (rated : AreRates rates) (count : length moves ≡ length rates) where
  pub moves-lawful : AreLawful (closed_chain caps k moves rates) (λ f. closed_ending caps k f) limit
  moves-lawful = total-lawful caps k (map (λ m. moved caps m) moves) rates (moves-keep caps k moves are) fits rated (sym count ∙ sym (length-map moves (λ m. moved caps m))) limit

  pub moves-sampled : (past : Words) (o : Outcome) → IsClosedSample caps k (moves_by_time caps moves rates past) limit o ↔ (o ≡ closed_sample caps k moves rates limit past)
  moves-sampled = total-samples caps k (map (λ m. moved caps m) moves) rates (moves-keep caps k moves are) fits rated (sym count ∙ sym (length-map moves (λ m. moved caps m))) limit

-- and the events of a network that are moves
is-some : {A : Type 0} (o : Option A) → IsSome o → (a : A) × (o ≡ Some a)
is-some None some = absurd cc
is-some (Some a) some = (a, refl)

module _ (net : Network) (k : ℕ) (kept : IsNetwork net) (moves : All (λ event. IsSome (move_of event.kind)) net.events) (fits : IsTotal (caps_of net) k) where
  kinds-keep : All (Keeps (IsOfTotal (caps_of net) k)) (functions_of net)
  kinds-keep =
      All-map (Keeps (IsOfTotal (caps_of net) k)) (λ e. do_kind (caps_of net) e.kind) net.events
      (λ i d small. (let event = slice_index_or net.events i d in
      let move = is-some (move_of event.kind) (moves i d small) in
      let is : IsAccepted (caps_of net) event.kind = kept.kinds i d small in
      record {
        each = λ x own. subst (λ (y : List ℕ). IsOfTotal (caps_of net) k y) (sym (move-does (caps_of net) event.kind move.0 move.1 is.named is.accepted x))
            (moved-keeps (caps_of net) move.0 k x (move-is (caps_of net) event.kind move.0 move.1 is.named is.accepted) own);
      }))

  pub kinds-lawful : AreLawful (network_total_chain net k) (λ f. closed_ending (caps_of net) k f) net.limit
  kinds-lawful = total-lawful (caps_of net) k (functions_of net) (rates_of net) kinds-keep fits kept.rates (rates-count net kept) net.limit

  pub kinds-sampled : (past : Words) (o : Outcome) → IsClosedSample (caps_of net) k (function_at (functions_of net) (rates_of net) past) net.limit o ↔ (o ≡ network_total_sample net k past)
  kinds-sampled = total-samples (caps_of net) k (functions_of net) (rates_of net) kinds-keep fits kept.rates (rates-count net kept) net.limit
