-- A path through the table of a network is the path of the network, and what is counted along it gives the sums of that.
use Rattle.std.specs.Prelude.{◌≡◌, ℕ, zero, suc, ◌+◌, ◌-◌, ◌*◌, ◌%◌, ◌<◌, ◌≤◌, pos, ◌+ℤ◌, ◌*ℤ◌, List, length, map, slice_index, slice_index_or, All, Bool, true, false, ◌&&◌, not, nat_eq, if◌then◌else◌, refl}
use Rattle.std.specs.Cmp.Lexicographic.{pointwise, bytes_decides}
use Rattle.std.proofs.Common.{inl, inr, ap, sym, ◌∙◌, subst, arith}
use Rattle.std.proofs.lemmas.Bool.{cases_Bool, cases_lt, eqb-true, eq-eqb}
use Rattle.std.proofs.lemmas.List.{get_or_past, length-map}
use Rattle.std.proofs.lemmas.List.Elements.{All-map}
use Rattle.psi_state.specs.State.{IsBelow, all_states}
use Rattle.psi_state.proofs.StatesLemmas.{same-from_eq}
use Rattle.psi_event.specs.Law.{IsClosed}
use Rattle.psi_rate.specs.Rates.{event_of, total, least_power}
use Rattle.psi_rate.specs.Composition.{SystemParts}
use Rattle.psi_rate.specs.System.{IsSystem}
use Rattle.psi_rate.proofs.RatesLemmas.{event_at-below}
use Rattle.psi_exact.specs.Ranks.{rank_of, state_at}
use Rattle.psi_exact.proofs.PlacesLemmas.{state_at-rank_of, rank_of-small, state_at-below, state_at-apart, IsRank}
use Rattle.psi_path.specs.Path.{Path, first_place, path_of, state_of, event_after, is_changed}
use Rattle.psi_path.specs.Sums.{Worth, count_until, customers_until, worth_until, changed_until}
use Rattle.psi_path_table.specs.Table.{Table, AreRows, IsTableOf}
use Rattle.psi_path_table.specs.Trail.{Trail, event_at, rank_at, rank_before, is_visit, visits_until, left_until, is_same, moved_until}
use Rattle.psi_path_table.specs.Inner.VisitsKept.{IsTrail}
use Rattle.psi_path_table.specs.Inner.SumsKept.{sum_below, integers_below}
use Rattle.psi_path_table.proofs.SumLemmas.{below-same, below-longer, times-same, times-count, count-same, sum_times, sum-of_counts, sum-of_all, until-same, integers-of_counts, integers-of_all, integers-same}

-- ---- sums of counts, by events and by states

-- an event's number, or that of idle
pub event_at-small : (trail : Trail) (k : ℕ) → event_at trail k ≤ length trail.rates
unfolding event_of
event_at-small trail k = event_at-below trail.rates (trail.words (first_place + (k - 1)) % least_power (total trail.rates))

pub rank_at-small : (trail : Trail) → IsTrail trail → (k : ℕ) → rank_at trail k < trail.states
rank_at-small trail valid zero = valid.inside
rank_at-small trail valid (suc k) = valid.closed (event_at trail (suc k)) (rank_at trail k) (event_at-small trail (suc k)) (rank_at-small trail valid k)

module _ (trail : Trail) (valid : IsTrail trail) (n : ℕ) where
  ones : (m : ℕ) → sum_times (λ k. 1) m ≡ m
  ones zero = refl
  ones (suc m) = (let rest = ones m in omega arith)

  swapped : (a b : Bool) → (a && b) ≡ (b && a)
  swapped true true = refl
  swapped true false = refl
  swapped false true = refl
  swapped false false = refl

  -- of all events, those with idle in the state of a rank
  pub visits-of_rank : (r : ℕ) → sum_below (λ e. visits_until trail e r n) (length trail.rates + 1) ≡ left_until trail r n
  visits-of_rank r =
      below-same (λ e. visits_until trail e r n) (λ e. count_until (λ k. nat_eq (rank_before trail k) r && nat_eq (event_at trail k) e) n * 1) (length trail.rates + 1)
      (λ e small. (let turned = count-same (is_visit trail e r) (λ k. nat_eq (rank_before trail k) r && nat_eq (event_at trail k) e) n
      (λ k. swapped (nat_eq (event_at trail (suc k)) e) (nat_eq (rank_before trail (suc k)) r)) in omega arith))
      ∙ sum-of_counts (λ k. nat_eq (rank_before trail k) r) (event_at trail) (λ e. 1) (length trail.rates + 1) n (λ k. (let small = event_at-small trail (suc k) in omega arith))
      ∙ times-count (λ k. nat_eq (rank_before trail k) r) n

  -- in all states
  pub visits-of_event : (e : ℕ) → sum_below (λ r. visits_until trail e r n) trail.states ≡ count_until (λ k. nat_eq (event_at trail k) e) n
  visits-of_event e =
      below-same (λ r. visits_until trail e r n) (λ r. visits_until trail e r n * 1) trail.states (λ r small. omega arith)
      ∙ sum-of_counts (λ k. nat_eq (event_at trail k) e) (rank_before trail) (λ r. 1) trail.states n (rank_at-small trail valid)
      ∙ times-count (λ k. nat_eq (event_at trail k) e) n

  moved : (a b : Bool) → ◌≡◌ {A = ℕ} (if a then (if b then 0 else 1) else 0) (if a && not b then 1 else 0)
  moved true true = refl
  moved true false = refl
  moved false b = refl

  -- in the states that it changes
  pub visits-of_moves : (e : ℕ) → sum_below (λ r. visits_until trail e r n * (if is_same trail e r then 0 else 1)) trail.states ≡ moved_until trail e n
  visits-of_moves e =
      sum-of_counts (λ k. nat_eq (event_at trail k) e) (rank_before trail) (λ r. if is_same trail e r then 0 else 1) trail.states n (rank_at-small trail valid)
      ∙ times-same (λ k. if nat_eq (event_at trail k) e then (if is_same trail e (rank_before trail k) then 0 else 1) else 0)
      (λ k. if nat_eq (event_at trail k) e && not (is_same trail e (rank_before trail k)) then 1 else 0) n
      (λ k. moved (nat_eq (event_at trail (suc k)) e) (is_same trail e (rank_before trail (suc k))))
      ∙ times-count (λ k. nat_eq (event_at trail k) e && not (is_same trail e (rank_before trail k))) n

  -- all states together are left once in each step
  pub visits-of_all : sum_below (λ r. left_until trail r n) trail.states ≡ n
  visits-of_all =
      below-same (λ r. left_until trail r n) (λ r. left_until trail r n * 1) trail.states (λ r small. omega arith)
      ∙ sum-of_counts (λ k. true) (rank_before trail) (λ r. 1) trail.states n (rank_at-small trail valid)
      ∙ ones n

  pub left-few : (m : ℕ) → m ≤ trail.states → sum_below (λ r. left_until trail r n) m ≤ n
  left-few m order = (let more = below-longer (λ r. left_until trail r n) m trail.states order in let all = visits-of_all in omega arith)

-- ---- the path of a network

-- an event's function, or that of idle, makes states of states
pub each-closed : (caps : List ℕ) (functions : List (List ℕ → List ℕ)) (e : ℕ) → All (λ f. IsClosed caps f) functions → IsClosed caps (slice_index_or functions e (λ x. x))
each-closed caps functions e closed = elim (cases_lt e (length functions)) [
  | inl small ↦ closed e (λ x. x) small
  | inr past ↦ subst (λ (f : List ℕ → List ℕ). IsClosed caps f) (sym (get_or_past functions e (λ x. x) past)) (record { each = λ x within. within })
]

-- the trail of a path through a table
abbrev pub trail_of : Path → (steps states : ℕ) → List ℕ → ℕ → Trail
trail_of path steps states next first = record { rates = path.rates; words = path.words; steps = steps; states = states; next = next; first = first }

-- the table has the ranks of what the path's functions make of the states, and the first rank is that of its start
pub record IsTrailOf (caps : List ℕ) (path : Path) (steps states : ℕ) (next : List ℕ) (first : ℕ) : Type 0 where
  pub most : steps ≤ 4290772992
  pub few : length next ≤ 65536
  pub rows : AreRows caps path.functions (length path.functions + 1) next
  pub all : states ≡ length (all_states caps)
  pub count : length path.rates ≡ length path.functions
  pub closed : All (λ f. IsClosed caps f) path.functions
  pub small : first < length (all_states caps)
  pub start : state_at caps first ≡ path.start

module _ (caps : List ℕ) (path : Path) (steps states : ℕ) (next : List ℕ) (first : ℕ) (is : IsTrailOf caps path steps states next first) where
  abbrev trail : Trail
  trail = trail_of path steps states next first

  abbrev function : ℕ → List ℕ → List ℕ
  function e = slice_index_or path.functions e (λ x. x)

  -- an entry of the table
  image : (e r : ℕ) → e ≤ length path.rates → r < length (all_states caps)
      → slice_index next (e * states + r) ≡ rank_of caps (function e (state_at caps r))
  image e r row small =
      ap (λ n. slice_index next (e * n + r)) is.all ∙ is.rows.each e r (let c = is.count in omega arith) small

  image-small : (e r : ℕ) → e ≤ length path.rates → r < length (all_states caps) → slice_index next (e * states + r) < length (all_states caps)
  image-small e r row small =
      let below = (each-closed caps path.functions e is.closed).each (state_at caps r) (state_at-below caps r small) in
      let fits = rank_of-small caps (function e (state_at caps r)) below in
      let own = image e r row small in omega arith

  pub table-closed : (e r : ℕ) → e ≤ length path.rates → r < states → slice_index next (e * states + r) < states
  table-closed e r row small = (let s = is.all in let fits = image-small e r row (omega arith) in omega arith)

  pub is_trail : IsTrail trail
  is_trail = record {
    few = is.most;
    sized = is.rows.whole ∙ ap (λ n. (n + 1) * length (all_states caps)) (sym is.count) ∙ ap (λ n. (length path.rates + 1) * n) (sym is.all);
    small = is.few;
    closed = table-closed;
    inside = (let s = is.all in let f = is.small in omega arith);
  }

  small-at : (k : ℕ) → rank_at trail k < length (all_states caps)
  small-at k = (let s = is.all in let fits = rank_at-small trail is_trail k in omega arith)

  -- the state of the rank at a time is that of the path
  pub state-at : (k : ℕ) → state_at caps (rank_at trail k) ≡ state_of path k
  state-at zero = is.start
  state-at (suc k) =
      let e = event_after path (suc k) in
      let r = rank_at trail k in
      let below = (each-closed caps path.functions e is.closed).each (state_at caps r) (state_at-below caps r (small-at k)) in
      ap (λ n. state_at caps n) (image e r (event_at-small trail (suc k)) (small-at k))
      ∙ state_at-rank_of caps (function e (state_at caps r)) below
      ∙ ap (λ (x : List ℕ). function e x) (state-at k)

  pub state-within : (k : ℕ) → IsBelow (state_of path k) caps
  state-within k = subst (λ (x : List ℕ). IsBelow x caps) (state-at k) (state_at-below caps (rank_at trail k) (small-at k))

  -- customers, and the last state once more
  pub customers-are : (q n : ℕ) → sum_below (λ r. left_until trail r n * slice_index (state_at caps r) q) states + slice_index (state_at caps (rank_at trail n)) q
      ≡ customers_until path q n
  customers-are q n =
      ap (λ m. m + slice_index (state_at caps (rank_at trail n)) q)
      (sum-of_counts (λ k. true) (rank_before trail) (λ r. slice_index (state_at caps r) q) states n (rank_at-small trail is_trail))
      ∙ sum-of_all (λ k. slice_index (state_at caps (rank_at trail k)) q) (λ k. slice_index (state_at caps (rank_before trail k)) q) n (λ k. refl)
      ∙ until-same (λ k. slice_index (state_at caps (rank_at trail k)) q) (λ k. slice_index (state_of path k) q) n (λ k. ap (λ (x : List ℕ). slice_index x q) (state-at k))

  -- values
  pub worth-is : (worth : Worth) (n : ℕ)
      → integers_below (λ r. pos (left_until trail r n) *ℤ worth (state_at caps r)) states +ℤ worth (state_at caps (rank_at trail n)) ≡ worth_until path worth n
  worth-is worth n =
      ap (λ z. z +ℤ worth (state_at caps (rank_at trail n)))
      (integers-of_counts (rank_before trail) (λ r. worth (state_at caps r)) states n (rank_at-small trail is_trail))
      ∙ integers-of_all (λ k. worth (state_at caps (rank_at trail k))) (λ k. worth (state_at caps (rank_before trail k))) n (λ k. refl)
      ∙ integers-same (λ k. worth (state_at caps (rank_at trail k))) (λ k. worth (state_of path k)) n (λ k. ap worth (state-at k))

  -- the states of two ranks are the same where the ranks are
  same-ranks : (k : ℕ) → nat_eq (rank_at trail (suc k)) (rank_at trail k) ≡ pointwise nat_eq (state_of path (suc k)) (state_of path k)
  same-ranks k = elim (cases_Bool (nat_eq (rank_at trail (suc k)) (rank_at trail k))) [
    | inl so ↦ (let ranks = eqb-true (rank_at trail (suc k)) (rank_at trail k) so in
        let states : state_of path (suc k) ≡ state_of path k = sym (state-at (suc k)) ∙ ap (λ n. state_at caps n) ranks ∙ state-at k in
        so ∙ sym ((bytes_decides (state_of path (suc k)) (state_of path k)).1 states))
    | inr not_so ↦ elim (cases_Bool (pointwise nat_eq (state_of path (suc k)) (state_of path k))) [
      | inl same ↦ (let states = same-from_eq (state_of path (suc k)) (state_of path k) same in
          let ranks = state_at-apart caps (rank_at trail (suc k)) (rank_at trail k) (small-at (suc k)) (small-at k) (state-at (suc k) ∙ states ∙ sym (state-at k)) in
          let so = eq-eqb (rank_at trail (suc k)) (rank_at trail k) ranks in absurd cc)
      | inr apart ↦ not_so ∙ sym apart
    ]
  ]

  -- events that change the rank are those that change the state
  pub moves-are : (e n : ℕ) → moved_until trail e n ≡ changed_until path e n
  moves-are e n =
      count-same (λ k. nat_eq (event_after path k) e && not (is_same trail e (rank_before trail k))) (λ k. nat_eq (event_after path k) e && is_changed path k) n
      (λ k. elim (cases_Bool (nat_eq (event_after path (suc k)) e)) [
        | inl so ↦ (let own = eqb-true (event_after path (suc k)) e so in
            let row : is_same trail e (rank_at trail k) ≡ nat_eq (rank_at trail (suc k)) (rank_at trail k) =
            ap (λ n. nat_eq (slice_index next (n * states + rank_at trail k)) (rank_at trail k)) (sym own) in
            ap (λ b. nat_eq (event_after path (suc k)) e && not b) (row ∙ same-ranks k))
        | inr not_so ↦ ap (λ b. b && not (is_same trail e (rank_at trail k))) not_so ∙ sym (ap (λ b. b && is_changed path (suc k)) not_so)
      ])

-- ---- the trail of a network's path

-- each event of a network makes states of states
events-closed : {E : Type 0} (capacities : E → List ℕ) (function : E → List ℕ → List ℕ) (system : SystemParts E) → ((event : E) → IsClosed (capacities event) (function event))
    → All (λ event. capacities event ≡ system.caps) system.events → All (λ f. IsClosed system.caps f) (map function system.events)
events-closed {E} capacities function system closed same =
    All-map (IsClosed system.caps) function system.events
    (λ k d small. subst (λ (caps : List ℕ). IsClosed caps (function (slice_index_or system.events k d))) (same k d small) (closed (slice_index_or system.events k d)))

pub trail-made : {E : Type 0} (capacities : E → List ℕ) (function : E → List ℕ → List ℕ) (system : SystemParts E) (words : ℕ → ℕ) (start : List ℕ) (steps states : ℕ) (next : List ℕ) (first : ℕ) (table : Table)
    → ((event : E) → IsClosed (capacities event) (function event)) → IsSystem capacities system → IsTableOf system.caps (map function system.events) table → steps ≤ 4290772992
    → next ≡ table.ranks → states ≡ length (all_states system.caps) → IsRank system.caps start first
    → IsTrailOf system.caps (path_of function system words start) steps states next first
trail-made capacities function system words start steps states next first table closed fit is most same all rank = record {
  most = most;
  few = subst (λ (ns : List ℕ). length ns ≤ 65536) (sym same) is.few;
  rows = subst (λ (ns : List ℕ). AreRows system.caps (map function system.events) (length (map function system.events) + 1) ns) (sym same) is.rows;
  all = all;
  count = fit.same_count ∙ sym (length-map system.events function);
  closed = events-closed capacities function system closed fit.same_caps;
  small = rank.small;
  start = rank.state;
}
