-- What the report of samples tells can be read back.
use Rattle.std.specs.Prelude.{◌≡◌, ℕ, ◌*◌, ◌^◌, ◌<◌, ◌≤◌, ℤ, List, [], ◌∷◌, map, length, All, ◌==◌, nat_lt, true}
use Rattle.std.specs.Int.RustNames.{unsigned_abs}
use Rattle.std.specs.List.{flat_map}
use Rattle.std.proofs.Common.{arith}
use Rattle.std.proofs.Math.Nat.{suc-mul, mul-le-mul_right}
use Rattle.std.proofs.lemmas.Bool.{cond_both}
use Rattle.std.proofs.lemmas.Int.{ints}
use Rattle.std.proofs.lemmas.List.{length-map}
use Rattle.std.proofs.lemmas.List.Elements.{All-nil, All-cons, All-head, All-tail, All-append, All-map, All-weaker}
use Rattle.std.proofs.lemmas.List.Sums.{count_by-le-length}
use Rattle.psi_state.specs.declared.Outcome.{Outcome}
use Rattle.psi_net_model.specs.Name.{is_name}
use Rattle.psi_net_model.specs.Network.{Network}
use Rattle.psi_reward.specs.Ranges.{least, greatest}
use Rattle.psi_report.specs.Samples.{met_states, met_horizons}
use Rattle.psi_report.specs.Distinct.{insert_number, distinct}
use Rattle.psi_report.specs.Quantities.{Quantity, queue_quantities, reward_quantities, sum_of}
use Rattle.psi_report.specs.Report.{Trio, times, queue_trio, reward_trio, figure, figures_of, quantity_figures, horizon_count, contents_of}
use Rattle.psi_report.proofs.TotalsLemmas.{length-met_states, length-met_horizons}
use Rattle.psi_report_reader.specs.Reading.{IsReport}
use Rattle.psi_report_reader.specs.Small.{IsMeasured, AreSamples, ReportIsRead}
use Rattle.psi_report_reader.proofs.FieldLemmas.{FitsCount, FitsFigure}
use Rattle.psi_report_reader.proofs.WorthLemmas.{least-has, greatest-has}
use Rattle.psi_report_reader.proofs.ReadLemmas.{text_is_read}

-- what holds of the numbers of a list, holds of them in their order
insert-all : (P : ℕ → Type 0) (n : ℕ) (ms : List ℕ) → P n → All P ms → All P (insert_number n ms)
insert-all P n [] here all = All-cons P n [] here (All-nil P)
insert-all P n (m ∷ ms) here all =
    cond_both (n == m) (m ∷ ms) _ (All P) (λ e. all)
    (λ e. cond_both (nat_lt n m) (n ∷ m ∷ ms) (m ∷ insert_number n ms) (All P) (λ less. All-cons P n (m ∷ ms) here all)
    (λ more. All-cons P m (insert_number n ms) (All-head P m ms all) (insert-all P n ms here (All-tail P m ms all))))

pub distinct-all : (P : ℕ → Type 0) (ns : List ℕ) → All P ns → All P (distinct ns)
unfolding distinct
distinct-all P [] all = All-nil P
distinct-all P (n ∷ ns) all = insert-all P n (distinct ns) (All-head P n ns all) (distinct-all P ns (All-tail P n ns all))

-- values of a magnitude of at most b
module _ (b : ℕ) where
  abbrev pub IsMost : ℤ → Type 0
  IsMost z = unsigned_abs z ≤ b

  -- a quantity has a name, and such values at these states
  abbrev pub IsMostAt : List (List ℕ) → Quantity → Type 0
  IsMostAt states q = (is_name q.name ≡ true) × All IsMost (map q.value states)

  sum-most : (zs : List ℤ) → All IsMost zs → unsigned_abs (sum_of zs) ≤ length zs * b
  unfolding sum_of
  sum-most [] all = omega (arith, ints)
  sum-most (z ∷ zs) all = rw (suc-mul (length zs) b) (omega (arith, ints, All-head IsMost z zs all, sum-most zs (All-tail IsMost z zs all)))

  -- of which there are at most n
  module _ (n : ℕ) (fits : n * b < 10 ^ 37) (one_fits : b < 10 ^ 37) where
    values-fit : (trio : Trio) (name : List ℕ) (zs : List ℤ) → is_name name ≡ true → length zs ≤ n → All IsMost zs → All FitsFigure (figures_of trio name zs)
    values-fit trio name [] is few all =
        let sum = sum-most [] all in
        All-cons FitsFigure (figure trio.sum name (sum_of [])) [] (is, omega arith) (All-nil FitsFigure)
    values-fit trio name (z ∷ zs) is few all =
        let sum = sum-most (z ∷ zs) all in
        let most : length (z ∷ zs) * b ≤ n * b = mul-le-mul_right b few in
        let low : unsigned_abs (least (z ∷ zs)) ≤ b = least-has IsMost z zs all in
        let high : unsigned_abs (greatest (z ∷ zs)) ≤ b = greatest-has IsMost z zs all in
        let second = figure trio.least name (least (z ∷ zs)) in
        let third = figure trio.greatest name (greatest (z ∷ zs)) in
        All-cons FitsFigure (figure trio.sum name (sum_of (z ∷ zs))) (second ∷ third ∷ []) (is, omega arith)
        (All-cons FitsFigure second (third ∷ []) (is, omega arith) (All-cons FitsFigure third [] (is, omega arith) (All-nil FitsFigure)))

    figures-fit : (trio : Trio) (states : List (List ℕ)) (qs : List Quantity) → length states ≤ n → All (IsMostAt states) qs → All FitsFigure (flat_map (quantity_figures trio states) qs)
    figures-fit trio states [] few all = All-nil FitsFigure
    figures-fit trio states (q ∷ qs) few all =
        let here : IsMostAt states q = All-head (IsMostAt states) q qs all in
        let long : length (map q.value states) ≡ length states = length-map states q.value in
        All-append FitsFigure (quantity_figures trio states q) (flat_map (quantity_figures trio states) qs)
        (values-fit trio q.name (map q.value states) here.0 (omega arith) here.1)
        (figures-fit trio states qs few (All-tail (IsMostAt states) q qs all))

    pub told-fit : (net : Network) (outcomes : List Outcome) → length outcomes < 2 ^ 64 → length outcomes ≤ n → All (λ t. t < 2 ^ 64) (met_horizons outcomes)
        → All (IsMostAt (met_states outcomes)) (queue_quantities net) → All (IsMostAt (met_states outcomes)) (reward_quantities net) → IsReport (contents_of net outcomes)
    unfolding contents_of
    told-fit net outcomes small few steps queues rewards =
        let met = length-met_states outcomes in
        let horizons = length-met_horizons outcomes in
        let hs = met_horizons outcomes in
        let count : (t : ℕ) → times t hs ≤ length hs = λ t. count_by-le-length (λ m. m == t) hs in
        let short : (t : ℕ) → times t hs < 2 ^ 64 = λ t. (let one = count t in omega arith) in
        record {
          samples = omega arith;
          met = omega arith;
          horizons = All-map FitsCount (horizon_count hs) (distinct hs)
              (All-weaker (λ t. t < 2 ^ 64) (λ t. FitsCount (horizon_count hs t)) (λ t small. (small, short t)) (distinct hs) (distinct-all (λ t. t < 2 ^ 64) hs steps));
          figures = All-append FitsFigure (flat_map (quantity_figures queue_trio (met_states outcomes)) (queue_quantities net))
              (flat_map (quantity_figures reward_trio (met_states outcomes)) (reward_quantities net))
              (figures-fit queue_trio (met_states outcomes) (queue_quantities net) (omega arith) queues)
              (figures-fit reward_trio (met_states outcomes) (reward_quantities net) (omega arith) rewards);
        }

-- values of 64 bits of less than 2^32 samples
measured-most : (states : List (List ℕ)) (qs : List Quantity) → All (IsMeasured states) qs → All (IsMostAt (2 ^ 63) states) qs
measured-most states qs all = All-weaker (IsMeasured states) (IsMostAt (2 ^ 63) states) (λ q is. (is.name, is.values)) qs all

pub contents-fit : (net : Network) (outcomes : List Outcome) → AreSamples net outcomes → IsReport (contents_of net outcomes)
contents-fit net outcomes are =
    let few = are.few in
    told-fit (2 ^ 63) (2 ^ 32) (omega arith) (omega arith) net outcomes (omega arith) (omega arith) are.horizons (measured-most (met_states outcomes) (queue_quantities net) are.queues)
    (measured-most (met_states outcomes) (reward_quantities net) are.rewards)

pub report_is_read : ReportIsRead
report_is_read net outcomes are = text_is_read (contents_of net outcomes) (contents-fit net outcomes are)
