-- A report of queues alone in which no line is wrong is that of samples.
use Rattle.std.specs.Prelude.{◌≡◌, ℕ, zero, suc, ◌+◌, ◌-◌, ◌<◌, ◌≤◌, List, [], ◌∷◌, ◌++◌, map, length, replicate, All, true, refl}
use Rattle.std.specs.List.{flat_map}
use Rattle.std.proofs.Common.{ap, sym, ◌∙◌, subst, arith}
use Rattle.std.proofs.lemmas.List.{append-nil, length-map, length-replicate}
use Rattle.std.proofs.lemmas.List.Elements.{All-nil, All-cons, All-head, All-tail, All-map, All-replicate}
use Rattle.psi_state.specs.State.{IsBelow}
use Rattle.psi_state.specs.declared.Outcome.{Outcome}
use Rattle.psi_state.specs.declared.Outcome.TheVariants.{Met, NotMet}
use Rattle.psi_net_model.specs.Name.{is_name}
use Rattle.psi_net_model.specs.Network.{Network, NamedReward, caps_of}
use Rattle.psi_kinds.specs.Refusals.{refusal_of}
use Rattle.psi_kinds.specs.declared.kinds.Kind.TheVariants.{Arrival}
use Rattle.psi_rate.specs.Rates.{AreRates}
use Rattle.psi_net_model.specs.Valid.{IsQueue, AreListed, IsAccepted, IsReward, IsNetwork}
use Rattle.psi_net_model.specs.declared.entries.NamedEvent.{NamedEvent}
use Rattle.psi_net_model.specs.declared.entries.Queue.{Queue}
use Rattle.psi_report.specs.Samples.{IsHorizon, IsSampleOf, met_states, met_horizons}
use Rattle.psi_report.specs.Quantities.{queues_from}
use Rattle.psi_report.specs.declared.figure.Item.TheVariants.{Sum}
use Rattle.psi_report.specs.declared.figure.Figure.{Figure}
use Rattle.psi_report.specs.Contents.{Contents}
use Rattle.psi_report.specs.Report.{queue_trio, reward_trio, quantity_figures, contents_of}
use Rattle.psi_report_reader.specs.Samples.{AreNames, IsDescribed}
use Rattle.psi_report.specs.Text.{text_of}
use Rattle.psi_report_reader.specs.Reached.{IsReached, QueueReportsAreReached}
use Rattle.psi_report_reader.proofs.ColumnLemmas.{rows_of, length-rows, HaveColumns, have-columns, rows-below}
use Rattle.psi_report_reader.proofs.HorizonReachLemmas.{AreCounted, horizons-reached}
use Rattle.psi_report_reader.proofs.FigureReachLemmas.{Held, held_figures, AreHeld, figures-held, names-held}
use Rattle.psi_report_reader.proofs.RightLemmas.{right-parts}
use Rattle.psi_report_reader.proofs.ShownLemmas.{HaveNames, names-shown, map-twice}
use Rattle.psi_report_reader.proofs.SumNamesLemmas.{names}

-- ---- samples of these horizons and states, and others that aren't met

abbrev unmet : ℕ → List Outcome
unmet k = replicate k (NotMet 0)

abbrev samples : ℕ → List ℕ → List (List ℕ) → List Outcome
samples k [] xs = unmet k
samples k (t ∷ ts) [] = unmet k
samples k (t ∷ ts) (x ∷ xs) = Met t x ∷ samples k ts xs

unmet-none : (k : ℕ) → (met_states (unmet k) ≡ []) × (met_horizons (unmet k) ≡ [])
unfolding met_states met_horizons
unmet-none zero = (refl, refl)
unmet-none (suc k) = unmet-none k

length-samples : (k : ℕ) (ts : List ℕ) (xs : List (List ℕ)) → length ts ≡ length xs → length (samples k ts xs) ≡ length xs + k
length-samples k [] [] same = length-replicate k (NotMet 0) ∙ (omega arith)
length-samples k [] (x ∷ xs) same = absurd (omega arith)
length-samples k (t ∷ ts) [] same = absurd (omega arith)
length-samples k (t ∷ ts) (x ∷ xs) same = (let rest = length-samples k ts xs (omega arith) in omega arith)

samples-of : (k : ℕ) (ts : List ℕ) (xs : List (List ℕ)) → length ts ≡ length xs → (met_states (samples k ts xs) ≡ xs) × (met_horizons (samples k ts xs) ≡ ts)
unfolding met_states met_horizons
samples-of k [] [] same = unmet-none k
samples-of k [] (x ∷ xs) same = absurd (omega arith)
samples-of k (t ∷ ts) [] same = absurd (omega arith)
samples-of k (t ∷ ts) (x ∷ xs) same = (let rest = samples-of k ts xs (omega arith) in (ap (λ ys. x ∷ ys) rest.0, ap (λ ys. t ∷ ys) rest.1))

samples-are : (net : Network) (k : ℕ) (ts : List ℕ) (xs : List (List ℕ)) → All IsHorizon ts → All (λ x. IsBelow x (caps_of net)) xs → All (IsSampleOf net) (samples k ts xs)
samples-are net k [] xs horizons states = All-replicate (IsSampleOf net) k (NotMet 0) tt
samples-are net k (t ∷ ts) [] horizons states = All-replicate (IsSampleOf net) k (NotMet 0) tt
samples-are net k (t ∷ ts) (x ∷ xs) horizons states =
    All-cons (IsSampleOf net) (Met t x) (samples k ts xs) (All-head IsHorizon t ts horizons, All-head (λ y. IsBelow y (caps_of net)) x xs states)
    (samples-are net k ts xs (All-tail IsHorizon t ts horizons) (All-tail (λ y. IsBelow y (caps_of net)) x xs states))

-- ---- a network of these queues

abbrev queue_of : Held → Queue
queue_of h = record { name = h.name; capacity = 65535; servers = 1 }

-- customers arrive in the first of them
abbrev arrival : NamedEvent
arrival = record { name = 97 ∷ []; server = 1; rate = 1; kind = Arrival (0 ∷ []) }

abbrev network_of : List Held → Network
network_of queues = record { queues = map queue_of queues; events = arrival ∷ []; limit = 22; split = 1; rewards = [] }

rate-is : AreRates (1 ∷ [])
rate-is = record {
  some = omega arith;
  few = omega arith;
  least = λ i less. All-replicate (λ r. 1 ≤ r) 1 1 (omega arith) i 0 less;
  most = λ i less. All-replicate (λ r. r ≤ 1048576) 1 1 (omega arith) i 0 less;
  bounded = omega arith;
}

arrival-is : (caps : List ℕ) → 1 ≤ length caps → IsAccepted caps arrival.kind
unfolding refusal_of
arrival-is caps some = record { named = λ i less. All-replicate (λ queue. queue < length caps) 1 0 (omega arith) i 0 less; accepted = refl }

abbrev columns_of : List Held → List (List ℕ)
columns_of queues = map (λ (h : Held). h.numbers) queues

caps-are : (queues : List Held) → caps_of (network_of queues) ≡ replicate (length (columns_of queues)) 65535
caps-are [] = refl
caps-are (h ∷ queues) = ap (λ caps. 65535 ∷ caps) (caps-are queues)

queues-are : (queues : List Held) → All IsQueue (map queue_of queues)
queues-are queues = All-map IsQueue queue_of queues (λ k d less. record { some = omega arith; most = omega arith; served = omega arith; servers = omega arith; fits = omega arith })

-- the figures of rows that have these columns
figures-are : (i : ℕ) (rows : List (List ℕ)) (queues : List Held) → HaveColumns i rows (columns_of queues)
    → flat_map (quantity_figures queue_trio rows) (queues_from i (map queue_of queues)) ≡ flat_map held_figures queues
unfolding queues_from
figures-are i rows [] have = refl
figures-are i rows (h ∷ queues) have =
    let place : i + 1 ≡ suc i = omega arith in
    rw (have.0, place) (ap (λ fs. held_figures h ++ fs) (figures-are (suc i) rows queues have.1))

module _ (n : ℕ) (figures : List Figure) (held : AreHeld n figures) (shown : HaveNames figures) where
  abbrev net : Network
  net = network_of held.queues

  abbrev rows : List (List ℕ)
  rows = rows_of n (columns_of held.queues)

  columns-long : All (λ vs. length vs ≡ n) (columns_of held.queues)
  columns-long = All-map (λ vs. length vs ≡ n) (λ (h : Held). h.numbers) held.queues held.long

  columns-few : All (All (λ v. v ≤ 65535)) (columns_of held.queues)
  columns-few = All-map (All (λ v. v ≤ 65535)) (λ (h : Held). h.numbers) held.queues held.few

  rows-long : length rows ≡ n
  rows-long = length-rows n (columns_of held.queues) columns-long

  rows-within : All (λ x. IsBelow x (caps_of net)) rows
  rows-within = subst (λ (caps : List ℕ). All (λ x. IsBelow x caps) rows) (sym (caps-are held.queues)) (rows-below 65535 n (columns_of held.queues) columns-few)

  names-same : names Sum figures ≡ map (λ (h : Held). h.name) held.queues
  names-same = ap (names Sum) (sym held.same) ∙ names-held held.queues

  listed : AreListed net.queues
  listed =
      let long = ap length names-same ∙ length-map held.queues (λ (h : Held). h.name) in
      record { some = rw length-map (omega arith); few = rw length-map (omega arith); each = queues-are held.queues }

  kept : IsNetwork net
  kept = record {
    queues = listed;
    rates = rate-is;
    kinds = All-cons (λ (e : NamedEvent). IsAccepted (caps_of net) e.kind) arrival [] (arrival-is (caps_of net) (rw length-map listed.some)) (All-nil (λ (e : NamedEvent). IsAccepted (caps_of net) e.kind));
    limit = omega arith;
    some_split = omega arith;
    most_split = omega arith;
    few_rewards = omega arith;
  }

  described : IsDescribed net
  described = record {
    queues = listed;
    queue_names = subst (λ (names : List (List ℕ)). AreNames names) (names-same ∙ sym (map-twice (λ (q : Queue). q.name) queue_of held.queues)) shown.queues.are;
    few_rewards = omega arith;
    rewards = All-nil (λ (r : NamedReward). IsReward (caps_of net) r.kind);
    reward_names = record { each = All-nil (λ name. is_name name ≡ true); differ = tt };
  }

  rows-figures : flat_map (quantity_figures queue_trio rows) (queues_from 0 net.queues) ++ flat_map (quantity_figures reward_trio rows) [] ≡ figures
  rows-figures =
      append-nil (flat_map (quantity_figures queue_trio rows) (queues_from 0 net.queues))
      ∙ figures-are 0 rows held.queues (have-columns n (columns_of held.queues) columns-long) ∙ held.same

  reached : (c : Contents) → c.figures ≡ figures → c.met ≡ n → c.met ≤ c.samples → (counted : AreCounted n c.horizons) → IsReached c
  unfolding contents_of
  reached c same met few counted =
      let long : length counted.horizons ≡ length rows = counted.count ∙ sym rows-long in
      let outcomes : List Outcome = samples (c.samples - c.met) counted.horizons rows in
      let all = length-samples (c.samples - c.met) counted.horizons rows long in
      let count = rows-long in
      let whole : length outcomes ≡ c.samples = omega arith in
      let both = samples-of (c.samples - c.met) counted.horizons rows long in
      let own : length rows ≡ c.met = rows-long ∙ sym met in
      let told : contents_of net outcomes ≡ c = rw (whole, both.0, both.1, own, counted.counts, rows-figures, ← same) refl in
      record {
        net = net;
        outcomes = outcomes;
        kept = kept;
        are = record { network = described; samples = samples-are net (c.samples - c.met) counted.horizons rows counted.each rows-within };
        contents = told;
        text = ap text_of told;
      }

pub queue_reports_reached : QueueReportsAreReached
queue_reports_reached c is queues none =
    let rights = right-parts c none in
    reached c.met c.figures (figures-held c.met c.figures queues rights.figures) (names-shown c.met c.figures is.figures rights.figures) c refl refl rights.few
    (horizons-reached c.met c.horizons rights.horizons)
