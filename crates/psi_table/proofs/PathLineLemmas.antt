-- The line of a path is what is written of it piece by piece.
use Rattle.std.specs.Prelude.{◌≡◌, ℕ, zero, suc, ◌+◌, ◌*◌, ◌^◌, ◌<◌, ◌≤◌, ℤ, pos, negsuc, ◌+ℤ◌, List, [], ◌∷◌, ◌++◌, map, length, replicate, slice_index, slice_index_or, All, false, refl}
use Rattle.std.specs.Fmt.{decimal, signed_decimal}
use Rattle.std.specs.Int.RustNames.{unsigned_abs}
use Rattle.std.specs.List.{flat_map}
use Rattle.std.proofs.Common.{sym, ◌∙◌, ap, append_assoc, append-nil, arith}
use Rattle.std.proofs.lemmas.Fmt.{decimal_is_IsNumeral_wide}
use Rattle.std.proofs.lemmas.Grind.{flat_map-append}
use Rattle.std.proofs.lemmas.List.{length-append, length-map, map-append}
use Rattle.std.proofs.lemmas.List.Elements.{All-nil, All-cons, All-append}
use Rattle.csv.specs.Writing.{row_text, default_writer, needs_quotes, is_blank}
use Rattle.psi_state.specs.declared.Outcome.TheVariants.{Met, NotMet}
use Rattle.psi_reward.specs.Worth.{worth_of}
use Rattle.psi_path.specs.Path.{Path, state_of}
use Rattle.psi_path.specs.Sums.{Sums, worth_at, customers_until, worth_until, chosen_until, changed_until}
use Rattle.psi_net_model.specs.Network.{Network, NamedReward}
use Rattle.psi_net_model.specs.declared.entries.Queue.{Queue}
use Rattle.psi_net_model.specs.declared.entries.NamedEvent.{NamedEvent}
use Rattle.psi_report.specs.Quantities.{Quantity, queues_from, queue_quantities, reward_quantities}
use Rattle.psi_table.specs.Table.{quantities}
use Rattle.psi_table.specs.Lines.{behind, IsPlainField}
use Rattle.psi_table.specs.Paths.{stream_path, sum_fields, count_fields, path_row, AreSumsOf}
use Rattle.psi_table.specs.PathLines.{path_line, pieces, customers_piece, reward_piece, event_piece}
use Rattle.psi_report.proofs.StandsLemmas.{length-queues_from}
use Rattle.psi_table.proofs.LineLemmas.{digits-field, number-field, fields-behind, empty-plain, commas, unmet-pieces}

-- ---- pieces

pub pieces-same : (f g : ℕ → List ℕ) (n : ℕ) → ((k : ℕ) → f k ≡ g k) → pieces f n ≡ pieces g n
pieces-same f g zero same = refl
pieces-same f g (suc n) same = ap (λ (xs : List ℕ). xs ++ f n) (pieces-same f g n same) ∙ ap (λ (xs : List ℕ). pieces g n ++ xs) (same n)

pieces-first : (f : ℕ → List ℕ) (n : ℕ) → pieces f (suc n) ≡ f 0 ++ pieces (λ k. f (suc k)) n
pieces-first f zero = sym (append-nil (f 0))
pieces-first f (suc n) = ap (λ (xs : List ℕ). xs ++ f (suc n)) (pieces-first f n) ∙ append_assoc (f 0) (pieces (λ k. f (suc k)) n) (f (suc n))

-- ---- fields that numbers have, the first of which is this one

abbrev fields_from : (ℕ → List ℕ) → ℕ → ℕ → List (List ℕ)
fields_from f i zero = []
fields_from f i (suc n) = f i ∷ fields_from f (suc i) n

behind-from : (f : ℕ → List ℕ) (i n : ℕ) → behind (fields_from f i n) ≡ pieces (λ k. 44 ∷ f (i + k)) n
behind-from f i zero = refl
behind-from f i (suc n) =
    let here : i ≡ i + 0 = omega arith in
    ap (λ (xs : List ℕ). (44 ∷ f i) ++ xs) (behind-from f (suc i) n)
    ∙ ap (λ (xs : List ℕ). (44 ∷ f i) ++ xs)
    (pieces-same (λ k. 44 ∷ f (suc i + k)) (λ k. 44 ∷ f (i + suc k)) n (λ k. (let e : suc i + k ≡ i + suc k = omega arith in ap (λ m. 44 ∷ f m) e)))
    ∙ ap (λ m. (44 ∷ f m) ++ pieces (λ k. 44 ∷ f (i + suc k)) n) here
    ∙ sym (pieces-first (λ k. 44 ∷ f (i + k)) n)

behind-all : (f : ℕ → List ℕ) (n : ℕ) → behind (fields_from f 0 n) ≡ pieces (λ k. 44 ∷ f k) n
behind-all f n = behind-from f 0 n ∙ pieces-same (λ k. 44 ∷ f (0 + k)) (λ k. 44 ∷ f k) n (λ k. (let e : 0 + k ≡ k = omega arith in ap (λ m. 44 ∷ f m) e))

plain-from : (f : ℕ → List ℕ) (i n : ℕ) → ((k : ℕ) → k < i + n → IsPlainField (f k)) → All IsPlainField (fields_from f i n)
plain-from f i zero plain = All-nil IsPlainField
plain-from f i (suc n) plain =
    All-cons IsPlainField (f i) (fields_from f (suc i) n) (plain i (omega arith)) (plain-from f (suc i) n (λ k small. plain k (omega arith)))

-- two fields of each

abbrev pairs_from : (f g : ℕ → List ℕ) → ℕ → ℕ → List (List ℕ)
pairs_from f g i zero = []
pairs_from f g i (suc n) = f i ∷ g i ∷ pairs_from f g (suc i) n

behind-pairs : (f g : ℕ → List ℕ) (i n : ℕ) → behind (pairs_from f g i n) ≡ pieces (λ k. (44 ∷ f (i + k)) ++ (44 ∷ g (i + k))) n
behind-pairs f g i zero = refl
behind-pairs f g i (suc n) =
    let here : i ≡ i + 0 = omega arith in
    let piece : ℕ → List ℕ = λ m. (44 ∷ f m) ++ (44 ∷ g m) in
    ap (λ (xs : List ℕ). (44 ∷ f i) ++ ((44 ∷ g i) ++ xs)) (behind-pairs f g (suc i) n)
    ∙ sym (append_assoc (44 ∷ f i) (44 ∷ g i) (pieces (λ k. piece (suc i + k)) n))
    ∙ ap (λ (xs : List ℕ). piece i ++ xs) (pieces-same (λ k. piece (suc i + k)) (λ k. piece (i + suc k)) n (λ k. (let e : suc i + k ≡ i + suc k = omega arith in ap piece e)))
    ∙ ap (λ m. piece m ++ pieces (λ k. piece (i + suc k)) n) here
    ∙ sym (pieces-first (λ k. piece (i + k)) n)

plain-pairs : (f g : ℕ → List ℕ) (i n : ℕ) → ((k : ℕ) → k < i + n → IsPlainField (f k)) → ((k : ℕ) → k < i + n → IsPlainField (g k)) → All IsPlainField (pairs_from f g i n)
plain-pairs f g i zero plain also = All-nil IsPlainField
plain-pairs f g i (suc n) plain also =
    All-cons IsPlainField (f i) (g i ∷ pairs_from f g (suc i) n) (plain i (omega arith))
    (All-cons IsPlainField (g i) (pairs_from f g (suc i) n) (also i (omega arith))
    (plain-pairs f g (suc i) n (λ k small. plain k (omega arith)) (λ k small. also k (omega arith))))

-- ---- the fields of a path are those of its sums

customers-worth : (path : Path) (q n : ℕ) → worth_until path (λ state. pos (slice_index state q)) n ≡ pos (customers_until path q n)
customers-worth path q zero = refl
customers-worth path q (suc n) = ap (λ z. z +ℤ pos (slice_index (state_of path (suc n)) q)) (customers-worth path q n)

abbrev worth : NamedReward → Quantity
worth r = record { name = r.name; value = worth_of r.kind }

module _ (path : Path) (steps : ℕ) (sums : Sums) where
  abbrev customers_field : ℕ → List ℕ
  customers_field q = decimal (slice_index sums.queues q)

  abbrev reward_field : ℕ → List ℕ
  reward_field r = signed_decimal (slice_index_or sums.rewards r (pos 0))

  abbrev chosen_field : ℕ → List ℕ
  chosen_field e = decimal (slice_index sums.chosen e)

  abbrev changed_field : ℕ → List ℕ
  changed_field e = decimal (slice_index sums.changed e)

  queue-fields : (i : ℕ) (queues : List Queue) → ((q : ℕ) → q < i + length queues → slice_index sums.queues q ≡ customers_until path q steps)
      → sum_fields path steps (queues_from i queues) ≡ fields_from customers_field i (length queues)
  unfolding queues_from
  queue-fields i [] are = refl
  queue-fields i (queue ∷ queues) are =
      let here : slice_index sums.queues i ≡ customers_until path i steps = are i (omega arith) in
      let next : i + 1 ≡ suc i = omega arith in
      ap (λ (f : List ℕ). f ∷ sum_fields path steps (queues_from (i + 1) queues)) (ap signed_decimal (customers-worth path i steps) ∙ ap decimal (sym here))
      ∙ ap (λ (fs : List (List ℕ)). customers_field i ∷ fs) (ap (λ m. sum_fields path steps (queues_from m queues)) next ∙ queue-fields (suc i) queues (λ q small. are q (omega arith)))

  reward-fields : (i : ℕ) (rewards : List NamedReward)
      → ((r : ℕ) → r < length rewards → slice_index_or sums.rewards (i + r) (pos 0) ≡ worth_until path (worth_at (map (λ (v : NamedReward). worth_of v.kind) rewards) r) steps)
      → sum_fields path steps (map worth rewards) ≡ fields_from reward_field i (length rewards)
  reward-fields i [] are = refl
  reward-fields i (r ∷ rewards) are =
      let start : i + 0 ≡ i = omega arith in
      let here : slice_index_or sums.rewards i (pos 0) ≡ worth_until path (worth_of r.kind) steps =
      sym (ap (λ m. slice_index_or sums.rewards m (pos 0)) start) ∙ are 0 (omega arith) in
      ap (λ (f : List ℕ). f ∷ sum_fields path steps (map worth rewards)) (ap signed_decimal (sym here))
      ∙ ap (λ (fs : List (List ℕ)). reward_field i ∷ fs)
      (reward-fields (suc i) rewards (λ k small. (let e : suc i + k ≡ i + suc k = omega arith in ap (λ m. slice_index_or sums.rewards m (pos 0)) e ∙ are (suc k) (omega arith))))

  event-fields : (i : ℕ) (events : List NamedEvent) → ((e : ℕ) → e < i + length events → slice_index sums.chosen e ≡ chosen_until path e steps)
      → ((e : ℕ) → e < i + length events → slice_index sums.changed e ≡ changed_until path e steps)
      → count_fields path steps i events ≡ pairs_from chosen_field changed_field i (length events)
  unfolding count_fields
  event-fields i [] are also = refl
  event-fields i (event ∷ events) are also =
      ap (λ n. decimal n ∷ decimal (changed_until path i steps) ∷ count_fields path steps (suc i) events) (sym (are i (omega arith)))
      ∙ ap (λ n. chosen_field i ∷ decimal n ∷ count_fields path steps (suc i) events) (sym (also i (omega arith)))
      ∙ ap (λ (fs : List (List ℕ)). chosen_field i ∷ changed_field i ∷ fs) (event-fields (suc i) events (λ e small. are e (omega arith)) (λ e small. also e (omega arith)))

-- ---- no field needs quotes

wide-number : (n : ℕ) → n ≤ 2 ^ 127 → IsPlainField (decimal n)
wide-number n few = digits-field (decimal n) (decimal_is_IsNumeral_wide n (omega arith)).0.1

wide-field : (z : ℤ) → unsigned_abs z ≤ 2 ^ 127 → IsPlainField (signed_decimal z)
wide-field (pos n) few = wide-number n few
wide-field (negsuc n) few = wide-number (suc n) few

row-of : (stream : ℕ) (field : List ℕ) (fields : List (List ℕ)) → stream < 2 ^ 64 → All IsPlainField (field ∷ fields)
    → row_text default_writer (decimal stream ∷ field ∷ fields) ≡ (decimal stream ++ behind (field ∷ fields)) ++ 10 ∷ []
unfolding is_blank
row-of stream field fields few plain =
    let first : needs_quotes default_writer (decimal stream) ≡ false = number-field stream few in
    rw (first, fields-behind (field ∷ fields) plain) refl

walked-pieces : (old stream horizon steps queues rewards events feed : List ℕ)
    → ((((((old ++ stream) ++ horizon) ++ steps) ++ queues) ++ rewards) ++ events) ++ feed
    ≡ old ++ ((stream ++ (horizon ++ (steps ++ ((queues ++ rewards) ++ events)))) ++ feed)
walked-pieces old stream horizon steps queues rewards events feed = simp append_assoc

-- what is known of the sums that are written
pub record AreSmall (net : Network) (sums : Sums) : Type 0 where
  pub queues : (q : ℕ) → q < length net.queues → slice_index sums.queues q < 2 ^ 64
  pub rewards : (r : ℕ) → r < length net.rewards → unsigned_abs (slice_index_or sums.rewards r (pos 0)) ≤ 2 ^ 127
  pub chosen : (e : ℕ) → e < length net.events → slice_index sums.chosen e < 2 ^ 64
  pub changed : (e : ℕ) → e < length net.events → slice_index sums.changed e < 2 ^ 64

module _ (net : Network) (path : Path) (steps : ℕ) (sums : Sums) (are : AreSumsOf net path steps sums) where
  abbrev queue_fields : List (List ℕ)
  queue_fields = fields_from (customers_field path steps sums) 0 (length net.queues)

  abbrev reward_fields : List (List ℕ)
  reward_fields = fields_from (reward_field path steps sums) 0 (length net.rewards)

  abbrev event_fields : List (List ℕ)
  event_fields = pairs_from (chosen_field path steps sums) (changed_field path steps sums) 0 (length net.events)

  quantities-told : sum_fields path steps (quantities net) ≡ queue_fields ++ reward_fields
  quantities-told =
      let queues = queue-fields path steps sums 0 net.queues (λ q small. are.queues q (omega arith)) in
      let rewards = reward-fields path steps sums 0 net.rewards (λ r small. (let e : 0 + r ≡ r = omega arith in ap (λ m. slice_index_or sums.rewards m (pos 0)) e ∙ are.rewards r small)) in
      map-append (λ (q : Quantity). signed_decimal (worth_until path q.value steps)) (queue_quantities net) (reward_quantities net)
      ∙ (ap (λ (fs : List (List ℕ)). fs ++ sum_fields path steps (reward_quantities net)) queues ∙ ap (λ (fs : List (List ℕ)). queue_fields ++ fs) rewards)

  events-told : count_fields path steps 0 net.events ≡ event_fields
  events-told = event-fields path steps sums 0 net.events (λ e small. are.chosen e (omega arith)) (λ e small. are.changed e (omega arith))

  all-behind : behind ((queue_fields ++ reward_fields) ++ event_fields)
      ≡ (pieces (customers_piece sums) (length net.queues) ++ pieces (reward_piece sums) (length net.rewards)) ++ pieces (event_piece sums) (length net.events)
  all-behind =
      let queues = behind-all (customers_field path steps sums) (length net.queues) in
      let rewards = behind-all (reward_field path steps sums) (length net.rewards) in
      let events = behind-pairs (chosen_field path steps sums) (changed_field path steps sums) 0 (length net.events)
      ∙ pieces-same (λ k. event_piece sums (0 + k)) (event_piece sums) (length net.events) (λ k. (let e : 0 + k ≡ k = omega arith in ap (event_piece sums) e)) in
      flat_map-append (λ (field : List ℕ). 44 ∷ field) (queue_fields ++ reward_fields) event_fields
      ∙ ap (λ (xs : List ℕ). xs ++ behind event_fields) (flat_map-append (λ (field : List ℕ). 44 ∷ field) queue_fields reward_fields)
      ∙ ap (λ (xs : List ℕ). (xs ++ behind reward_fields) ++ behind event_fields) queues
      ∙ ap (λ (xs : List ℕ). (pieces (customers_piece sums) (length net.queues) ++ xs) ++ behind event_fields) rewards
      ∙ ap (λ (xs : List ℕ). (pieces (customers_piece sums) (length net.queues) ++ pieces (reward_piece sums) (length net.rewards)) ++ xs) events

  all-plain : AreSmall net sums → All IsPlainField ((queue_fields ++ reward_fields) ++ event_fields)
  all-plain small =
      let queues = plain-from (customers_field path steps sums) 0 (length net.queues) (λ q few. number-field (slice_index sums.queues q) (small.queues q (omega arith))) in
      let rewards = plain-from (reward_field path steps sums) 0 (length net.rewards) (λ r few. wide-field (slice_index_or sums.rewards r (pos 0)) (small.rewards r (omega arith))) in
      let events = plain-pairs (chosen_field path steps sums) (changed_field path steps sums) 0 (length net.events)
      (λ e few. number-field (slice_index sums.chosen e) (small.chosen e (omega arith))) (λ e few. number-field (slice_index sums.changed e) (small.changed e (omega arith))) in
      All-append IsPlainField (queue_fields ++ reward_fields) event_fields (All-append IsPlainField queue_fields reward_fields queues rewards) events

pub line_walked : (old : List ℕ) (net : Network) (seed steps stream horizon : ℕ) (state : List ℕ) (sums : Sums) → stream < 2 ^ 64 → horizon < 2 ^ 32 → steps < 2 ^ 64 → AreSmall net sums
    → AreSumsOf net (stream_path net seed stream state) steps sums
    → ((((((old ++ decimal stream) ++ 44 ∷ decimal horizon) ++ 44 ∷ decimal steps) ++ pieces (customers_piece sums) (length net.queues)) ++ pieces (reward_piece sums) (length net.rewards))
    ++ pieces (event_piece sums) (length net.events)) ++ 10 ∷ [] ≡ old ++ path_line net seed steps stream (Met horizon state)
unfolding path_line path_row
line_walked old net seed steps stream horizon state sums few fits short small are =
    let path = stream_path net seed stream state in
    let told : sum_fields path steps (quantities net) ++ count_fields path steps 0 net.events ≡ (queue_fields net path steps sums are ++ reward_fields net path steps sums are) ++ event_fields net path steps sums are =
    ap (λ (fs : List (List ℕ)). fs ++ count_fields path steps 0 net.events) (quantities-told net path steps sums are)
    ∙ ap (λ (fs : List (List ℕ)). (queue_fields net path steps sums are ++ reward_fields net path steps sums are) ++ fs) (events-told net path steps sums are) in
    let fields = (queue_fields net path steps sums are ++ reward_fields net path steps sums are) ++ event_fields net path steps sums are in
    let plain : All IsPlainField (decimal horizon ∷ decimal steps ∷ fields) =
    All-cons IsPlainField (decimal horizon) (decimal steps ∷ fields) (number-field horizon (omega arith))
    (All-cons IsPlainField (decimal steps) fields (number-field steps (omega arith)) (all-plain net path steps sums are small)) in
    let row = row-of stream (decimal horizon) (decimal steps ∷ fields) few plain in
    walked-pieces old (decimal stream) (44 ∷ decimal horizon) (44 ∷ decimal steps) (pieces (customers_piece sums) (length net.queues)) (pieces (reward_piece sums) (length net.rewards))
    (pieces (event_piece sums) (length net.events)) (10 ∷ [])
    ∙ ap (λ (xs : List ℕ). old ++ ((decimal stream ++ ((44 ∷ decimal horizon) ++ ((44 ∷ decimal steps) ++ xs))) ++ 10 ∷ [])) (sym (all-behind net path steps sums are))
    ∙ ap (λ (xs : List ℕ). old ++ xs) (sym row)
    ∙ ap (λ (fs : List (List ℕ)). old ++ row_text default_writer (decimal stream ∷ decimal horizon ∷ decimal steps ∷ fs)) (sym told)

-- ---- the line of a sample that isn't met

abbrev commas_of : ℕ → List ℕ
commas_of n = replicate n 44

commas-append : (m n : ℕ) → commas_of (m + n) ≡ commas_of m ++ commas_of n
commas-append zero n = (let e : 0 + n ≡ n = omega arith in ap commas_of e)
commas-append (suc m) n = (let e : suc m + n ≡ suc (m + n) = omega arith in ap commas_of e ∙ ap (λ (xs : List ℕ). 44 ∷ xs) (commas-append m n))

abbrev no_fields : NamedEvent → List (List ℕ)
no_fields event = [] ∷ [] ∷ []

event-commas : (events : List NamedEvent) → behind (flat_map no_fields events) ≡ commas_of (2 * length events)
event-commas [] = refl
event-commas (event ∷ events) =
    let e : suc (suc (2 * length events)) ≡ 2 * suc (length events) = omega arith in
    ap (λ (xs : List ℕ). 44 ∷ 44 ∷ xs) (event-commas events) ∙ ap commas_of e

events-plain : (events : List NamedEvent) → All IsPlainField (flat_map no_fields events)
events-plain [] = All-nil IsPlainField
events-plain (event ∷ events) =
    All-cons IsPlainField [] ([] ∷ flat_map no_fields events) refl (All-cons IsPlainField [] (flat_map no_fields events) refl (events-plain events))

pub line_unwalked : (old : List ℕ) (net : Network) (seed steps stream limit : ℕ) → stream < 2 ^ 64
    → ((old ++ decimal stream) ++ commas_of (length net.queues + length net.rewards + 2 * length net.events + 2)) ++ 10 ∷ [] ≡ old ++ path_line net seed steps stream (NotMet limit)
unfolding path_line path_row
line_unwalked old net seed steps stream limit few =
    let none = map (λ (q : Quantity). []) (quantities net) in
    let rest = none ++ flat_map no_fields net.events in
    let plain : All IsPlainField ([] ∷ [] ∷ rest) =
    All-cons IsPlainField [] ([] ∷ rest) refl (All-cons IsPlainField [] rest refl
    (All-append IsPlainField none (flat_map no_fields net.events) (empty-plain (quantities net)) (events-plain net.events))) in
    let both = length-append (queue_quantities net) (reward_quantities net) in
    let queues = length-queues_from 0 net.queues in
    let rewards = length-map net.rewards worth in
    let number : length net.queues + length net.rewards + 2 * length net.events + 2 ≡ suc (suc (length (quantities net) + 2 * length net.events)) = omega arith in
    let behind-rest : commas_of (length (quantities net) + 2 * length net.events) ≡ behind rest =
    commas-append (length (quantities net)) (2 * length net.events)
    ∙ ap (λ (xs : List ℕ). xs ++ commas_of (2 * length net.events)) (sym (commas (quantities net)))
    ∙ ap (λ (xs : List ℕ). behind none ++ xs) (sym (event-commas net.events))
    ∙ sym (flat_map-append (λ (field : List ℕ). 44 ∷ field) none (flat_map no_fields net.events)) in
    let all : commas_of (length net.queues + length net.rewards + 2 * length net.events + 2) ≡ behind ([] ∷ [] ∷ rest) =
    ap commas_of number ∙ ap (λ (xs : List ℕ). 44 ∷ 44 ∷ xs) behind-rest in
    unmet-pieces old (decimal stream) (commas_of (length net.queues + length net.rewards + 2 * length net.events + 2))
    ∙ ap (λ (xs : List ℕ). old ++ ((decimal stream ++ xs) ++ 10 ∷ [])) all
    ∙ ap (λ (xs : List ℕ). old ++ xs) (sym (row-of stream [] ([] ∷ rest) few plain))
