-- The line of a stream is what is written of it piece by piece.
use Rattle.std.specs.Prelude.{◌≡◌, ℕ, zero, suc, ◌+◌, ◌^◌, ◌<◌, ◌≤◌, ◌==◌, ℤ, pos, negsuc, List, [], ◌∷◌, ◌++◌, map, length, replicate, slice_index, All, Some, false, refl}
use Rattle.std.specs.Fmt.{decimal, signed_decimal}
use Rattle.std.specs.Int.RustNames.{unsigned_abs}
use Rattle.std.specs.List.{flat_map, slice_get}
use Rattle.std.specs.Option.{option_map}
use Rattle.std.proofs.Common.{sym, ◌∙◌, ap, take, drop, append_assoc, append-nil, arith}
use Rattle.std.specs.Int.{IsInRange}
use Rattle.std.specs.Str.Parse.{AllDigits}
use Rattle.std.proofs.lemmas.Bool.{ne_eqb}
use Rattle.std.proofs.lemmas.Fmt.{digits_decimal}
use Rattle.std.proofs.lemmas.Str.Parse.{digit_from_value, tells_digits, numerals_by_value}
use Rattle.std.proofs.lemmas.Grind.{flat_map-append}
use Rattle.std.proofs.lemmas.List.{length-append, length-map, map-append, drop_all, drop_more}
use Rattle.std.proofs.lemmas.List.Elements.{All-nil, All-cons, All-head, All-tail, All-append}
use Rattle.csv.specs.Writing.{default_writer, needs_quotes, fields_text, is_blank}
use Rattle.psi_state.specs.declared.Outcome.{Outcome}
use Rattle.psi_state.specs.declared.Outcome.TheVariants.{Met, NotMet}
use Rattle.psi_reward.specs.declared.kinds.RewardKind.{RewardKind}
use Rattle.psi_reward.specs.Worth.{worth_of}
use Rattle.psi_net_model.specs.Network.{Network, NamedReward}
use Rattle.psi_net_model.specs.declared.entries.Queue.{Queue}
use Rattle.psi_report.specs.Quantities.{Quantity, queues_from, queue_quantities, reward_quantities}
use Rattle.psi_report.proofs.StandsLemmas.{length-queues_from}
use Rattle.psi_table.specs.Table.{quantities, value_fields, outcome_fields, stream_fields}
use Rattle.psi_table.specs.Lines.{stream_line, behind, customers_fields, rewards_fields, IsPlainField}

-- ---- one piece more

-- of rewards
abbrev value_piece : List ℕ → RewardKind → List ℕ
value_piece state kind = 44 ∷ signed_decimal (worth_of kind state)

pub rewards_more : (state : List ℕ) (rewards : List NamedReward) (i : ℕ) (kind : RewardKind) → option_map (λ (r : NamedReward). r.kind) (slice_get rewards i) ≡ Some kind
    → rewards_fields state (take i rewards) ++ (44 ∷ signed_decimal (worth_of kind state)) ≡ rewards_fields state (take (suc i) rewards)
rewards_more state [] i kind at = absurd cc
rewards_more state (r ∷ rewards) zero kind at =
    let same : kind ≡ r.kind = cc in
    ap (value_piece state) same ∙ sym (append-nil (value_piece state r.kind))
rewards_more state (r ∷ rewards) (suc i) kind at =
    append_assoc (value_piece state r.kind) (rewards_fields state (take i rewards)) (value_piece state kind)
    ∙ ap (λ (ys : List ℕ). value_piece state r.kind ++ ys) (rewards_more state rewards i kind at)

-- what holds of the kinds of rewards up to one holds up to the next
pub kinds_more : (P : RewardKind → Type 0) (rewards : List NamedReward) (i : ℕ) (kind : RewardKind) → option_map (λ (r : NamedReward). r.kind) (slice_get rewards i) ≡ Some kind
    → P kind → All (λ (r : NamedReward). P r.kind) (take i rewards) → All (λ (r : NamedReward). P r.kind) (take (suc i) rewards)
kinds_more P [] i kind at here all = absurd cc
kinds_more P (r ∷ rewards) zero kind at here all =
    let same : kind ≡ r.kind = cc in
    All-cons (λ (r : NamedReward). P r.kind) r [] (rw (sym same) here) (All-nil (λ (r : NamedReward). P r.kind))
kinds_more P (r ∷ rewards) (suc i) kind at here all =
    All-cons (λ (r : NamedReward). P r.kind) r (take (suc i) rewards) (All-head (λ (r : NamedReward). P r.kind) r (take i rewards) all)
    (kinds_more P rewards i kind at here (All-tail (λ (r : NamedReward). P r.kind) r (take i rewards) all))

-- ---- fields that need no quotes

pub digits-field : (ds : List ℕ) → AllDigits 10 ds → IsPlainField ds
digits-field [] all = refl
digits-field (c ∷ cs) all =
    let range : IsInRange 48 57 c = digit_from_value c all.0 in
    let comma : (c == 44) ≡ false = ne_eqb c 44 (λ e. absurd (omega arith)) in
    let quote : (c == 34) ≡ false = ne_eqb c 34 (λ e. absurd (omega arith)) in
    let return : (c == 13) ≡ false = ne_eqb c 13 (λ e. absurd (omega arith)) in
    let feed : (c == 10) ≡ false = ne_eqb c 10 (λ e. absurd (omega arith)) in
    rw (comma, quote, return, feed) (digits-field cs all.1)

pub number-field : (n : ℕ) → n < 2 ^ 64 → IsPlainField (decimal n)
number-field n few = digits-field (decimal n) (digits_decimal (numerals_by_value (AllDigits 10) tells_digits) n few)

value-field : (z : ℤ) → unsigned_abs z ≤ 2 ^ 63 → IsPlainField (signed_decimal z)
value-field (pos n) few = number-field n (omega arith)
value-field (negsuc n) few = number-field (suc n) (omega arith)

queues-plain : (state : List ℕ) → ((i : ℕ) → slice_index state i < 2 ^ 16) → (i : ℕ) (queues : List Queue) → All IsPlainField (value_fields state (queues_from i queues))
unfolding queues_from
queues-plain state each i [] = All-nil IsPlainField
queues-plain state each i (queue ∷ queues) =
    let few : slice_index state i < 2 ^ 16 = each i in
    All-cons IsPlainField (decimal (slice_index state i)) (value_fields state (queues_from (i + 1) queues)) (number-field (slice_index state i) (omega arith))
    (queues-plain state each (i + 1) queues)

abbrev worth : NamedReward → Quantity
worth r = record { name = r.name; value = worth_of r.kind }

abbrev IsSmallAt : List ℕ → NamedReward → Type 0
IsSmallAt state r = unsigned_abs (worth_of r.kind state) ≤ 2 ^ 63

rewards-plain : (state : List ℕ) (rewards : List NamedReward) → All (IsSmallAt state) rewards → All IsPlainField (value_fields state (map worth rewards))
rewards-plain state [] small = All-nil IsPlainField
rewards-plain state (r ∷ rewards) small =
    All-cons IsPlainField (signed_decimal (worth_of r.kind state)) (value_fields state (map worth rewards))
    (value-field (worth_of r.kind state) (All-head (IsSmallAt state) r rewards small)) (rewards-plain state rewards (All-tail (IsSmallAt state) r rewards small))

pub empty-plain : (qs : List Quantity) → All IsPlainField (map (λ (q : Quantity). []) qs)
empty-plain [] = All-nil IsPlainField
empty-plain (q ∷ qs) = All-cons IsPlainField [] (map (λ (q : Quantity). []) qs) refl (empty-plain qs)

-- such fields stand as they are, a comma before each
pub fields-behind : (fields : List (List ℕ)) → All IsPlainField fields → fields_text default_writer fields ≡ behind fields
unfolding fields_text
fields-behind [] plain = refl
fields-behind (field ∷ fields) plain =
    let here : needs_quotes default_writer field ≡ false = All-head IsPlainField field fields plain in
    rw here (ap (λ (rest : List ℕ). 44 ∷ (field ++ rest)) (fields-behind fields (All-tail IsPlainField field fields plain)))

line-of : (net : Network) (stream : ℕ) (field : List ℕ) (fields : List (List ℕ)) (outcome : Outcome) → stream < 2 ^ 64 → outcome_fields net outcome ≡ field ∷ fields
    → All IsPlainField (field ∷ fields) → stream_line net stream outcome ≡ (decimal stream ++ behind (field ∷ fields)) ++ 10 ∷ []
unfolding stream_line stream_fields is_blank
line-of net stream field fields outcome few is plain =
    let first : needs_quotes default_writer (decimal stream) ≡ false = number-field stream few in
    rw (is, first, fields-behind (field ∷ fields) plain) refl

-- ---- the pieces of a line

-- the numbers of the queues are those of the state
queues-told : (state : List ℕ) (i : ℕ) (queues : List Queue) → i + length queues ≡ length state → behind (value_fields state (queues_from i queues)) ≡ customers_fields (drop i state)
unfolding queues_from
queues-told state i [] count = rw (drop_all i state (omega arith)) refl
queues-told state i (queue ∷ queues) count =
    let rest = queues-told state (i + 1) queues (omega arith) in
    rw (drop_more state i 0 (omega arith)) (ap (λ (ys : List ℕ). (44 ∷ decimal (slice_index state i)) ++ ys) rest)

rewards-told : (state : List ℕ) (rewards : List NamedReward) → behind (value_fields state (map worth rewards)) ≡ rewards_fields state rewards
rewards-told state [] = refl
rewards-told state (r ∷ rewards) = ap (λ (ys : List ℕ). value_piece state r.kind ++ ys) (rewards-told state rewards)

values-told : (net : Network) (state : List ℕ) → length net.queues ≡ length state
    → behind (value_fields state (quantities net)) ≡ customers_fields state ++ rewards_fields state net.rewards
values-told net state count =
    let queues : behind (value_fields state (queue_quantities net)) ≡ customers_fields state = (let whole : 0 + length net.queues ≡ length state = omega arith in queues-told state 0 net.queues whole) in
    let rewards : behind (value_fields state (reward_quantities net)) ≡ rewards_fields state net.rewards = rewards-told state net.rewards in
    ap behind (map-append (λ (q : Quantity). signed_decimal (q.value state)) (queue_quantities net) (reward_quantities net))
    ∙ flat_map-append (λ (field : List ℕ). 44 ∷ field) (value_fields state (queue_quantities net)) (value_fields state (reward_quantities net))
    ∙ (ap (λ (xs : List ℕ). xs ++ behind (value_fields state (reward_quantities net))) queues ∙ ap (λ (xs : List ℕ). customers_fields state ++ xs) rewards)

values-plain : (net : Network) (state : List ℕ) → ((i : ℕ) → slice_index state i < 2 ^ 16) → All (IsSmallAt state) net.rewards → All IsPlainField (value_fields state (quantities net))
values-plain net state each small =
    rw (map-append (λ (q : Quantity). signed_decimal (q.value state)) (queue_quantities net) (reward_quantities net))
    (All-append IsPlainField (value_fields state (queue_quantities net)) (value_fields state (reward_quantities net)) (queues-plain state each 0 net.queues)
    (rewards-plain state net.rewards small))

met-pieces : (old stream horizon queues rewards : List ℕ)
    → (((((old ++ stream) ++ 44 ∷ []) ++ horizon) ++ queues) ++ rewards) ++ 10 ∷ [] ≡ old ++ ((stream ++ ((44 ∷ horizon) ++ (queues ++ rewards))) ++ 10 ∷ [])
met-pieces old stream horizon queues rewards = simp append_assoc

pub unmet-pieces : (old stream commas : List ℕ) → ((old ++ stream) ++ commas) ++ 10 ∷ [] ≡ old ++ ((stream ++ commas) ++ 10 ∷ [])
unmet-pieces old stream commas = simp append_assoc

pub line_met : (old : List ℕ) (net : Network) (stream horizon : ℕ) (state : List ℕ) → stream < 2 ^ 64 → horizon < 2 ^ 32 → length net.queues ≡ length state
    → ((i : ℕ) → slice_index state i < 2 ^ 16) → All (IsSmallAt state) net.rewards
    → (((((old ++ decimal stream) ++ 44 ∷ []) ++ decimal horizon) ++ customers_fields state) ++ rewards_fields state net.rewards) ++ 10 ∷ [] ≡ old ++ stream_line net stream (Met horizon state)
line_met old net stream horizon state few fits count each small =
    let plain : All IsPlainField (decimal horizon ∷ value_fields state (quantities net)) =
    All-cons IsPlainField (decimal horizon) (value_fields state (quantities net)) (number-field horizon (omega arith)) (values-plain net state each small) in
    let line = line-of net stream (decimal horizon) (value_fields state (quantities net)) (Met horizon state) few refl plain in
    met-pieces old (decimal stream) (decimal horizon) (customers_fields state) (rewards_fields state net.rewards)
    ∙ ap (λ (xs : List ℕ). old ++ ((decimal stream ++ ((44 ∷ decimal horizon) ++ xs)) ++ 10 ∷ [])) (sym (values-told net state count))
    ∙ ap (λ (xs : List ℕ). old ++ xs) (sym line)

pub commas : (qs : List Quantity) → behind (map (λ (q : Quantity). []) qs) ≡ replicate (length qs) 44
commas [] = refl
commas (q ∷ qs) = ap (λ (xs : List ℕ). 44 ∷ xs) (commas qs)

pub line_unmet : (old : List ℕ) (net : Network) (stream limit : ℕ) → stream < 2 ^ 64
    → ((old ++ decimal stream) ++ replicate (length net.queues + length net.rewards + 1) 44) ++ 10 ∷ [] ≡ old ++ stream_line net stream (NotMet limit)
line_unmet old net stream limit few =
    let none = map (λ (q : Quantity). []) (quantities net) in
    let plain : All IsPlainField ([] ∷ none) = All-cons IsPlainField [] none refl (empty-plain (quantities net)) in
    let line = line-of net stream [] none (NotMet limit) few refl plain in
    let both = length-append (queue_quantities net) (reward_quantities net) in
    let queues = length-queues_from 0 net.queues in
    let rewards = length-map net.rewards worth in
    let number : suc (length (quantities net)) ≡ length net.queues + length net.rewards + 1 = omega arith in
    let pieces : replicate (length net.queues + length net.rewards + 1) 44 ≡ behind ([] ∷ none) =
    sym (ap (λ n. replicate n 44) number) ∙ ap (λ (xs : List ℕ). 44 ∷ xs) (sym (commas (quantities net))) in
    unmet-pieces old (decimal stream) (replicate (length net.queues + length net.rewards + 1) 44)
    ∙ ap (λ (xs : List ℕ). old ++ ((decimal stream ++ xs) ++ 10 ∷ [])) pieces
    ∙ ap (λ (xs : List ℕ). old ++ xs) (sym line)
