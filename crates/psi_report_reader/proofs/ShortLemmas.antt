-- The report of samples of a network that a file may describe is short.
use Rattle.std.specs.Prelude.{◌≡◌, ℕ, suc, ◌+◌, ◌*◌, ◌^◌, ◌<◌, ◌≤◌, List, [], ◌∷◌, length, All}
use Rattle.std.specs.List.{flat_map}
use Rattle.std.proofs.Common.{ap, arith}
use Rattle.std.proofs.Math.Nat.{pow-le-pow_right}
use Rattle.std.proofs.Math.Pow.{pow_pos}
use Rattle.std.proofs.lemmas.List.{length-map, length-append}
use Rattle.std.proofs.lemmas.List.Elements.{All-head, All-tail, All-map}
use Rattle.csv.specs.Writing.{default_writer, row_text}
use Rattle.psi_report.specs.Samples.{IsHorizon, met_states, met_horizons}
use Rattle.psi_report.specs.Distinct.{distinct}
use Rattle.psi_report.specs.Quantities.{Quantity, queue_quantities, reward_quantities}
use Rattle.psi_report.specs.Text.{rows_text, number_rows, contents_rows, text_of}
use Rattle.psi_report.specs.Report.{Trio, queue_trio, reward_trio, quantity_figures, horizon_count, contents_of}
use Rattle.psi_report.specs.declared.figure.HorizonCount.{HorizonCount}
use Rattle.psi_report.specs.Contents.{Contents}
use Rattle.psi_report_reader.specs.Reading.{IsReport}
use Rattle.psi_report_reader.specs.Samples.{ReportsAreShort}
use Rattle.psi_report_reader.proofs.FieldLemmas.{IsShort, rows-short}
use Rattle.psi_report_reader.proofs.HorizonCountsLemmas.{Rising, horizons_of, rising-horizons}
use Rattle.psi_report_reader.proofs.PlainLemmas.{IsPlain, row-line}
use Rattle.psi_report_reader.proofs.SampleLemmas.{met-are, queues-shown, rewards-shown, samples-fit}
use Rattle.psi_report_reader.proofs.SmallLemmas.{distinct-all}
use Rattle.psi_report_reader.proofs.OrderLemmas.{by_order}

-- ---- rows

row-length : (a b v : List ℕ) → All IsPlain a → All IsPlain b → All IsPlain v → length a + length b + length v ≤ 97 → length (row_text default_writer (a ∷ b ∷ v ∷ [])) ≤ 100
row-length a b v first second third few = simp length-append (let lined = simp length-append at (ap length (row-line a b v [] first second third)) in omega arith)

rows-length : (rows : List (List (List ℕ))) → All IsShort rows → length (rows_text rows) ≤ 100 * length rows
unfolding rows_text
rows-length [] all = omega arith
rows-length (r ∷ rows) all =
    let is : IsShort r = All-head IsShort r rows all in
    let here : length (row_text default_writer r) ≤ 100 = rw is.is (row-length is.item is.name is.value is.item_plain is.name_plain is.value_plain is.few) in
    let both = length-append (row_text default_writer r) (flat_map (row_text default_writer) rows) in
    omega (arith, rows-length rows (All-tail IsShort r rows all))

text-length : (c : Contents) → IsReport c → length (text_of c) ≤ 100 * (4 + (length c.horizons + length c.figures))
unfolding text_of contents_rows number_rows
text-length c is = (let long = simp (length-append, length-map) at (rows-length (contents_rows c) (rows-short c is)) in omega arith)

-- ---- figures

figures-few : (trio : Trio) (states : List (List ℕ)) (qs : List Quantity) → length (flat_map (quantity_figures trio states) qs) ≤ 3 * length qs
figures-few trio states [] = omega arith
figures-few trio states (q ∷ qs) =
    let here : length (quantity_figures trio states q) ≤ 3 = grind arith in
    simp length-append (omega (arith, figures-few trio states qs))

-- ---- horizons

higher : (j e : ℕ) → 2 ^ j < 2 ^ e → suc j ≤ e
higher j e less = by_order j e
    (λ same. (let one : 2 ^ j ≡ 2 ^ e = ap (λ k. 2 ^ k) same in absurd (omega arith)))
    (λ below. omega arith)
    (λ above. (let most : 2 ^ e ≤ 2 ^ j = pow-le-pow_right (omega arith) (omega arith) in absurd (omega arith)))

abbrev AtHorizon : HorizonCount → Type 0
AtHorizon c = IsHorizon c.horizon

powers-few : (j t : ℕ) (cs : List HorizonCount) → j ≤ 22 → 2 ^ j ≤ t → Rising (suc t) cs → All AtHorizon cs → length cs + j ≤ 22
powers-few j t [] few least rise all = omega arith
powers-few j t (c ∷ cs) few least rise all =
    let is : IsHorizon c.horizon = All-head AtHorizon c cs all in
    let next : suc j ≤ is.exponent = higher j is.exponent (omega arith) in
    let low : 2 ^ suc j ≤ 2 ^ is.exponent = pow-le-pow_right (omega arith) next in
    let rest = powers-few (suc j) c.horizon cs (omega arith) (omega arith) rise.1.1 (All-tail AtHorizon c cs all) in
    omega arith

horizons-few : (cs : List HorizonCount) → Rising 0 cs → All AtHorizon cs → length cs ≤ 23
horizons-few [] rise all = omega arith
horizons-few (c ∷ cs) rise all =
    let is : IsHorizon c.horizon = All-head AtHorizon c cs all in
    let some : 0 < 2 ^ is.exponent = pow_pos is.exponent in
    let rest = powers-few 0 c.horizon cs (omega arith) (omega arith) rise.1.1 (All-tail AtHorizon c cs all) in
    omega arith

-- ---- all of it

pub reports_short : ReportsAreShort
unfolding contents_of
reports_short net outcomes are few =
    let states = met_states outcomes in
    let steps = met_horizons outcomes in
    let long = simp length-append at (text-length (contents_of net outcomes) (samples-fit net outcomes are few)) in
    let horizons = horizons-few (horizons_of steps) (rising-horizons steps)
    (All-map AtHorizon (horizon_count steps) (distinct steps) (distinct-all IsHorizon steps (met-are net outcomes are.samples).0)) in
    let queues = figures-few queue_trio states (queue_quantities net) in
    let rewards = figures-few reward_trio states (reward_quantities net) in
    omega (arith, (queues-shown net outcomes are).few, (rewards-shown net outcomes are).few)
