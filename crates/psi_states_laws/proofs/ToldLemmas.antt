-- The report of samples is that of what the rows of their table tell.
use Rattle.std.specs.Prelude.{◌≡◌, ℕ, suc, ◌+◌, ℤ, pos, List, [], ◌∷◌, ◌++◌, map, length, replicate, slice_index_or, Option, refl}
use Rattle.std.specs.Fmt.{decimal, signed_decimal}
use Rattle.std.specs.List.{flat_map}
use Rattle.std.proofs.Common.{sym, ap, ◌∙◌, append_assoc, append-nil}
use Rattle.std.proofs.lemmas.List.{length-map}
use Rattle.psi_state.specs.declared.Outcome.{Outcome}
use Rattle.psi_state.specs.declared.Outcome.TheVariants.{Met, NotMet}
use Rattle.psi_net_model.specs.Network.{Network}
use Rattle.psi_report.specs.declared.figure.Figure.{Figure}
use Rattle.psi_report.specs.Distinct.{distinct}
use Rattle.psi_report.specs.Samples.{met_states, met_horizons}
use Rattle.psi_report.specs.Quantities.{Quantity, queue_quantities, reward_quantities}
use Rattle.psi_report.specs.Report.{Trio, horizon_count, queue_trio, reward_trio, figures_of, quantity_figures, contents_of}
use Rattle.psi_report.specs.Text.{text_of}
use Rattle.psi_reply.specs.Report.{samples_of}
use Rattle.psi_reply.proofs.ReportingLemmas.{samples_number, samples_append}
use Rattle.psi_table.specs.Table.{quantities, value_fields, table_text}
use Rattle.psi_table.proofs.TableLemmas.{table_joined}
use Rattle.psi_states_laws.specs.Told.{Told, told_of, met_rows, column, column_figures, told_contents}
use Rattle.psi_states_laws.specs.Statements.{TablesAreJoined, PrintedAreJoined, RowsTell, ReportsAreOfTables}

-- ---- joined ranges

pub tables_joined : TablesAreJoined
tables_joined net first xs ys = table_joined net first xs ys

pub printed_joined : PrintedAreJoined
printed_joined net seed first m n =
    let count = samples_number net seed first m in
    ap (table_text net first) (samples_append net seed first m n)
    ∙ rw count at (table_joined net first (samples_of net seed first m) (samples_of net seed (first + m) n))

-- ---- what rows tell

fields-of : (state : List ℕ) (qs : List Quantity) → value_fields state qs ≡ map signed_decimal (map (λ (q : Quantity). q.value state) qs)
fields-of state [] = refl
fields-of state (q ∷ qs) = ap (λ (fs : List (List ℕ)). signed_decimal (q.value state) ∷ fs) (fields-of state qs)

abbrev empty_field : Quantity → List ℕ
empty_field q = []

no-fields : (qs : List Quantity) → map empty_field qs ≡ replicate (length qs) []
no-fields [] = refl
no-fields (q ∷ qs) = ap (λ (fs : List (List ℕ)). [] ∷ fs) (no-fields qs)

pub rows_tell : RowsTell
rows_tell net (Met horizon state) = ap (λ (fs : List (List ℕ)). decimal horizon ∷ fs) (fields-of state (quantities net))
rows_tell net (NotMet limit) = ap (λ (fs : List (List ℕ)). [] ∷ fs) (no-fields (quantities net))

-- ---- the report

module _ (net : Network) where
  abbrev rows : List Outcome → List (Option Told)
  rows outcomes = map (told_of net) outcomes

  met-number : (outcomes : List Outcome) → length (met_states outcomes) ≡ length (met_rows (rows outcomes))
  unfolding met_states
  met-number [] = refl
  met-number (Met horizon state ∷ outcomes) = ap suc (met-number outcomes)
  met-number (NotMet limit ∷ outcomes) = met-number outcomes

  horizons-told : (outcomes : List Outcome) → met_horizons outcomes ≡ map (λ (told : Told). told.horizon) (met_rows (rows outcomes))
  unfolding met_horizons
  horizons-told [] = refl
  horizons-told (Met horizon state ∷ outcomes) = ap (λ (hs : List ℕ). horizon ∷ hs) (horizons-told outcomes)
  horizons-told (NotMet limit ∷ outcomes) = horizons-told outcomes

  -- what stands at the place of a quantity is its value
  value-at : (state : List ℕ) (front : List Quantity) (q : Quantity) (back : List Quantity)
      → slice_index_or (map (λ (p : Quantity). p.value state) (front ++ q ∷ back)) (length front) (pos 0) ≡ q.value state
  value-at state [] q back = refl
  value-at state (p ∷ front) q back = value-at state front q back

  column-is : (front : List Quantity) (q : Quantity) (back : List Quantity) → quantities net ≡ front ++ q ∷ back → (outcomes : List Outcome)
      → map q.value (met_states outcomes) ≡ column (length front) (rows outcomes)
  unfolding met_states
  column-is front q back is [] = refl
  column-is front q back is (Met horizon state ∷ outcomes) =
      let here : q.value state ≡ slice_index_or (map (λ (p : Quantity). p.value state) (quantities net)) (length front) (pos 0) =
      sym (ap (λ (qs : List Quantity). slice_index_or (map (λ (p : Quantity). p.value state) qs) (length front) (pos 0)) is ∙ value-at state front q back) in
      let rest = column-is front q back is outcomes in
      ap (λ (z : ℤ). z ∷ map q.value (met_states outcomes)) here
      ∙ ap (λ (zs : List ℤ). slice_index_or (map (λ (p : Quantity). p.value state) (quantities net)) (length front) (pos 0) ∷ zs) rest
  column-is front q back is (NotMet limit ∷ outcomes) = column-is front q back is outcomes

  figures-are : (trio : Trio) (front qs back : List Quantity) → quantities net ≡ front ++ (qs ++ back) → (outcomes : List Outcome)
      → flat_map (quantity_figures trio (met_states outcomes)) qs ≡ column_figures trio (length front) qs (rows outcomes)
  unfolding column_figures
  figures-are trio front [] back is outcomes = refl
  figures-are trio front (q ∷ qs) back is outcomes =
      let first = column-is front q (qs ++ back) is outcomes in
      let further : quantities net ≡ (front ++ q ∷ []) ++ (qs ++ back) = is ∙ sym (append_assoc front (q ∷ []) (qs ++ back)) in
      let count : length (front ++ q ∷ []) ≡ suc (length front) = length-more front q in
      let rest = figures-are trio (front ++ q ∷ []) qs back further outcomes in
      ap (λ (zs : List ℤ). figures_of trio q.name zs ++ flat_map (quantity_figures trio (met_states outcomes)) qs) first
      ∙ ap (λ (fs : List Figure). figures_of trio q.name (column (length front) (rows outcomes)) ++ fs) (rest ∙ ap (λ n. column_figures trio n qs (rows outcomes)) count)
    where
      length-more : (xs : List Quantity) (x : Quantity) → length (xs ++ x ∷ []) ≡ suc (length xs)
      length-more [] x = refl
      length-more (y ∷ ys) x = ap suc (length-more ys x)

  contents-told : (outcomes : List Outcome) → contents_of net outcomes ≡ told_contents net (rows outcomes)
  unfolding contents_of told_contents
  contents-told outcomes =
      let samples : length outcomes ≡ length (rows outcomes) = sym (length-map outcomes (told_of net)) in
      let met = met-number outcomes in
      let horizons = ap (λ (hs : List ℕ). map (horizon_count hs) (distinct hs)) (horizons-told outcomes) in
      let queues = figures-are queue_trio [] (queue_quantities net) (reward_quantities net) refl outcomes in
      let rewards = figures-are reward_trio (queue_quantities net) (reward_quantities net) [] (ap (λ (qs : List Quantity). queue_quantities net ++ qs) (sym (append-nil (reward_quantities net)))) outcomes in
      cc

pub reports_told : ReportsAreOfTables
reports_told net outcomes = ap text_of (contents-told net outcomes)
