-- Answers in the proof of `path_header::push_events`.
use Rattle.std.proofs.Common.{ℕ, List, [], ◌∷◌, ◌++◌, take, codes, ◌∙◌, ap, sym, add-one, append_assoc}
use Rattle.std.specs.Fmt.{decimal}
use Rattle.std.specs.List.{flat_map}
use Rattle.csv.specs.Records.{fields_of}
use Rattle.psi_table.specs.Paths.{event_columns}
use Rattle.psi_table.proofs.PathHeaderLemmas.{columns, columns_more}
use Rattle.psi_table.proofs.path_header.push_events.Goals as goal

pub loop-event-preserved : goal.loop-event-preserved
loop-event-preserved c =
    let old = fields_of c.args.header.now in
    let events = c.args.net.now.events in
    let i = c.loop-event.event in
    let name = c.event_name-name.result in
    let server = c.event_server-server.result in
    let first = codes "event." ++ name ++ codes "." ++ decimal server in
    let second = codes "moved." ++ name ++ codes "." ++ decimal server in
    record {
      fields = c.in_ok-push_column-2.ensures.fields ∙ ap (λ (fields : List (List ℕ)). fields ++ second ∷ []) c.in_ok-push_column.ensures.fields
          ∙ append_assoc (fields_of c.loop-event.header) (first ∷ []) (second ∷ [])
          ∙ ap (λ (fields : List (List ℕ)). fields ++ columns name server) c.loop-event.invariant.fields
          ∙ append_assoc old (flat_map event_columns (take i events)) (columns name server)
          ∙ ap (λ (fields : List (List ℕ)). old ++ fields) (columns_more events i name server c.event_name-name.ensures c.event_server-server.ensures)
          ∙ ap (λ n. old ++ flat_map event_columns (take n events)) (sym (add-one i));
      whole = c.in_ok-push_column-2.ensures.whole;
    }
