-- Tables of paths in parts, and paths of no step.
use Rattle.std.specs.Prelude.{◌≡◌, ℕ, suc, ◌+◌, ◌*◌, List, [], ◌∷◌, ◌++◌, map, length, replicate, refl}
use Rattle.std.specs.Fmt.{decimal}
use Rattle.std.specs.List.{flat_map}
use Rattle.std.proofs.Common.{ap, ◌∙◌, arith}
use Rattle.psi_net_model.specs.declared.entries.NamedEvent.{NamedEvent}
use Rattle.psi_path.specs.Path.{Path}
use Rattle.psi_report.specs.Quantities.{Quantity}
use Rattle.psi_reply.specs.Report.{samples_of}
use Rattle.psi_reply.proofs.ReportingLemmas.{samples_number, samples_append}
use Rattle.psi_table.specs.Table.{quantities, value_fields, stream_fields}
use Rattle.psi_table.specs.Paths.{stream_path, count_fields, path_row, paths_text}
use Rattle.psi_table.proofs.PathTableLemmas.{paths_joined}
use Rattle.psi_paths_laws.specs.Statements.{PathsAreJoined, PrintedPathsAreJoined, ShortPathsTellSamples, UnmetPathsAreEmpty}

-- ---- joined ranges

pub joined : PathsAreJoined
joined net seed steps first xs ys = paths_joined net seed steps first xs ys

pub printed_joined : PrintedPathsAreJoined
printed_joined net seed steps first m n =
    let count = samples_number net seed first m in
    ap (paths_text net seed steps first) (samples_append net seed first m n)
    ∙ rw count at (paths_joined net seed steps first (samples_of net seed first m) (samples_of net seed (first + m) n))

-- ---- paths of no step

no-counts : (path : Path) (e : ℕ) (events : List NamedEvent) → count_fields path 0 e events ≡ flat_map (λ event. decimal 0 ∷ decimal 0 ∷ []) events
unfolding count_fields
no-counts path e [] = refl
no-counts path e (event ∷ events) = ap (λ (fs : List (List ℕ)). decimal 0 ∷ decimal 0 ∷ fs) (no-counts path (suc e) events)

pub short : ShortPathsTellSamples
unfolding stream_fields path_row
short net seed stream horizon state = record {
  sample = refl;
  path = ap (λ (fs : List (List ℕ)). decimal stream ∷ decimal horizon ∷ decimal 0 ∷ (value_fields state (quantities net) ++ fs)) (no-counts (stream_path net seed stream state) 0 net.events);
}

-- ---- paths without a sample

abbrev no_field : Quantity → List ℕ
no_field q = []

abbrev no_fields : NamedEvent → List (List ℕ)
no_fields event = [] ∷ [] ∷ []

none-of-quantities : (qs : List Quantity) (rest : List (List ℕ)) (n : ℕ) → rest ≡ replicate n [] → map no_field qs ++ rest ≡ replicate (length qs + n) []
none-of-quantities [] rest n is = (let e : n ≡ 0 + n = omega arith in is ∙ ap (λ k. replicate k []) e)
none-of-quantities (q ∷ qs) rest n is =
    let e : suc (length qs + n) ≡ suc (length qs) + n = omega arith in
    ap (λ (fs : List (List ℕ)). [] ∷ fs) (none-of-quantities qs rest n is) ∙ ap (λ k. replicate k []) e

none-of-events : (events : List NamedEvent) → flat_map no_fields events ≡ replicate (2 * length events) []
none-of-events [] = refl
none-of-events (event ∷ events) =
    let e : suc (suc (2 * length events)) ≡ 2 * suc (length events) = omega arith in
    ap (λ (fs : List (List ℕ)). [] ∷ [] ∷ fs) (none-of-events events) ∙ ap (λ k. replicate k []) e

pub unmet : UnmetPathsAreEmpty
unfolding path_row
unmet net seed steps stream limit =
    let e : suc (suc (length (quantities net) + 2 * length net.events)) ≡ 2 + length (quantities net) + 2 * length net.events = omega arith in
    ap (λ (fs : List (List ℕ)). decimal stream ∷ [] ∷ [] ∷ fs) (none-of-quantities (quantities net) (flat_map no_fields net.events) (2 * length net.events) (none-of-events net.events))
    ∙ ap (λ k. decimal stream ∷ replicate k []) e
